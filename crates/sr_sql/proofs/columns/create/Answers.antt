use Rattle.sr_sql.specs.Next.{word_of}
use Rattle.sr_sql.proofs.Spelled.{create_got}
use Rattle.sr_sql.proofs.columns.create.Goals as goal

pub returns : goal.returns
returns c =
    create_got c.args.cursor.now c.word.new.self c.word-2.new.self c.name.new.self c.enclosed_list.new.cursor c.in_ok-word.field-0 c.in_ok-word-2.field-0 (word_of c.in_ok-name.name) c.in_ok-columns.columns
    c.in_ok-word.ensures c.in_ok-word-2.ensures c.in_ok-name.ensures c.in_ok-columns.ensures
