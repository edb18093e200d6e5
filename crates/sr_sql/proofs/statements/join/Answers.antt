use Rattle.sr_sql.specs.Next.{word_of}
use Rattle.sr_sql.proofs.Spelled.{join_got}
use Rattle.sr_sql.proofs.statements.join.Goals as goal

pub returns : goal.returns
returns c =
    join_got c.args.cursor.now c.join_word.new.cursor c.name.new.self c.word.new.self c.reference.new.cursor c.mark.new.self c.reference-2.new.cursor c.in_ok-join_word.field-0 c.in_ok-mark.field-0
    c.in_ok-place.place (word_of c.in_ok-table.table) c.in_ok-left.left c.in_ok-right.right c.in_ok-join_word.ensures c.in_ok-table.ensures c.in_ok-place.ensures c.in_ok-left.ensures c.in_ok-mark.ensures c.in_ok-right.ensures
