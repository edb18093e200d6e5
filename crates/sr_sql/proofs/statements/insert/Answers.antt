use Rattle.sr_sql.specs.Next.{word_of}
use Rattle.sr_sql.proofs.Spelled.{insert_got}
use Rattle.sr_sql.proofs.statements.insert.Goals as goal

pub returns : goal.returns
returns c =
    insert_got c.args.cursor.now c.word.new.self c.word-2.new.self c.name.new.self c.column_names.new.cursor c.word-3.new.self c.list.new.cursor c.in_ok-word.field-0 c.in_ok-word-2.field-0 c.in_ok-word-3.field-0
    (word_of c.in_ok-table.table) c.in_ok-columns.columns c.in_ok-rows.rows c.in_ok-word.ensures c.in_ok-word-2.ensures c.in_ok-table.ensures c.in_ok-columns.ensures c.in_ok-word-3.ensures c.in_ok-rows.ensures
