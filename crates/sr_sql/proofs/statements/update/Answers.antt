use Rattle.sr_grammar.specs.Says.{most_levels}
use Rattle.sr_grammar.specs.Seen.{filter_seen}
use Rattle.sr_sql.specs.Next.{word_of}
use Rattle.sr_sql.specs.Seen.{where_seen}
use Rattle.sr_sql.proofs.Filtered.{update_got}
use Rattle.sr_sql.proofs.statements.update.Goals as goal

pub returns : goal.returns
returns c =
    update_got most_levels c.args.cursor.now c.word.new.self c.name.new.self c.word-2.new.self c.list.new.cursor c.filter.new.cursor c.in_ok-word.field-0 c.in_ok-word-2.field-0
    (word_of c.in_ok-table.table) c.in_ok-sets.sets (where_seen c.in_ok-filter.field-0) (filter_seen c.parts-filter.result.0)
    c.in_ok-word.ensures c.in_ok-table.ensures c.in_ok-word-2.ensures c.in_ok-sets.ensures c.in_ok-filter.ensures c.parts-filter.ensures.cond
