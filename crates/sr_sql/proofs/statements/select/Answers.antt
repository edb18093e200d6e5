use Rattle.sr_grammar.specs.Says.{most_levels}
use Rattle.sr_grammar.specs.Seen.{filter_seen}
use Rattle.sr_sql.specs.Next.{word_of}
use Rattle.sr_sql.specs.Seen.{where_seen, shown_seen}
use Rattle.sr_sql.proofs.Filtered.{select_got}
use Rattle.sr_sql.proofs.statements.select.Goals as goal

pub returns : goal.returns
returns c =
    select_got most_levels c.args.cursor.now c.word.new.self c.listed.new.cursor c.word-2.new.self c.name.new.self c.joins.new.cursor c.filter.new.cursor c.in_ok-word.field-0
    c.in_ok-word-2.field-0 (shown_seen c.in_ok-listed.listed) (word_of c.in_ok-first.first) c.in_ok-joins.joins (where_seen c.in_ok-filter.field-0) (filter_seen c.parts-filter.result.0) c.parts-filter.result.1
    c.in_ok-word.ensures c.in_ok-listed.ensures c.in_ok-word-2.ensures c.in_ok-first.ensures c.in_ok-joins.ensures c.in_ok-filter.ensures c.parts-filter.ensures.cond c.parts-filter.ensures.place
