use Rattle.std.proofs.Common.{◌≡◌, drop, [], map, IsTrue}
use Rattle.sr_grammar.specs.Seen.{select_seen}
use Rattle.sr_query.specs.Binding.{tables_from, sources}
use Rattle.sr_resolve.specs.Known.{are_known}
use Rattle.sr_resolve.specs.Steps.{join_word}
use Rattle.sr_resolve.proofs.tables.tables.Given as goal

abbrev pub invariant-loop-join : goal.invariant-loop-join
invariant-loop-join l =
    (tables_from l.schema l.named (map join_word (drop l.join-index l.select.joins)) ≡ tables_from l.schema [] (sources (select_seen l.select)))
    × IsTrue (are_known l.schema l.named)
