use Rattle.std.proofs.Common.{refl, subst, List}
use Rattle.sr_cell.specs.declared.table.Table.{Table}
use Rattle.sr_reader.specs.LineSeen.{words_seen}
use Rattle.sr_reader.specs.Meaning.{IsSaid}
use Rattle.sr_keyset.proofs.Owning.{hands-other}
use Rattle.sr_keyset.proofs.jobs.other_line.Goals as goal

pub returns-clause-hands : goal.returns-clause-hands
returns-clause-hands c said rest says own =
    hands-other c.args.tables.now said says c.args.line.number rest (words_seen c.args.line.words) c.in_ok-event.event _
    (subst (λ (t : List Table). IsSaid t (words_seen c.args.line.words) c.in_ok-event.event) c.schema.ensures.same c.in_ok-event.ensures) own c.requires.other refl
