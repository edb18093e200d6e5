use Rattle.sr_grammar_laws.specs.Readers.{reference}
use Rattle.sr_agg.proofs.Reading.{leaves-reference, less}
use Rattle.sr_agg.proofs.read.grouping.Goals as goal

pub list-requires : goal.list-requires
list-requires c = less reference leaves-reference
