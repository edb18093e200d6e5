use Rattle.std.proofs.Common.{map}
use Rattle.sr_words.proofs.Ranges.{read_in_range}
use Rattle.sr_words.proofs.read.command_of.Goals as goal

pub returns-in-Ok-clause-in_range : goal.returns-in-Ok-clause-in_range
returns-in-Ok-clause-in_range c = read_in_range (map (λ w. w.now) c.as_slice.result.now) c.command_in.result c.command_in.ensures
