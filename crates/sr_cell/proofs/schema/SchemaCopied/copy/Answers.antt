use Rattle.std.proofs.Common.{◌∙◌}
use Rattle.sr_cell.proofs.TableNames.{names-clone}
use Rattle.sr_cell.proofs.schema.SchemaCopied.copy.Goals as goal

pub invariant_of-result : goal.invariant_of-result
invariant_of-result c =
    let names = names-clone c.self.inside.names.keys c.in_ok-clone.field-0.keys c.in_ok-clone.ensures.cases in
    rw c.in_ok-copy.ensures (names ∙ c.self.invariant.0, c.self.invariant.1)
