use Rattle.std.proofs.Common.{◌∙◌, ap}
use Rattle.std.specs.Prelude.{◌||◌}
use Rattle.sr_cell.specs.Attrs.{has_column}
use Rattle.sr_trim.proofs.Columns.{or_column}
use Rattle.sr_trim.proofs.trim.both.Goals as goal

pub returns : goal.returns
returns c = λ k.
    or_column c.a.inside.0 c.b.inside.0 k ∙ (ap (λ n. has_column n k || has_column c.b.inside.0 k) c.a.view_is ∙ ap (λ n. has_column c.args.a k || has_column n k) c.b.view_is)
