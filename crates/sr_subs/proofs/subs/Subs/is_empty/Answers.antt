use Rattle.std.proofs.Common.{ap, ◌∙◌}
use Rattle.std.specs.List.{list_all}
use Rattle.sr_union.specs.Search.{is_nothing}
use Rattle.sr_subs.proofs.Empty.{empty_where_bare}
use Rattle.sr_subs.proofs.subs.Subs.is_empty.Goals as goal

pub returns : goal.returns
returns c = empty_where_bare c.args.self.now c.are_bare.result c.requires.points (c.are_bare.ensures ∙ ap (list_all (λ h. is_nothing h.rects)) (c.as_slice.ensures ∙ c.self.view_is))
