use Rattle.std.proofs.Common.{◌≡◌, ap, ◌∙◌}
use Rattle.std.specs.Prelude.{not, filter}
use Rattle.sr_region.specs.Regions.{is_in}
use Rattle.sr_region.specs.Halves.{half_of}
use Rattle.sr_region.proofs.halves.halves_of.Goals as goal

pub returns-clause-outside : goal.returns-clause-outside
returns-clause-outside c =
    let rows : c.from_vec.result.items ≡ c.args.whole.rows = c.from_vec.ensures.items ∙ c.into_vec-rows.ensures ∙ c.replace.ensures.value in
    c.half_of-2.ensures.is
    ∙ ap (half_of c.args.whole c.args.rects.outside)
    (c.from_vec-3.ensures ∙ c.cut_rows-rows.ensures.outside ∙ ap (filter (λ row. not (is_in c.args.whole.attrs c.args.cut.now row))) rows)
