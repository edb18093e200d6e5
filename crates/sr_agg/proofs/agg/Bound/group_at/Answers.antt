use Rattle.std.proofs.Common.{rules, ◌≡◌, ◌∙◌, Some, sym, ap, map, take}
use Rattle.std.specs.Prelude.{None, slice_get}
use Rattle.sr_query.specs.Bound.{output_of}
use Rattle.sr_agg.specs.Starting.{same_among}
use Rattle.sr_agg.proofs.Outputs.{group-found, group-none}
use Rattle.sr_agg.proofs.agg.Bound.group_at.Goals as goal

pub returns-in-Some : goal.returns-in-Some
returns-in-Some c =
    let there : slice_get c.args.self.query.now.output c.args.place ≡ Some c.in-Some.output.now = sym c.in-Some.ensures in
    let front : c.first.result.now ≡ take c.args.self.listing.now.groups c.args.self.query.now.output = search rules in
    c.same_among.ensures
    ∙ (ap (λ zs. same_among 0 (output_of c.in-Some.output.now) (map output_of zs)) front
    ∙ sym (group-found c.args.self.query.now.output c.args.self.listing.now.groups c.args.place c.in-Some.output.now there))

pub returns-in-None : goal.returns-in-None
returns-in-None c =
    let there : slice_get c.args.self.query.now.output c.args.place ≡ None = sym c.in-None.ensures in
    group-none c.args.self.query.now.output c.args.self.listing.now.groups c.args.place there
