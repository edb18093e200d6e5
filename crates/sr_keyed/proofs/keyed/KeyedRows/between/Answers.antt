use Rattle.std.proofs.Common.{◌≡◌, true, false, ◌∙◌, refl, arith}
use Rattle.std.specs.Prelude.{filter}
use Rattle.std.specs.Option.{option_copied}
use Rattle.std.specs.Range.Bound.{bound_map}
use Rattle.std.specs.Map.{values_of}
use Rattle.std.specs.BTreeMap.Range.{entries_between}
use Rattle.std.proofs.lemmas.Result.{IfOk-weaker}
use Rattle.sr_keyed.specs.Keyed.{is_between}
use Rattle.sr_keyed.specs.Entries.{low_of, are_ends}
use Rattle.sr_keyed.proofs.Order.{order}
use Rattle.sr_keyed.proofs.Between.{between-rows, ends-forward, none-between}
use Rattle.sr_keyed.proofs.keyed.KeyedRows.between.Goals as goal

pub returns-then-not-are_ends : goal.returns-then-not-are_ends
returns-then-not-are_ends c =
    let ends : are_ends c.self.inside.kind (low_of c.self.inside.kind (option_copied c.args.low)) (option_copied c.args.high) ≡ false =
    rw (← c.low_of-low.ensures) (grind (arith, c.if-not-are_ends.true, c.are_ends.ensures)) in
    let none = none-between c.self.inside.key c.self.inside.kind (option_copied c.args.low) (option_copied c.args.high) c.self.inside.rows.entries c.self.invariant.0 ends in
    rw (← c.self.view_is, c.new.ensures.items, none) refl

pub rows_between-requires : goal.rows_between-requires
rows_between-requires c =
    let ends : are_ends c.self.inside.kind (low_of c.self.inside.kind (option_copied c.args.low)) (option_copied c.args.high) ≡ true =
    rw (← c.low_of-low.ensures) (grind (arith, c.if-not-are_ends.false, c.are_ends.ensures)) in
    rw (c.bound_of.ensures, c.bound_of-2.ensures, c.low_of-low.ensures)
    (ends-forward c.self.inside.kind (low_of c.self.inside.kind (option_copied c.args.low)) (option_copied c.args.high) ends)

pub returns : goal.returns
returns c =
    let ends : are_ends c.self.inside.kind (low_of c.self.inside.kind (option_copied c.args.low)) (option_copied c.args.high) ≡ true =
    rw (← c.low_of-low.ensures) (grind (arith, c.if-not-are_ends.false, c.are_ends.ensures)) in
    let same : values_of (entries_between order (bound_map (λ x. x.now) c.bound_of.result) (bound_map (λ x. x.now) c.bound_of-2.result) c.self.inside.rows.entries)
    ≡ filter (is_between c.self.inside.key (option_copied c.args.low) (option_copied c.args.high)) (values_of c.self.inside.rows.entries) =
    rw (c.bound_of.ensures, c.bound_of-2.ensures, c.low_of-low.ensures)
    (between-rows c.self.inside.key c.self.inside.kind (option_copied c.args.low) (option_copied c.args.high) c.self.inside.rows.entries c.self.invariant.0 ends) in
    IfOk-weaker c.rows_between.result _ _ (λ rows h. rw (← c.self.view_is) (h ∙ same)) c.rows_between.ensures
