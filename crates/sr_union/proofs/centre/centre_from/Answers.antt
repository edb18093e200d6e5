use Rattle.std.proofs.Common.{◌≡◌, [], ◌∷◌, ◌++◌, ◌∙◌, true, ap, subst, sym}
use Rattle.sr_cell.specs.Columns.{in_column}
use Rattle.sr_cell.specs.declared.table.Column.{Column}
use Rattle.sr_box.specs.Corners.{first_value}
use Rattle.sr_union.specs.Grid.{is_inner}
use Rattle.sr_union.specs.Centre.{centre_from}
use Rattle.sr_union.proofs.Middles.{centre_start, centre_more, all_fit-at, inner-at, first-at, held}
use Rattle.sr_union.proofs.centre.centre_from.Goals as goal

pub loop-k-init : goal.loop-k-init
loop-k-init c = centre_start c.args.columns.now c.args.first.now c.args.others.now c.new-sums.result c.new-sums.ensures

pub middle_at-requires-clause-fit : goal.middle_at-requires-clause-fit
middle_at-requires-clause-fit c = all_fit-at c.args.columns.now (c.args.first.now ∷ c.args.others.now) c.loop-k.k c.index-columns-k.result c.requires.fit c.loop-k-test.true c.index-columns-k.is

pub middle_at-requires-clause-inner : goal.middle_at-requires-clause-inner
middle_at-requires-clause-inner c = subst (λ x. is_inner x ≡ true) (sym c.index-columns-k.is) (inner-at c.args.columns.now c.loop-k.k c.index-columns-k.result c.requires.inner c.loop-k-test.true)

pub middle_at-requires-clause-first : goal.middle_at-requires-clause-first
middle_at-requires-clause-first c =
    subst (λ (x : Column). in_column x (first_value x.kind x.lo) ≡ true) (sym c.index-columns-k.is) (first-at c.args.columns.now c.loop-k.k c.index-columns-k.result c.requires.first c.loop-k-test.true)

pub loop-k-preserved : goal.loop-k-preserved
loop-k-preserved c =
    centre_more c.args.columns.now c.args.first.now c.args.others.now c.loop-k.sums c.push.new.self c.loop-k.k c.index-columns-k.result c.middle_at.result (centre_from c.args.columns.now c.args.first.now c.args.others.now)
    c.loop-k-test.true c.index-columns-k.is c.loop-k.invariant c.middle_at.ensures (c.in_ok-push.ensures.pushed ∙ ap (λ z. c.loop-k.sums ++ z ∷ []) (held c.middle_at.result (record { sfits = c.middle_at.type_inv })))
