use Rattle.std.proofs.Common.{arith, refl, ◌∙◌, ap, subst, sym}
use Rattle.std.specs.Prelude.{IfSome, slice_set}
use Rattle.std.proofs.lemmas.Bool.Decides.{nat_tests}
use Rattle.sr_union.specs.Joined.{IsBoth}
use Rattle.sr_union.proofs.Joined.{AreTwins, fits_at, twin_column, twins_from, twins_given, twins-joined}
use Rattle.sr_union.proofs.join.join_two.Goals as goal

twins : (c : goal.After-index-theirs-k-2) → AreTwins c.args.columns.now c.as_slice-ours.result.now c.as_slice-theirs.result.now c.same_head-k.result
twins c =
    let few = c.same_head-k.ensures.few in let not = c.if-k-ours.false in
    twins_from c.args.columns.now c.args.one.now c.args.other.now c.as_slice-ours.result.now c.as_slice-theirs.result.now c.same_head-k.result c.as_slice-ours.ensures c.as_slice-theirs.ensures
    c.requires.fits c.requires.other_fits (grind (arith, nat_tests, few, not)) c.same_head-k.ensures.same (c.if-not-are_same.ensures refl)

pub join_spans-requires-clause-fits : goal.join_spans-requires-clause-fits
join_spans-requires-clause-fits c = let two = twins c in
    fits_at c.args.columns.now c.as_slice-ours.result.now c.same_head-k.result c.index-columns-k.result c.index-ours-k-2.result two.fits two.is_column c.index-columns-k.is c.index-ours-k-2.is

pub join_spans-requires-clause-other_fits : goal.join_spans-requires-clause-other_fits
join_spans-requires-clause-other_fits c = let two = twins c in
    fits_at c.args.columns.now c.as_slice-theirs.result.now c.same_head-k.result c.index-columns-k.result c.index-theirs-k-2.result two.other_fits
    (twin_column c.args.columns.now c.as_slice-ours.result.now c.as_slice-theirs.result.now c.same_head-k.result two) c.index-columns-k.is c.index-theirs-k-2.is

pub returns-in_ok-with-in-Some : goal.returns-in_ok-with-in-Some
returns-in_ok-with-in-Some c =
    let k = c.same_head-k.result in let ours = c.as_slice-ours.result.now in let theirs = c.as_slice-theirs.result.now in let both = c.in_ok-with-in-Some.field-0 in
    let few = c.same_head-k.ensures.few in let not = c.if-k-ours.false in
    let two = twins_from c.args.columns.now c.args.one.now c.args.other.now ours theirs k c.as_slice-ours.ensures c.as_slice-theirs.ensures
    c.requires.fits c.requires.other_fits (grind (arith, nat_tests, few, not)) c.same_head-k.ensures.same (c.if-not-are_same.ensures refl) in
    let is = subst (λ some. IfSome some (IsBoth c.index-columns-k.result c.index-ours-k-2.result c.index-theirs-k-2.result)) c.in-Some.is c.in_ok-both.ensures in
    let set = c.in_ok-with-in-Some.ensures ∙ ap (λ r. slice_set r k c.in-Some.both) (sym c.as_slice-ours.ensures) in
    twins_given c.args.columns.now c.args.one.now c.args.other.now ours theirs both c.as_slice-ours.ensures c.as_slice-theirs.ensures
    (twins-joined c.args.columns.now ours theirs both k c.index-columns-k.result c.index-ours-k-2.result c.index-theirs-k-2.result c.in-Some.both two
    c.index-columns-k.is c.index-ours-k-2.is c.index-theirs-k-2.is is set)
