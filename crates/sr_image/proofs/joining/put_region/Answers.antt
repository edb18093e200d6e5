use Rattle.std.proofs.Common.{◌≡◌, ℕ, ◌+◌, ◌∙◌, ◌≤◌, List, ◌∷◌, ◌++◌, true, false, length, take, drop, sym, ap, subst, arith}
use Rattle.std.specs.Prelude.{slice_get, Some, OnOk}
use Rattle.std.proofs.lemmas.List.Sums.{prefix_len-le-length}
use Rattle.sr_store.specs.declared.start.Kept.{Kept}
use Rattle.sr_image.specs.Joining.{is_of, is_of_at, joined, kept_from, place_of, stands_before, with_region}
use Rattle.sr_image.proofs.Placing.{put-joined, put-new, put-back}
use Rattle.sr_image.proofs.joining.put_region.Goals as goal

pub insert-requires-2 : goal.insert-requires-2
insert-requires-2 c =
    let few = prefix_len-le-length (stands_before c.args.region.now) c.args.kept.now in
    omega (arith, few, c.place_of-place.ensures ∙ ap (place_of c.args.region.now) c.as_slice.ensures)

pub returns-then-is_part_of : goal.returns-then-is_part_of
returns-then-is_part_of c =
    let kept : List Kept = c.args.kept.now in
    let p : ℕ = c.place_of-place.result in
    let is : p ≡ place_of c.args.region.now kept = c.place_of-place.ensures ∙ ap (place_of c.args.region.now) c.as_slice.ensures in
    let few = prefix_len-le-length (stands_before c.args.region.now) kept in
    let within : p ≤ length kept = omega (arith, few, is) in
    let there : slice_get kept (place_of c.args.region.now kept) ≡ Some c.remove-part.result = ap (slice_get kept) (sym is) ∙ c.remove-part.ensures.taken in
    let same : is_of c.args.region.now c.remove-part.result ≡ true = sym (c.if-is_part_of.ensures ∙ ap (is_of_at c.args.region.now) c.remove-part.ensures.taken) in
    subst (λ (xs : List Kept). OnOk c.insert.result (c.insert.new.self ≡ xs))
    (ap (λ (xs : List Kept). take p xs ++ c.in_ok-joined.field-0 ∷ drop p xs) c.remove-part.ensures.removed ∙ put-back kept c.in_ok-joined.field-0 p within
    ∙ ap (λ (y : Kept). take p kept ++ y ∷ drop (p + 1) kept) c.in_ok-joined.ensures
    ∙ ap (λ n. take n kept ++ joined c.remove-part.result c.args.region.now ∷ drop (n + 1) kept) is
    ∙ sym (put-joined kept c.args.region.now c.remove-part.result there same)) c.insert.ensures.inserted

pub returns : goal.returns
returns c =
    let kept : List Kept = c.args.kept.now in
    let p : ℕ = c.place_of-place.result in
    let is : p ≡ place_of c.args.region.now kept = c.place_of-place.ensures ∙ ap (place_of c.args.region.now) c.as_slice.ensures in
    let none : is_of_at c.args.region.now (slice_get kept (place_of c.args.region.now kept)) ≡ false = ap (λ n. is_of_at c.args.region.now (slice_get kept n)) (sym is) ∙ sym c.if-is_part_of.ensures in
    subst (λ (xs : List Kept). OnOk c.insert-2.result (c.insert-2.new.self ≡ xs))
    (ap (λ (y : Kept). take p kept ++ y ∷ drop p kept) c.in_ok-kept_from.ensures
    ∙ ap (λ n. take n kept ++ kept_from c.args.region.now ∷ drop n kept) is
    ∙ sym (put-new kept c.args.region.now none)) c.insert-2.ensures.inserted
