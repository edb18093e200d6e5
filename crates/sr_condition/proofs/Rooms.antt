-- The width is the room, up to a cap.
use Rattle.std.proofs.Common.{◌≡◌, ℕ, zero, suc, ◌+◌, ◌*◌, ◌<◌, ◌≤◌, true, false, refl, arith, inl, inr}
use Rattle.std.specs.Prelude.{Bool, List, min}
use Rattle.std.proofs.Math.Nat.{le-mul_of_pos_right, mul_comm}
use Rattle.std.proofs.lemmas.Bool.{cases_lt}
use Rattle.sr_cell.specs.declared.table.Column.{Column}
use Rattle.sr_box.specs.Points.{Rect}
use Rattle.sr_model.specs.Conditions.{Cond, Conds, Tests, And, Or, Not, none, more}
use Rattle.sr_model.specs.Width.{capped, width, product, total}
use Rattle.sr_query.specs.Bound.{AreRectsOf}
use Rattle.sr_condition.specs.Said.{room, room_times, room_sum, AreRects}

plus-capped : (a b : ℕ) → capped (capped a + capped b) ≡ capped (a + b)
plus-capped a b = omega arith

-- a product with a large factor is large, or nothing
large : (k a b : ℕ) → 1 ≤ k → k ≤ a → min (k * min b k) k ≡ min (a * b) k
large k a zero p l = let e : min 0 k ≡ 0 = omega arith in rw e (omega arith)
large k a (suc b) p l =
    let x : 0 < min (suc b) k = omega arith in
    let y = le-mul_of_pos_right k x in
    let z : a ≤ a * suc b = omega arith in omega (arith, y, z, l)

times-capped : (a b : ℕ) → capped (capped a * capped b) ≡ capped (a * b)
times-capped a b = elim (cases_lt a 65536) [
  | inl small ↦ elim (cases_lt b 65536) [
    | inl little ↦ let e : min a 65536 ≡ a = omega arith in let f : min b 65536 ≡ b = omega arith in rw (e, f) refl
    | inr big ↦ let e : min b 65536 ≡ 65536 = omega arith in rw e (let l = large 65536 b a (omega arith) big in let m = mul_comm (min a 65536) 65536 in let n = mul_comm a b in rw (m, n) l)
  ]
  | inr big ↦ let e : min a 65536 ≡ 65536 = omega arith in rw e (large 65536 a b (omega arith) big)
]

mutual
  width-room : (plain : Bool) (c : Cond) → width plain c ≡ capped (room plain c)
  width-room true (Tests c t) = refl
  width-room false (Tests c t) = refl
  width-room true (And cs) = product-room true cs
  width-room false (And cs) = total-room false cs
  width-room true (Or cs) = total-room true cs
  width-room false (Or cs) = product-room false cs
  width-room true (Not c) = width-room false c
  width-room false (Not c) = width-room true c

  product-room : (plain : Bool) (cs : Conds) → product plain cs ≡ capped (room_times plain cs)
  product-room plain none = omega arith
  product-room plain (more c cs) = rw (width-room plain c, product-room plain cs) (times-capped (room plain c) (room_times plain cs))

  total-room : (plain : Bool) (cs : Conds) → total plain cs ≡ capped (room_sum plain cs)
  total-room plain none = omega arith
  total-room plain (more c cs) = rw (width-room plain c, total-room plain cs) (plus-capped (room plain c) (room_sum plain cs))

pub rects-of : (columns : List Column) (c : Cond) (rects : List Rect) → width true c ≤ 64 → AreRects columns true c rects → AreRectsOf columns c rects
rects-of columns c rects narrow are = record {
  fits = are.fits;
  points = are.points;
  few = let w = width-room true c in let f = are.few in omega (arith, w, f, narrow);
  ends = are.ends;
}
