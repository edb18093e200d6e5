-- Where all classes are dropped nothing is held, and all that a query means has to be asked.
use Rattle.std.proofs.Common.{◌≡◌, ℕ, Bool, true, false, List, [], ◌∷◌, refl, sym, ◌∙◌, ap, subst, arith}
use Rattle.std.specs.Prelude.{◌&&◌, ◌||◌, ◌==◌, not, if◌then◌else◌}
use Rattle.std.specs.List.{list_any}
use Rattle.std.proofs.lemmas.Bool.Decides.{nat_tests}
use Rattle.sr_cell.specs.declared.cause.Cause.{Cause}
use Rattle.sr_cell.specs.declared.table.Table.{Table}
use Rattle.sr_cell.specs.Attrs.{includes}
use Rattle.sr_cell.specs.Cells.{Row}
use Rattle.sr_cell.specs.Columns.{table_at, is_point}
use Rattle.sr_box.specs.Points.{in_any}
use Rattle.sr_message.specs.declared.message.AskPart.{AskPart}
use Rattle.sr_model.specs.Queries.{Part, points_of}
use Rattle.sr_history.specs.declared.mark.Mark.{Mark}
use Rattle.sr_history.specs.declared.mark.Mark.TheVariants.{Held, Dropped}
use Rattle.sr_history.specs.Marks.{attrs_of, concerns, is_held, is_covered, HoldsNothing, with_marks}
use Rattle.sr_history.specs.Rests.{Asks, nothing, covered, asked}
use Rattle.sr_history.specs.Classes.{Numbered, Class, in_class, same_class, stamp}
use Rattle.sr_history.specs.Drops.{DropsEach, DropsAll}
use Rattle.sr_session.proofs.MarkLemmas.{AreDrops, all-drop}

-- some of these drops concerns the point
abbrev dropped_at : List Mark → ℕ → ℕ → Row → Bool
dropped_at ms t a p = list_any (λ m. concerns m t a p) ms

-- drops take away what they concern, and leave the rest as it was
after-drops : (ms old : List Mark) → AreDrops ms → (t a : ℕ) (p : Row) → is_held (with_marks old ms) t a p ≡ (if dropped_at ms t a p then false else is_held old t a p)
after-drops [] old all t a p = refl
after-drops (Held u b rects ∷ ms) old all t a p = absurd all.0
after-drops (Dropped cause u b stamp rects ∷ ms) old all t a p = after-drops ms (Dropped cause u b stamp rects ∷ old) all.1 t a p ∙ go ((u == t && b == a) && in_any rects p) (dropped_at ms t a p)
  where
    go : (x y : Bool) → (if y then false else (if x then false else is_held old t a p)) ≡ (if x || y then false else is_held old t a p)
    go true true = refl
    go true false = refl
    go false y = refl

same-parts : (k n : Class) → same_class k n ≡ true → (k.table ≡ n.table) × (k.attrs ≡ n.attrs) × (k.stamp ≡ n.stamp)
same-parts k n e = (grind (arith, nat_tests, e), grind (arith, nat_tests, e), grind (arith, nat_tests, e))

-- a point of one of the classes is concerned by its drop
class-dropped : (schema : List Table) (marks : List Mark) (queries : List Numbered) (cause : Cause) (classes : List Class) (drops : List Mark) → DropsEach schema marks queries cause classes drops
    → (k : Class) → list_any (same_class k) classes ≡ true → (p : Row) → is_point (table_at schema k.table).columns p ≡ true → in_class marks queries k p ≡ true → dropped_at drops k.table k.attrs p ≡ true
class-dropped schema marks queries cause [] drops h k among p point inside = absurd (cc)
class-dropped schema marks queries cause (n ∷ classes) [] h k among p point inside = absurd h
class-dropped schema marks queries cause (n ∷ classes) (Held u b rects ∷ drops) h k among p point inside = absurd h.0
class-dropped schema marks queries cause (n ∷ classes) (Dropped why u b st rects ∷ drops) h k among p point inside =
    go (same_class k n) refl among (λ there. class-dropped schema marks queries cause classes drops h.1 k there p point inside)
  where
    go : (x : Bool) → same_class k n ≡ x → (x || list_any (same_class k) classes) ≡ true → (list_any (same_class k) classes ≡ true → dropped_at drops k.table k.attrs p ≡ true)
        → (((u == k.table && b == k.attrs) && in_any rects p) || dropped_at drops k.table k.attrs p) ≡ true
    go true e is ih =
        let same = same-parts k n e in
        let table : u ≡ k.table = h.0.1 ∙ sym same.0 in
        let attrs : b ≡ k.attrs = h.0.2 ∙ sym same.1 in
        let class : in_class marks queries n p ≡ in_class marks queries k p =
        ap (λ t. is_held marks t n.attrs p && stamp queries t n.attrs p == n.stamp) (sym same.0)
        ∙ (ap (λ a. is_held marks k.table a p && stamp queries k.table a p == n.stamp) (sym same.1) ∙ ap (λ s. is_held marks k.table k.attrs p && stamp queries k.table k.attrs p == s) (sym same.2)) in
        let here : in_any rects p ≡ true = h.0.5 p (subst (λ t. is_point (table_at schema t).columns p ≡ true) (sym table) point) ∙ (class ∙ inside) in
        let first : (u == k.table) ≡ true = grind (arith, nat_tests, table) in
        let second : (b == k.attrs) ≡ true = grind (arith, nat_tests, attrs) in
        rw (first, second, here) refl
    go false e is ih = let there = ih is in grind (arith, there)

pub all-dropped : (schema : List Table) (marks : List Mark) (queries : List Numbered) (cause : Cause) (drops : List Mark) → DropsAll schema marks queries cause drops → HoldsNothing schema (with_marks marks drops)
all-dropped schema marks queries cause drops h t a p point =
    after-drops drops marks (all-drop schema marks queries cause drops h) t a p ∙ by (is_held marks t a p) refl
  where
    by : (b : Bool) → is_held marks t a p ≡ b → (if dropped_at drops t a p then false else b) ≡ false
    by false e = go (dropped_at drops t a p)
      where
        go : (x : Bool) → (if x then false else false) ≡ false
        go true = refl
        go false = refl
    by true e =
        let k : Class = record { table = t; attrs = a; stamp = stamp queries t a p } in
        let stamped : (stamp queries t a p == stamp queries t a p) ≡ true = grind (arith, nat_tests) in
        let inside : in_class marks queries k p ≡ true = rw (e, stamped) refl in
        let among = (h.1.each k).1 (p, point, inside) in
        let gone : dropped_at drops t a p ≡ true = class-dropped schema marks queries cause h.0 drops h.2 k among p point inside in
        rw gone refl

-- ---- the second ask

none-covered : (schema : List Table) (marks : List Mark) → HoldsNothing schema marks → (t need : ℕ) (p : Row) → is_point (table_at schema t).columns p ≡ true → (ms : List Mark)
    → list_any (λ mark. includes (attrs_of mark) need && is_held marks t (attrs_of mark) p) ms ≡ false
none-covered schema marks none t need p point [] = refl
none-covered schema marks none t need p point (mark ∷ ms) =
    let here : is_held marks t (attrs_of mark) p ≡ false = none t (attrs_of mark) p point in
    let rest = none-covered schema marks none t need p point ms in
    grind (arith, here, rest)

-- where something was asked of the parts, something is asked of them where nothing is held
pub asks-some : (schema : List Table) (before after : List Mark) → HoldsNothing schema after → (parts : List Part) (asks whole : List AskPart) → Asks schema before parts asks → Asks schema after parts whole
    → (asks ≡ [] → ⊥) → whole ≡ [] → ⊥
asks-some schema before after none parts asks whole nothing w some is = some refl
asks-some schema before after none parts asks whole (covered part others more free rest) (covered p os ms fr r) some is = asks-some schema before after none others more ms rest r some is
asks-some schema before after none parts asks whole (covered part others more free rest) (asked p os ask ms fr r) some is = absurd (cc)
asks-some schema before after none parts asks whole (asked part others ask more rest tail) (asked p os a ms fr r) some is = absurd (cc)
asks-some schema before after none parts asks whole (asked part others ask more rest tail) (covered p os ms free r) some is =
    let there = rest.some in
    let left : (points_of part there.0 && not (is_covered before part.table part.need there.0)) ≡ true = there.2 in
    let inside : points_of part there.0 ≡ true = grind (arith, left) in
    let uncovered : is_covered after part.table part.need there.0 ≡ false = none-covered schema after none part.table part.need there.0 there.1 after in
    let wrong : (points_of part there.0 && not (is_covered after part.table part.need there.0)) ≡ false = free there.0 there.1 in
    absurd (grind (arith, wrong, inside, uncovered))
