-- How many rows and classes marks keep.
use Rattle.std.proofs.Common.{◌≡◌, ℕ, suc, ◌+◌, ◌≤◌, Bool, true, false, List, [], ◌∷◌, ◌++◌, length, map, refl, sym, ◌∙◌, ap, subst, arith}
use Rattle.std.specs.Prelude.{◌&&◌, ◌||◌, ◌==◌, if◌then◌else◌, cond, sum_by, count_by}
use Rattle.std.specs.List.{list_all, list_any}
use Rattle.std.proofs.lemmas.Bool.Decides.{nat_tests}
use Rattle.sr_cell.specs.declared.table.Table.{Table}
use Rattle.sr_cell.specs.declared.cause.Cause.{Cause}
use Rattle.sr_cell.specs.Cells.{Row}
use Rattle.sr_cell.specs.Columns.{is_point, table_at}
use Rattle.sr_box.specs.Points.{in_any}
use Rattle.sr_model.specs.Queries.{rows_at}
use Rattle.sr_model.specs.Statements.{Tables}
use Rattle.sr_history.specs.declared.mark.Mark.{Mark}
use Rattle.sr_history.specs.declared.mark.Mark.TheVariants.{Held, Dropped}
use Rattle.sr_history.specs.Marks.{HoldsNothing, attrs_of, is_held}
use Rattle.sr_history.specs.Kept.{each_once, kept, kept_from, sets_of}
use Rattle.sr_history.specs.Classes.{AreClasses, Class, Numbered, ascending, in_class, in_class_order, same_class, stamp, stamp_from}
use Rattle.sr_history.specs.Drops.{IsDropOf}
use Rattle.sr_history.proofs.Marking.{held-set}
use Rattle.sr_history.proofs.SameClass.{same_class-sound}
use Rattle.sr_store.proofs.Totals.{total, total_is, total_none}
use Rattle.sr_session.proofs.MarkLemmas.{IsDrop}

-- ---- fewer points keep no more rows

count-less : (f g : Row → Bool) (rows : List Row) → ((p : Row) → f p ≡ true → g p ≡ true) → count_by f rows ≤ count_by g rows
count-less f g rows h = subst (λ n. n ≤ count_by g rows) (sym (total_is (λ p. cond (f p) 1 0) rows)) (subst (λ n. total (λ p. cond (f p) 1 0) rows ≤ n) (sym (total_is (λ p. cond (g p) 1 0) rows)) (by rows))
  where
    one : (p : Row) → cond (f p) 1 0 ≤ cond (g p) 1 0
    one p = go (f p) refl (g p) refl
      where
        go : (x : Bool) → f p ≡ x → (y : Bool) → g p ≡ y → cond x 1 0 ≤ cond y 1 0
        go true e true k = omega arith
        go true e false k = absurd (let yes = h p e in let wrong : true ≡ false = sym yes ∙ k in cc)
        go false e y k = omega arith

    by : (rows : List Row) → total (λ p. cond (f p) 1 0) rows ≤ total (λ p. cond (g p) 1 0) rows
    by [] = omega arith
    by (p ∷ rows) = omega (arith, one p, by rows)

total-less : (f g : ℕ → ℕ) (sets : List ℕ) → ((a : ℕ) → f a ≤ g a) → total f sets ≤ total g sets
total-less f g [] h = omega arith
total-less f g (a ∷ sets) h = omega (arith, h a, total-less f g sets h)

-- what a drop concerns is held no more
after-drop : (d : Mark) (marks : List Mark) → IsDrop d → (t a : ℕ) (p : Row) → is_held (d ∷ marks) t a p ≡ true → is_held marks t a p ≡ true
after-drop (Held u b rects) marks drop t a p is = absurd drop
after-drop (Dropped cause u b st rects) marks drop t a p is = go ((u == t && b == a) && in_any rects p) is
  where
    go : (x : Bool) → (if x then false else is_held marks t a p) ≡ true → is_held marks t a p ≡ true
    go true e = absurd (cc)
    go false e = e

none-counted : (f : Row → Bool) (rows : List Row) → ((p : Row) → f p ≡ false) → count_by f rows ≡ 0
none-counted f rows h = total_is (λ p. cond (f p) 1 0) rows ∙ total_none (λ p. cond (f p) 1 0) rows (λ p. ap (λ b. cond b 1 0) (h p))

-- the rows of a table that are held, under each set of columns
abbrev of_table : List Mark → ℕ → List Row → List ℕ → ℕ
of_table marks t rows sets = sum_by (λ attrs. count_by (is_held marks t attrs) rows) sets

module _ (d : Mark) (marks : List Mark) (drop : IsDrop d) where
  same-sets-less : (t : ℕ) (rows : List Row) (sets : List ℕ) → of_table (d ∷ marks) t rows sets ≤ of_table marks t rows sets
  same-sets-less t rows sets =
      let first = total_is (λ attrs. count_by (is_held (d ∷ marks) t attrs) rows) sets in
      let last = total_is (λ attrs. count_by (is_held marks t attrs) rows) sets in
      let less = total-less (λ attrs. count_by (is_held (d ∷ marks) t attrs) rows) (λ attrs. count_by (is_held marks t attrs) rows) sets (λ a. count-less (is_held (d ∷ marks) t a) (is_held marks t a) rows (after-drop d marks drop t a)) in
      omega (arith, first, last, less)

  table-less : (t : ℕ) (rows : List Row) → of_table (d ∷ marks) t rows (sets_of (d ∷ marks)) ≤ of_table marks t rows (sets_of marks)
  table-less t rows = go (list_any (λ y. attrs_of d == y) (map attrs_of marks)) refl
    where
      unheld : list_any (λ y. attrs_of d == y) (map attrs_of marks) ≡ false → (p : Row) → is_held (d ∷ marks) t (attrs_of d) p ≡ false
      unheld none p = by (is_held (d ∷ marks) t (attrs_of d) p) refl
        where
          by : (b : Bool) → is_held (d ∷ marks) t (attrs_of d) p ≡ b → b ≡ false
          by true e = absurd (let yes = held-set marks t (attrs_of d) p (after-drop d marks drop t (attrs_of d) p e) in let wrong : true ≡ false = sym yes ∙ none in cc)
          by false e = refl

      go : (b : Bool) → list_any (λ y. attrs_of d == y) (map attrs_of marks) ≡ b
          → of_table (d ∷ marks) t rows (if b then each_once (map attrs_of marks) else attrs_of d ∷ each_once (map attrs_of marks)) ≤ of_table marks t rows (sets_of marks)
      go true e = same-sets-less t rows (sets_of marks)
      go false e =
          let none : count_by (is_held (d ∷ marks) t (attrs_of d)) rows ≡ 0 = none-counted (is_held (d ∷ marks) t (attrs_of d)) rows (unheld e) in
          let first = total_is (λ attrs. count_by (is_held (d ∷ marks) t attrs) rows) (attrs_of d ∷ sets_of marks) in
          let last = total_is (λ attrs. count_by (is_held (d ∷ marks) t attrs) rows) (sets_of marks) in
          let rest = same-sets-less t rows (sets_of marks) in
          omega (arith, none, first, last, rest)

  from-less : (t : ℕ) (tables : Tables) → kept_from (d ∷ marks) t tables ≤ kept_from marks t tables
  from-less t [] = omega arith
  from-less t (rows ∷ tables) = omega (arith, table-less t rows, from-less (t + 1) tables)

pub kept-less : (tables : Tables) (d : Mark) (marks : List Mark) → IsDrop d → kept tables (d ∷ marks) ≤ kept tables marks
kept-less tables d marks drop = from-less d marks drop 0 tables

-- ---- where nothing is held no rows are kept

uncounted : (b : Bool) → b ≡ false → ◌≡◌ {A = ℕ} (cond b 1 0) 0
uncounted b e = ap (λ x. cond x 1 0) e

unheld-rows : (schema : List Table) (marks : List Mark) → HoldsNothing schema marks → (t a : ℕ) (rows : List Row) → list_all (is_point (table_at schema t).columns) rows ≡ true
    → total (λ p. cond (is_held marks t a p) 1 0) rows ≡ 0
unheld-rows schema marks none t a [] points = refl
unheld-rows schema marks none t a (p ∷ rows) points =
    let here : is_held marks t a p ≡ false = none t a p (grind arith) in
    let first = uncounted (is_held marks t a p) here in
    let rest = unheld-rows schema marks none t a rows (grind arith) in
    omega (arith, first, rest)

abbrev ArePoints : List Table → ℕ → Tables → Type 0
ArePoints schema t tables = (n : ℕ) → list_all (is_point (table_at schema (t + n)).columns) (rows_at tables n) ≡ true

unheld-from : (schema : List Table) (marks : List Mark) → HoldsNothing schema marks → (t : ℕ) (tables : Tables) → ArePoints schema t tables → kept_from marks t tables ≡ 0
unheld-from schema marks none t [] points = refl
unheld-from schema marks none t (rows ∷ tables) points =
    let e : t + 0 ≡ t = omega arith in
    let here : list_all (is_point (table_at schema t).columns) rows ≡ true = subst (λ u. list_all (is_point (table_at schema u).columns) rows ≡ true) e (points 0) in
    let first : sum_by (λ attrs. count_by (is_held marks t attrs) rows) (sets_of marks) ≡ 0 =
    total_is (λ attrs. count_by (is_held marks t attrs) rows) (sets_of marks)
    ∙ total_none (λ attrs. count_by (is_held marks t attrs) rows) (sets_of marks) (λ a. total_is (λ p. cond (is_held marks t a p) 1 0) rows ∙ unheld-rows schema marks none t a rows here) in
    let rest = unheld-from schema marks none (t + 1) tables (λ n. let m : t + suc n ≡ (t + 1) + n = omega arith in subst (λ u. list_all (is_point (table_at schema u).columns) (rows_at tables n) ≡ true) m (points (suc n))) in
    omega (arith, first, rest)

pub kept-none : (schema : List Table) (marks : List Mark) (tables : Tables) → HoldsNothing schema marks → ((t : ℕ) → list_all (is_point (table_at schema t).columns) (rows_at tables t) ≡ true) → kept tables marks ≡ 0
kept-none schema marks tables none points =
    unheld-from schema marks none 0 tables (λ n. let e : 0 + n ≡ n = omega arith in subst (λ u. list_all (is_point (table_at schema u).columns) (rows_at tables n) ≡ true) (sym e) (points n))

-- ---- where nothing is held there is no class

pub no-classes : (schema : List Table) (marks : List Mark) (queries : List Numbered) → HoldsNothing schema marks → AreClasses schema marks queries []
no-classes schema marks queries none = record {
  order = refl;
  each = λ k. (λ among. absurd (let wrong : false ≡ true = among in cc), λ some. absurd (let empty = none k.table k.attrs some.0 some.1 in let inside = some.2 in let wrong : is_held marks k.table k.attrs some.0 ≡ true = grind (arith, inside) in let no : true ≡ false = sym wrong ∙ empty in cc));
}

-- ---- a query that is not answered stamps nothing

stamp-still : (n : ℕ) (queries : List Numbered) (q : Numbered) → q.answered ≡ false → (t a : ℕ) (p : Row) → stamp_from n (queries ++ q ∷ []) t a p ≡ stamp_from n queries t a p
stamp-still n [] q none t a p = rw none refl
stamp-still n (x ∷ queries) q none t a p = let ih = stamp-still (n + 1) queries q none t a p in rw ih refl

pub classes-still : (schema : List Table) (marks : List Mark) (queries : List Numbered) (q : Numbered) (classes : List Class) → q.answered ≡ false → AreClasses schema marks queries classes
    → AreClasses schema marks (queries ++ q ∷ []) classes
classes-still schema marks queries q classes none are = record {
  order = are.order;
  each = λ k. (λ among. let h = (are.each k).0 among in (h.0, h.1, same k h.0 ∙ h.2), λ some. (are.each k).1 (some.0, some.1, sym (same k some.0) ∙ some.2));
}
  where
    same : (k : Class) (p : Row) → in_class marks (queries ++ q ∷ []) k p ≡ in_class marks queries k p
    same k p = ap (λ n. is_held marks k.table k.attrs p && n == k.stamp) (stamp-still 1 queries q none k.table k.attrs p)

-- ---- the classes without one

abbrev pub without : Class → List Class → List Class
without chosen [] = []
without chosen (k ∷ classes) = if same_class chosen k then without chosen classes else k ∷ without chosen classes

pub without-fewer : (chosen : Class) (classes : List Class) → length (without chosen classes) ≤ length classes
without-fewer chosen [] = omega arith
without-fewer chosen (k ∷ classes) = go (same_class chosen k) (without-fewer chosen classes)
  where
    go : (b : Bool) → length (without chosen classes) ≤ length classes → length (if b then without chosen classes else k ∷ without chosen classes) ≤ length (k ∷ classes)
    go true ih = omega (arith, ih)
    go false ih = omega (arith, ih)

before-trans : (a b c : Class) → in_class_order a b ≡ true → in_class_order b c ≡ true → in_class_order a c ≡ true
before-trans a b c h g = grind (arith, nat_tests)

before-less : (a b : Class) (classes : List Class) → in_class_order a b ≡ true → list_all (in_class_order b) classes ≡ true → list_all (in_class_order a) classes ≡ true
before-less a b [] x y = refl
before-less a b (c ∷ classes) x y = let ih = before-less a b classes x (grind arith) in let z = before-trans a b c x (grind arith) in grind (arith, ih, z)

ascends-all : (a : Class) (classes : List Class) → ascending (a ∷ classes) ≡ true → (list_all (in_class_order a) classes ≡ true) × (ascending classes ≡ true)
ascends-all a [] h = (refl, refl)
ascends-all a (b ∷ classes) h = let ih = ascends-all b classes (grind arith) in let x = before-less a b classes (grind arith) ih.0 in (grind (arith, x), grind arith)

all-ascends : (a : Class) (classes : List Class) → list_all (in_class_order a) classes ≡ true → ascending classes ≡ true → ascending (a ∷ classes) ≡ true
all-ascends a [] x y = refl
all-ascends a (b ∷ classes) x y = grind arith

without-before : (a chosen : Class) (classes : List Class) → list_all (in_class_order a) classes ≡ true → list_all (in_class_order a) (without chosen classes) ≡ true
without-before a chosen [] h = refl
without-before a chosen (k ∷ classes) h = go (same_class chosen k) (without-before a chosen classes (grind arith))
  where
    go : (b : Bool) → list_all (in_class_order a) (without chosen classes) ≡ true → list_all (in_class_order a) (if b then without chosen classes else k ∷ without chosen classes) ≡ true
    go true ih = ih
    go false ih = grind (arith, ih)

without-ascends : (chosen : Class) (classes : List Class) → ascending classes ≡ true → ascending (without chosen classes) ≡ true
without-ascends chosen [] h = refl
without-ascends chosen (k ∷ classes) h = let two = ascends-all k classes h in go (same_class chosen k) (without-ascends chosen classes two.1) (without-before k chosen classes two.0)
  where
    go : (b : Bool) → ascending (without chosen classes) ≡ true → list_all (in_class_order k) (without chosen classes) ≡ true → ascending (if b then without chosen classes else k ∷ without chosen classes) ≡ true
    go true ih a = ih
    go false ih a = all-ascends k (without chosen classes) a ih

-- a class among those that are left is one of all, and another one
among-without : (k chosen : Class) (classes : List Class) → list_any (same_class k) (without chosen classes) ≡ true → (list_any (same_class k) classes ≡ true) × (same_class chosen k ≡ false)
among-without k chosen [] h = absurd (cc)
among-without k chosen (n ∷ classes) h = go (same_class chosen n) refl h (λ there. among-without k chosen classes there)
  where
    here : (b : Bool) → same_class k n ≡ b → same_class chosen n ≡ false → (b || list_any (same_class k) (without chosen classes)) ≡ true
        → (list_any (same_class k) (without chosen classes) ≡ true → (list_any (same_class k) classes ≡ true) × (same_class chosen k ≡ false))
        → ((b || list_any (same_class k) classes) ≡ true) × (same_class chosen k ≡ false)
    here true e other h ih = (refl, ap (same_class chosen) (same_class-sound k n e) ∙ other)
    here false e other h ih = ih h

    go : (b : Bool) → same_class chosen n ≡ b → list_any (same_class k) (if b then without chosen classes else n ∷ without chosen classes) ≡ true
        → (list_any (same_class k) (without chosen classes) ≡ true → (list_any (same_class k) classes ≡ true) × (same_class chosen k ≡ false))
        → ((same_class k n || list_any (same_class k) classes) ≡ true) × (same_class chosen k ≡ false)
    go true e h ih = let more = ih h in let there = more.0 in (grind (arith, there), more.1)
    go false e h ih = here (same_class k n) refl e h ih

without-among : (k chosen : Class) (classes : List Class) → list_any (same_class k) classes ≡ true → same_class chosen k ≡ false → list_any (same_class k) (without chosen classes) ≡ true
without-among k chosen [] h other = absurd (cc)
without-among k chosen (n ∷ classes) h other = go (same_class chosen n) refl (same_class k n) refl h (λ there. without-among k chosen classes there other)
  where
    go : (b : Bool) → same_class chosen n ≡ b → (x : Bool) → same_class k n ≡ x → (x || list_any (same_class k) classes) ≡ true
        → (list_any (same_class k) classes ≡ true → list_any (same_class k) (without chosen classes) ≡ true)
        → list_any (same_class k) (if b then without chosen classes else n ∷ without chosen classes) ≡ true
    go true e true f h ih = absurd (let same = ap (same_class chosen) (same_class-sound k n f) in let wrong : true ≡ false = sym e ∙ (sym same ∙ other) in cc)
    go true e false f h ih = ih h
    go false e true f h ih = rw f refl
    go false e false f h ih = rw f (ih h)

-- once a class is dropped, the others are left
pub others-left : (schema : List Table) (marks : List Mark) (queries : List Numbered) (cause : Cause) (chosen : Class) (d : Mark) (classes : List Class)
    → IsDropOf schema marks queries cause chosen d → AreClasses schema marks queries classes → AreClasses schema (d ∷ marks) queries (without chosen classes)
others-left schema marks queries cause chosen (Held u b rects) classes drop are = absurd drop
others-left schema marks queries cause chosen (Dropped why u b st rects) classes drop are = record {
  order = without-ascends chosen classes are.order;
  each = λ k. (
    λ among. let two = among-without k chosen classes among in let h = (are.each k).0 two.0 in (h.0, h.1, stays k h.0 h.1 h.2 two.1),
    λ some. let old = stayed k some.0 some.2 in without-among k chosen classes ((are.each k).1 (some.0, some.1, old)) (another k some.0 some.1 some.2 old (same_class chosen k) refl),
  );
}
  where
    dropped_at : Class → Row → Bool
    dropped_at k p = (u == k.table && b == k.attrs) && in_any rects p

    stays : (k : Class) (p : Row) → is_point (table_at schema k.table).columns p ≡ true → in_class marks queries k p ≡ true → same_class chosen k ≡ false → in_class (Dropped why u b st rects ∷ marks) queries k p ≡ true
    stays k p point inside other = go (dropped_at k p) refl
      where
        go : (x : Bool) → dropped_at k p ≡ x → ((if x then false else is_held marks k.table k.attrs p) && stamp queries k.table k.attrs p == k.stamp) ≡ true
        go false e = inside
        go true e =
            let table : u ≡ k.table = grind (arith, nat_tests, e) in
            let attrs : b ≡ k.attrs = grind (arith, nat_tests, e) in
            let there : in_any rects p ≡ true = grind (arith, e) in
            let own : in_class marks queries chosen p ≡ true = sym (drop.5 p (subst (λ t. is_point (table_at schema t).columns p ≡ true) (sym table) point)) ∙ there in
            let first : k.table ≡ chosen.table = sym table ∙ drop.1 in
            let second : k.attrs ≡ chosen.attrs = sym attrs ∙ drop.2 in
            let stamped : stamp queries k.table k.attrs p ≡ stamp queries chosen.table chosen.attrs p = ap (λ t. stamp queries t k.attrs p) first ∙ ap (λ a. stamp queries chosen.table a p) second in
            let mine : (stamp queries k.table k.attrs p == k.stamp) ≡ true = grind (arith, inside) in
            let its : (stamp queries chosen.table chosen.attrs p == chosen.stamp) ≡ true = grind (arith, own) in
            let third : k.stamp ≡ chosen.stamp = grind (arith, nat_tests, mine, its, stamped) in
            let same : same_class chosen k ≡ true = grind (arith, nat_tests, first, second, third) in
            absurd (let wrong : true ≡ false = sym same ∙ other in cc)

    stayed : (k : Class) (p : Row) → in_class (Dropped why u b st rects ∷ marks) queries k p ≡ true → in_class marks queries k p ≡ true
    stayed k p inside = go (dropped_at k p) inside
      where
        go : (x : Bool) → ((if x then false else is_held marks k.table k.attrs p) && stamp queries k.table k.attrs p == k.stamp) ≡ true → in_class marks queries k p ≡ true
        go true h = absurd (cc)
        go false h = h

    another : (k : Class) (p : Row) → is_point (table_at schema k.table).columns p ≡ true → in_class (Dropped why u b st rects ∷ marks) queries k p ≡ true → in_class marks queries k p ≡ true
        → (x : Bool) → same_class chosen k ≡ x → x ≡ false
    another k p point inside old false e = refl
    another k p point inside old true e =
        let same : chosen ≡ k = same_class-sound chosen k e in
        let table : u ≡ k.table = drop.1 ∙ ap (λ c. c.table) same in
        let attrs : b ≡ k.attrs = drop.2 ∙ ap (λ c. c.attrs) same in
        let own : in_class marks queries chosen p ≡ true = subst (λ c. in_class marks queries c p ≡ true) (sym same) old in
        let there : in_any rects p ≡ true = drop.5 p (subst (λ t. is_point (table_at schema t).columns p ≡ true) (sym table) point) ∙ own in
        let first : (u == k.table) ≡ true = grind (arith, nat_tests, table) in
        let second : (b == k.attrs) ≡ true = grind (arith, nat_tests, attrs) in
        let gone : dropped_at k p ≡ true = rw (first, second, there) refl in
        absurd (go (dropped_at k p) gone inside)
      where
        go : (x : Bool) → x ≡ true → ((if x then false else is_held marks k.table k.attrs p) && stamp queries k.table k.attrs p == k.stamp) ≡ true → ⊥
        go true e h = cc
        go false e h = cc
