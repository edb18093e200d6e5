-- Rows that are lent in several lists.
use Rattle.std.proofs.Common.{◌≡◌, ℕ, Bool, true, false, ◌||◌, List, [], ◌∷◌, ◌++◌, ◌-◌, map, length, take, drop, get_or, refl, sym, ap, subst, ◌∙◌, arith}
use Rattle.std.proofs.Math.Seq.{take-length}
use Rattle.std.proofs.lemmas.List.{take-append-drop, length-drop}
use Rattle.std.specs.Prelude.{Result, Ok, Err, IfOk}
use Rattle.std.specs.List.{list_any, All, AllZip}
use Rattle.std.proofs.lemmas.List.Elements.{All-nil, All-cons, All-head, All-tail}
use Rattle.std.proofs.lemmas.List.Folds.{list_any-append}
use Rattle.sr_cell.specs.Cells.{Row}
use Rattle.sr_cell.specs.Attrs.{has_column}
use Rattle.sr_model.specs.SortedRows.{ascend}
use Rattle.sr_join.specs.declared.runs.Run.{Run}
use Rattle.sr_join.specs.Joins.{united}
use Rattle.sr_join.specs.Lent.{AreLent, rows_for}
use Rattle.sr_join.specs.Shown.{Shown, AreShown}
use Rattle.sr_join.proofs.Both.{united-shown}
use Rattle.sr_join.proofs.Shows.{shown-same}

abbrev pub Test : Type 0
Test = Row → Bool

each : (P : Row → Type 0) → ((p : Row) → P p) → (all : List Row) → All P all
each P f [] = All-nil P
each P f (p ∷ all) = All-cons P p all (f p) (each P f all)

same-tests : (f g h : Test) (all : List Row) → ((p : Row) → f p ≡ g p) → All (λ p. g p ≡ h p) all → All (λ p. f p ≡ h p) all
same-tests f g h [] same are = All-nil (λ p. f p ≡ h p)
same-tests f g h (p ∷ all) same are =
    All-cons (λ p. f p ≡ h p) p all (same p ∙ All-head (λ p. g p ≡ h p) p all are) (same-tests f g h all same (All-tail (λ p. g p ≡ h p) p all are))

none-shown : (need : ℕ) (all : List Row) → AreShown need all (λ p. false) []
none-shown need [] = tt
none-shown need (p ∷ all) = none-shown need all

-- ---- no list, and one

pub lent-none : (need : ℕ) (all : List Row) (test : Test) → AreLent need all test [] → AreShown need all test []
lent-none need all test lent = go lent.tests lent.each lent.just
  where
    go : (tests : List Test) → AllZip (λ t shown. AreShown need all t shown) tests [] → All (λ p. list_any (λ t. t p) tests ≡ test p) all → AreShown need all test []
    go [] zip just = shown-same need all (λ p. false) test [] just (none-shown need all)
    go (t ∷ tests) zip just = absurd zip

pub lent-one : (need : ℕ) (all : List Row) (test : Test) (shown : List Shown) → AreLent need all test (shown ∷ []) → AreShown need all test shown
lent-one need all test shown lent = go lent.tests lent.each lent.just
  where
    alone : (b : Bool) → b ≡ (b || false)
    alone true = refl
    alone false = refl

    go : (tests : List Test) → AllZip (λ t shown. AreShown need all t shown) tests (shown ∷ []) → All (λ p. list_any (λ t. t p) tests ≡ test p) all → AreShown need all test shown
    go [] zip just = absurd zip
    go (t ∷ []) zip just = shown-same need all t test shown (same-tests t (λ p. list_any (λ t. t p) (t ∷ [])) test all (λ p. alone (t p)) just) zip.0
    go (t ∷ u ∷ tests) zip just = absurd zip.1

-- ---- two halves

pub record AreHalves (need : ℕ) (all : List Row) (test : Test) (xs ys : List (List Shown)) : Type 0 where
  pub one : Test
  pub two : Test
  pub firsts : AreLent need all one xs
  pub lasts : AreLent need all two ys
  pub just : All (λ p. (one p || two p) ≡ test p) all

record Split (need : ℕ) (all : List Row) (tests : List Test) (xs ys : List (List Shown)) : Type 0 where
  pub firsts : List Test
  pub lasts : List Test
  pub each_first : AllZip (λ t shown. AreShown need all t shown) firsts xs
  pub each_last : AllZip (λ t shown. AreShown need all t shown) lasts ys
  pub are : tests ≡ firsts ++ lasts

split : (need : ℕ) (all : List Row) (tests : List Test) (xs ys : List (List Shown)) → AllZip (λ t shown. AreShown need all t shown) tests (xs ++ ys) → Split need all tests xs ys
split need all tests [] ys zip = record { firsts = []; lasts = tests; each_first = tt; each_last = zip; are = refl }
split need all [] (x ∷ xs) ys zip = absurd zip
split need all (t ∷ tests) (x ∷ xs) ys zip =
    let s = split need all tests xs ys zip.1 in
    record { firsts = t ∷ s.firsts; lasts = s.lasts; each_first = (zip.0, s.each_first); each_last = s.each_last; are = ap (λ all. t ∷ all) s.are }

pub halves : (need : ℕ) (all : List Row) (test : Test) (xs ys : List (List Shown)) → AreLent need all test (xs ++ ys) → AreHalves need all test xs ys
halves need all test xs ys lent =
    let s = split need all lent.tests xs ys lent.each in
    let one : Test = λ p. list_any (λ t. t p) s.firsts in
    let two : Test = λ p. list_any (λ t. t p) s.lasts in
    record {
      one = one;
      two = two;
      firsts = record { tests = s.firsts; each = s.each_first; just = each (λ p. one p ≡ one p) (λ p. refl) all };
      lasts = record { tests = s.lasts; each = s.each_last; just = each (λ p. two p ≡ two p) (λ p. refl) all };
      just = same-tests (λ p. one p || two p) (λ p. list_any (λ t. t p) lent.tests) test all
          (λ p. sym (ap (λ tests. list_any (λ (t : Test). t p) tests) s.are ∙ list_any-append (λ (t : Test). t p) s.firsts s.lasts)) lent.just;
    }

-- ---- runs of several parts

pub map-append : (f : Run → List Shown) (xs ys : List Run) → map f (xs ++ ys) ≡ map f xs ++ map f ys
map-append f [] ys = refl
map-append f (x ∷ xs) ys = ap (λ all. f x ∷ all) (map-append f xs ys)

pub of-none : (need part : ℕ) (all : List Row) (test : Test) (runs : List Run) → length runs ≡ 0 → AreLent need all test (map (rows_for part) runs) → AreShown need all test []
of-none need part all test [] none lent = lent-none need all test lent
of-none need part all test (r ∷ runs) none lent = absurd (omega (arith, none))

pub of-one : (need part : ℕ) (all : List Row) (test : Test) (runs : List Run) (r : Run) (shown : List Shown) → length runs ≡ 1 → r ≡ get_or runs 0 r → shown ≡ rows_for part r
    → AreLent need all test (map (rows_for part) runs) → AreShown need all test shown
of-one need part all test [] r shown one at is lent = absurd (omega (arith, one))
of-one need part all test (x ∷ []) r shown one at is lent =
    let same : rows_for part x ≡ shown = ap (rows_for part) (sym at) ∙ sym is in
    subst (λ s. AreShown need all test s) same (lent-one need all test (rows_for part x) lent)
of-one need part all test (x ∷ y ∷ runs) r shown one at is lent = absurd (omega (arith, one))

-- what is found of two halves is found of both
pub of-halves : (key part : ℕ) (runs xs ys : List Run) (one two both : List Shown) → runs ≡ xs ++ ys
    → ((need : ℕ) (all : List Row) (test : Test) → ascend key all ≡ true → has_column need key ≡ true → AreLent need all test (map (rows_for part) xs) → AreShown need all test one)
    → ((need : ℕ) (all : List Row) (test : Test) → ascend key all ≡ true → has_column need key ≡ true → AreLent need all test (map (rows_for part) ys) → AreShown need all test two)
    → both ≡ united key one two
    → (need : ℕ) (all : List Row) (test : Test) → ascend key all ≡ true → has_column need key ≡ true → AreLent need all test (map (rows_for part) runs) → AreShown need all test both
of-halves key part runs xs ys one two both are first last is need all test order has lent =
    let h = halves need all test (map (rows_for part) xs) (map (rows_for part) ys)
    (subst (AreLent need all test) (ap (map (rows_for part)) are ∙ map-append (rows_for part) xs ys) lent) in
    let shown = united-shown need key h.one h.two all one two has order (first need all h.one order has h.firsts) (last need all h.two order has h.lasts) in
    subst (λ s. AreShown need all test s) (sym is) (shown-same need all (λ p. h.one p || h.two p) test (united key one two) h.just shown)

-- ---- as calls tell it

-- the rows by key, where they are right
abbrev pub IsRight : ℕ → ℕ → List Run → List Shown → Type 0
IsRight key part runs shown =
    (need : ℕ) (all : List Row) (test : Test) → ascend key all ≡ true → has_column need key ≡ true → AreLent need all test (map (rows_for part) runs) → AreShown need all test shown

pub one-run : {E : Type 0} (result : Result (List Shown) E) (key part : ℕ) (runs : List Run) (r : Run) → IfOk result (λ rows. rows ≡ rows_for part r) → length runs ≡ 1 → r ≡ get_or runs 0 r
    → (need : ℕ) (all : List Row) (test : Test) → IfOk result (λ rows. ascend key all ≡ true → has_column need key ≡ true → AreLent need all test (map (rows_for part) runs) → AreShown need all test rows)
one-run (Err e) key part runs r is one at need all test = tt
one-run (Ok rows) key part runs r is one at need all test = λ order has lent. of-one need part all test runs r rows one at is lent

pub two-halves : {E : Type 0} (result : Result (List Shown) E) (key part : ℕ) (runs xs ys : List Run) (one two : List Shown) → IfOk result (λ both. both ≡ united key one two)
    → IsRight key part xs one → IsRight key part ys two → runs ≡ xs ++ ys
    → (need : ℕ) (all : List Row) (test : Test) → IfOk result (λ rows. ascend key all ≡ true → has_column need key ≡ true → AreLent need all test (map (rows_for part) runs) → AreShown need all test rows)
two-halves (Err e) key part runs xs ys one two is first last are need all test = tt
two-halves (Ok both) key part runs xs ys one two is first last are need all test = λ order has lent. of-halves key part runs xs ys one two both are first last is need all test order has lent

pub cut-at : (runs : List Run) (n : ℕ) → runs ≡ take n runs ++ take (length runs - n) (drop n runs)
cut-at runs n =
    sym (take-append-drop n runs)
    ∙ ap (λ ys. take n runs ++ ys) (sym (ap (λ k. take k (drop n runs)) (sym (length-drop n runs)) ∙ take-length (drop n runs)))
