-- What the marks and asks of the rules are of: tables that are there, and columns of theirs.
use Rattle.std.proofs.Common.{zero, suc, ◌≡◌, ◌∙◌, ◌≤◌, ◌<◌, ◌+◌, ◌-◌, ◌*◌, ◌/◌, ◌^◌, ℕ, Bool, true, false, inl, inr, List, [], ◌∷◌, ◌++◌, length, map, refl, sym, ap, subst, arith, Option, Some, None}
use Rattle.std.specs.Prelude.{◌⊎◌, ◌==◌, ◌&&◌, IsTrue, slice_get, slice_set, if◌then◌else◌}
use Rattle.std.specs.List.{list_any, AllZip, AllByRecursion}
use Rattle.std.proofs.Math.Nat.{div-eq_of_lt, lt-mul-div-succ}
use Rattle.std.proofs.Math.Pow.{pow_pos}
use Rattle.std.proofs.lemmas.Bool.{and_parts, cases_lt}
use Rattle.std.proofs.lemmas.Bool.Decides.{nat_tests}
use Rattle.sr_cell.specs.declared.cause.Cause.{Cause}
use Rattle.sr_cell.specs.declared.cause.Cause.TheVariants.{Absorbed, Rows, Regions}
use Rattle.sr_cell.specs.declared.cell.Cell.{Cell}
use Rattle.sr_cell.specs.declared.table.Column.{Column}
use Rattle.sr_cell.specs.declared.table.Table.{Table}
use Rattle.sr_cell.specs.Attrs.{has_column}
use Rattle.sr_cell.specs.Cells.{Row}
use Rattle.sr_cell.specs.Columns.{table_at}
use Rattle.sr_cell.proofs.ColumnSets.{has_column-none, has_column-shifted, no_bits}
use Rattle.sr_cell.proofs.Columns.{point-length}
use Rattle.sr_box.specs.Points.{HasPoint, IsEssential, Points, Rect, rect_fits}
use Rattle.sr_message.specs.declared.message.AskPart.{AskPart}
use Rattle.sr_model.specs.Queries.{Part}
use Rattle.sr_policy.specs.declared.policy.Limits.{Limits}
use Rattle.sr_history.specs.declared.mark.Mark.{Mark}
use Rattle.sr_history.specs.declared.mark.Mark.TheVariants.{Held, Dropped}
use Rattle.sr_history.specs.Marks.{concerns, is_held, is_held_mark, with_marks}
use Rattle.sr_history.specs.Classes.{AreClasses, Class, Numbered, in_class, same_class, stamp}
use Rattle.sr_history.specs.Rests.{Asks, IsRest, nothing, covered, asked, rest_of}
use Rattle.sr_history.specs.Drops.{AbsorbsFrom, DropsAll, DropsEach, IsDropOf}
use Rattle.sr_history.specs.Budgets.{DropsForRegions, DropsForRows, MeetsBudgets}
use Rattle.sr_session.specs.Rules.{Holds}
use Rattle.sr_script.specs.Printable.{IsPlace, AreRects}

-- ---- lists

pub all-append : {X : Type 0} (P : X → Type 0) (xs ys : List X) → AllByRecursion P xs → AllByRecursion P ys → AllByRecursion P (xs ++ ys)
all-append {X} P [] ys a b = b
all-append {X} P (x ∷ xs) ys a b = (a.0, all-append P xs ys a.1 b)

pub all-map : {X Y : Type 0} (P : Y → Type 0) (f : X → Y) (xs : List X) → AllByRecursion (λ x. P (f x)) xs → AllByRecursion P (map f xs)
all-map {X} {Y} P f [] a = tt
all-map {X} {Y} P f (x ∷ xs) a = (a.0, all-map P f xs a.1)

pub all-get : {X : Type 0} (P : X → Type 0) (xs : List X) (i : ℕ) (x : X) → AllByRecursion P xs → slice_get xs i ≡ Some x → P x
all-get {X} P [] i x all is = absurd (cc)
all-get {X} P (y ∷ xs) zero x all is = let same : y ≡ x = cc in subst P same all.0
all-get {X} P (y ∷ xs) (suc i) x all is = all-get P xs i x all.1 is

-- ---- sets of columns

-- a number that a power of two goes into no time
pub below : (attrs n : ℕ) → attrs / 2 ^ n ≡ 0 → attrs < 2 ^ n
below attrs n none =
    let less : attrs < 2 ^ n * (attrs / 2 ^ n + 1) = lt-mul-div-succ attrs (pow_pos n) in
    let small : attrs < 2 ^ n * (0 + 1) = subst (λ z. attrs < 2 ^ n * (z + 1)) none less in
    omega (arith, small)

-- a set with no column from n on
few : (attrs n : ℕ) → ((c : ℕ) → n ≤ c → has_column attrs c ≡ false) → attrs < 2 ^ n
few attrs n none = below attrs n (no_bits (attrs / 2 ^ n) (attrs / 2 ^ n) (omega arith) (λ k. sym (has_column-shifted attrs n k) ∙ none (n + k) (omega arith)))

none-beyond : (attrs n c : ℕ) → attrs < 2 ^ n → n ≤ c → has_column attrs c ≡ false
none-beyond attrs n c small far =
    let sum : n + (c - n) ≡ c = omega (arith, far) in
    ap (has_column attrs) (sym sum) ∙ (has_column-shifted attrs n (c - n) ∙ (ap (λ m. has_column m (c - n)) (div-eq_of_lt small) ∙ has_column-none (c - n)))

set-beyond : (p : Row) (c : ℕ) (v : Cell) → length p ≤ c → slice_set p c v ≡ p
set-beyond [] c v le = refl
set-beyond (x ∷ p) zero v le = absurd (omega (arith, le))
set-beyond (x ∷ p) (suc c) v le = ap (λ q. x ∷ q) (set-beyond p c v (omega (arith, le)))

-- an essential column is the table's
essential-own : (cs : List Column) (a : Points) (c : ℕ) → IsEssential cs a c → length cs ≤ c → ⊥
essential-own cs a c is beyond =
    let len = point-length cs is.inside is.is_inside.0 in
    let same = set-beyond is.inside c is.other (omega (arith, beyond, len)) in
    let wrong : true ≡ false = sym is.is_inside.1 ∙ (ap a (sym same) ∙ is.is_outside.1) in cc

-- ---- places

-- a place, with rects that fit its table
abbrev pub IsSpot : List Table → ℕ → ℕ → List Rect → Type 0
IsSpot schema t attrs rects = IsPlace schema t attrs × AreRects schema t rects

abbrev pub IsPlacedPart : List Table → Part → Type 0
IsPlacedPart schema part = IsPlace schema part.table part.need

abbrev pub IsPlacedAsk : List Table → AskPart → Type 0
IsPlacedAsk schema ask = IsSpot schema ask.table ask.attrs ask.rects

abbrev pub IsPlacedClass : List Table → Class → Type 0
IsPlacedClass schema k = IsPlace schema k.table k.attrs

abbrev pub IsPlacedMark : List Table → Mark → Type 0
IsPlacedMark schema (Held t attrs rects) = IsSpot schema t attrs rects
IsPlacedMark schema (Dropped cause t attrs stamp rects) = IsSpot schema t attrs rects

abbrev pub ArePlacedMarks : List Table → List Mark → Type 0
ArePlacedMarks schema marks = AllByRecursion (IsPlacedMark schema) marks

-- the same place, by other names
pub moved : (schema : List Table) (t u a b : ℕ) → t ≡ u → a ≡ b → IsPlace schema u b → IsPlace schema t a
moved schema t u a b table attrs place = subst (λ z. IsPlace schema z a) (sym table) (subst (λ z. IsPlace schema u z) (sym attrs) place)

-- ---- asks

rest-columns : (schema : List Table) (marks : List Mark) (part : Part) (ask : AskPart) → IsRest schema marks part ask → IsPlacedPart schema part
    → ask.attrs < 2 ^ length (table_at schema part.table).columns
rest-columns schema marks part ask is place =
    few ask.attrs (length (table_at schema part.table).columns) (λ c far. by c far (has_column ask.attrs c) refl)
  where
    by : (c : ℕ) → length (table_at schema part.table).columns ≤ c → (b : Bool) → has_column ask.attrs c ≡ b → b ≡ false
    by c far false e = refl
    by c far true e = elim ((is.columns c).0 e) [
      | inl need ↦ absurd (let wrong : true ≡ false = sym need ∙ none-beyond part.need (length (table_at schema part.table).columns) c place.1 far in cc)
      | inr essential ↦ absurd (essential-own (table_at schema part.table).columns (rest_of marks part) c essential far)
    ]

rest-placed : (schema : List Table) (marks : List Mark) (part : Part) (ask : AskPart) → IsRest schema marks part ask → IsPlacedPart schema part → IsPlacedAsk schema ask
rest-placed schema marks part ask is place =
    subst (λ z. IsSpot schema z ask.attrs ask.rects) (sym is.table) ((place.0, rest-columns schema marks part ask is place), is.fits)

pub asks-placed : (schema : List Table) (marks : List Mark) (parts : List Part) (asks : List AskPart) → Asks schema marks parts asks
    → AllByRecursion (IsPlacedPart schema) parts → AllByRecursion (IsPlacedAsk schema) asks
asks-placed schema marks parts asks nothing own = tt
asks-placed schema marks parts asks (covered part others more none rest) own = asks-placed schema marks others more rest own.1
asks-placed schema marks parts asks (asked part others ask more is rest) own = (rest-placed schema marks part ask is own.0, asks-placed schema marks others more rest own.1)

-- ---- marks and classes

mark-place : (schema : List Table) (mark : Mark) (t attrs : ℕ) (p : Row) → IsPlacedMark schema mark → concerns mark t attrs p ≡ true → IsPlace schema t attrs
mark-place schema (Held u a rects) t attrs p is same =
    let table : t ≡ u = grind (arith, nat_tests, same) in let columns : attrs ≡ a = grind (arith, nat_tests, same) in moved schema t u attrs a table columns is.0
mark-place schema (Dropped cause u a stamp rects) t attrs p is same =
    let table : t ≡ u = grind (arith, nat_tests, same) in let columns : attrs ≡ a = grind (arith, nat_tests, same) in moved schema t u attrs a table columns is.0

either : (b x y : Bool) → (if b then x else y) ≡ true → (b ≡ true) ⊎ (y ≡ true)
either true x y is = inl refl
either false x y is = inr is

pub held-place : (schema : List Table) (marks : List Mark) (t attrs : ℕ) (p : Row) → ArePlacedMarks schema marks → is_held marks t attrs p ≡ true → IsPlace schema t attrs
held-place schema [] t attrs p all is = absurd (cc)
held-place schema (mark ∷ marks) t attrs p all is =
    let later = held-place schema marks t attrs p all.1 in
    elim (either (concerns mark t attrs p) (is_held_mark mark) (is_held marks t attrs p) is) [
      | inl same ↦ mark-place schema mark t attrs p all.0 same
      | inr more ↦ later more
    ]

pub class-place : (schema : List Table) (marks : List Mark) (queries : List Numbered) (k : Class) → ArePlacedMarks schema marks
    → HasPoint (table_at schema k.table).columns (in_class marks queries k) → IsPlacedClass schema k
class-place schema marks queries k all some =
    held-place schema marks k.table k.attrs some.0 all (and_parts (is_held marks k.table k.attrs some.0) (stamp queries k.table k.attrs some.0 == k.stamp) some.2).0

each-class : (P : Class → Type 0) (classes : List Class) → ((k : Class) → list_any (same_class k) classes ≡ true → P k) → AllByRecursion P classes
each-class P [] all = tt
each-class P (k ∷ classes) all = (
  all k (let here : same_class k k ≡ true = grind (arith, nat_tests) in grind (arith, here)),
  each-class P classes (λ other among. all other (grind (arith, among))),
)

pub classes-placed : (schema : List Table) (marks : List Mark) (queries : List Numbered) (classes : List Class) → ArePlacedMarks schema marks → AreClasses schema marks queries classes
    → AllByRecursion (IsPlacedClass schema) classes
classes-placed schema marks queries classes all are =
    each-class (IsPlacedClass schema) classes (λ k among. class-place schema marks queries k all ((are.each k).0 among))

pub with-placed : (schema : List Table) (old marks : List Mark) → ArePlacedMarks schema old → ArePlacedMarks schema marks → ArePlacedMarks schema (with_marks old marks)
with-placed schema old [] a b = a
with-placed schema old (m ∷ marks) a b = with-placed schema (m ∷ old) marks (b.0, a) b.1

-- ---- drops

pub drop-placed : (schema : List Table) (marks : List Mark) (queries : List Numbered) (cause : Cause) (k : Class) (d : Mark) → IsPlacedClass schema k
    → IsDropOf schema marks queries cause k d → IsPlacedMark schema d
drop-placed schema marks queries cause k (Held t a rects) place is = absurd is
drop-placed schema marks queries cause k (Dropped why t a stamp rects) place is = (moved schema t k.table a k.attrs is.1 is.2 place, is.4)

each-placed : (schema : List Table) (marks : List Mark) (queries : List Numbered) (cause : Cause) (classes : List Class) (drops : List Mark)
    → AllByRecursion (IsPlacedClass schema) classes → DropsEach schema marks queries cause classes drops → ArePlacedMarks schema drops
each-placed schema marks queries cause [] drops all each = subst (ArePlacedMarks schema) (sym each) tt
each-placed schema marks queries cause (k ∷ classes) [] all each = absurd each
each-placed schema marks queries cause (k ∷ classes) (d ∷ drops) all each =
    (drop-placed schema marks queries cause k d all.0 each.0, each-placed schema marks queries cause classes drops all.1 each.1)

pub all-dropped : (schema : List Table) (marks : List Mark) (queries : List Numbered) (cause : Cause) (drops : List Mark) → ArePlacedMarks schema marks
    → DropsAll schema marks queries cause drops → ArePlacedMarks schema drops
all-dropped schema marks queries cause drops all is = each-placed schema marks queries cause is.0 drops (classes-placed schema marks queries is.0 all is.1) is.2

pub absorbed-placed : (schema : List Table) (marks : List Mark) (queries : List Numbered) (classes : List Class) (drops : List Mark)
    → AllByRecursion (IsPlacedClass schema) classes → AbsorbsFrom schema marks queries classes drops → ArePlacedMarks schema drops
absorbed-placed schema marks queries [] drops all each = subst (ArePlacedMarks schema) (sym each) tt
absorbed-placed schema marks queries (k ∷ classes) drops all (inl other) = absorbed-placed schema marks queries classes drops all.1 other.1
absorbed-placed schema marks queries (k ∷ classes) drops all (inr one) =
    subst (ArePlacedMarks schema) (sym one.3) (drop-placed schema marks queries Absorbed k one.1 all.0 one.4, absorbed-placed schema marks queries classes one.2 all.1 one.5)

rows-placed : (schema : List Table) (limits : Limits) (count : List Mark → ℕ) (queries : List Numbered) (marks drops : List Mark) → ArePlacedMarks schema marks
    → DropsForRows schema limits count queries marks drops → ArePlacedMarks schema drops
rows-placed schema limits count queries marks [] all each = tt
rows-placed schema limits count queries marks (d ∷ drops) all each =
    let own = drop-placed schema marks queries Rows each.1 d (class-place schema marks queries each.1 all each.2.some) each.3 in
    (own, rows-placed schema limits count queries (d ∷ marks) drops (own, all) each.4)

regions-placed : (schema : List Table) (limits : Limits) (queries : List Numbered) (marks drops : List Mark) → ArePlacedMarks schema marks
    → DropsForRegions schema limits queries marks drops → ArePlacedMarks schema drops
regions-placed schema limits queries marks [] all each = tt
regions-placed schema limits queries marks (d ∷ drops) all each =
    let own = drop-placed schema marks queries Regions each.3 d (class-place schema marks queries each.3 all each.4.some) each.5 in
    (own, regions-placed schema limits queries (d ∷ marks) drops (own, all) each.6)

pub budgets-placed : (schema : List Table) (limits : Limits) (count : List Mark → ℕ) (queries : List Numbered) (marks drops : List Mark) → ArePlacedMarks schema marks
    → MeetsBudgets schema limits count queries marks drops → ArePlacedMarks schema drops
budgets-placed schema limits count queries marks drops all met =
    let rows = rows-placed schema limits count queries marks met.rows all met.for_rows in
    let regions = regions-placed schema limits queries (with_marks marks met.rows) met.regions (with-placed schema marks met.rows all rows) met.for_regions in
    subst (ArePlacedMarks schema) (sym met.all) (all-append (IsPlacedMark schema) met.rows met.regions rows regions)

-- ---- what was asked is held

hold-placed : (schema : List Table) (ask : AskPart) (mark : Mark) → IsPlacedAsk schema ask → Holds schema ask mark → IsPlacedMark schema mark
hold-placed schema ask (Held t a rects) own is = (moved schema t ask.table a ask.attrs is.0 is.1 own.0, is.2)
hold-placed schema ask (Dropped cause t a stamp rects) own is = absurd is

pub holds-placed : (schema : List Table) (asks : List AskPart) (held : List Mark) → AllByRecursion (IsPlacedAsk schema) asks → AllZip (Holds schema) asks held
    → ArePlacedMarks schema held
holds-placed schema [] [] own zip = tt
holds-placed schema [] (m ∷ held) own zip = absurd zip
holds-placed schema (ask ∷ asks) [] own zip = absurd zip
holds-placed schema (ask ∷ asks) (m ∷ held) own zip = (hold-placed schema ask m own.0 zip.0, holds-placed schema asks held own.1 zip.1)
