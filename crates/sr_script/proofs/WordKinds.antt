-- The kinds of words of a trace: equal texts have the same value, and the same follows.
use Rattle.std.proofs.Common.{◌≡◌, ℕ, ◌<◌, ◌^◌, Bool, true, false, List, [], ◌∷◌, ◌++◌, length, map, Option, Some, None, refl, sym, ap, subst, ◌∙◌}
use Rattle.std.specs.Prelude.{decimal, codes, bytes_eq, if◌then◌else◌}
use Rattle.std.specs.List.{list_all, AllByRecursion}
use Rattle.std.specs.Cmp.{first_so, second_so}
use Rattle.std.proofs.lemmas.Option.{same_Some}
use Rattle.sr_cell.specs.declared.cell.Cell.{Cell}
use Rattle.sr_cell.specs.declared.cause.Cause.TheVariants as the_cause
use Rattle.sr_cell.specs.declared.fault.Why.TheVariants as the_why
use Rattle.sr_script.specs.declared.line.FailKind.TheVariants as the_fail
use Rattle.sr_cell.specs.declared.table.Column.{Column}
use Rattle.sr_cell.specs.declared.cause.Cause.{Cause}
use Rattle.sr_cell.specs.declared.fault.Why.{Why}
use Rattle.sr_cell.specs.declared.table.Table.{Table}
use Rattle.sr_cell.specs.Cells.{Row}
use Rattle.sr_cell.specs.Columns.{table_at}
use Rattle.sr_box.specs.Points.{Rect, rect_fits}
use Rattle.sr_lines.specs.Texts.{joined, cell_text}
use Rattle.sr_script.specs.declared.line.FailKind.{FailKind}
use Rattle.sr_script.specs.TraceText.{why_text, cause_text, fail_text, mode_text, kept_text, name_of, attrs_of, rects_of}
use Rattle.sr_script.specs.Printable.{is_name, are_names, is_cell, IsNamed}
use Rattle.sr_script.proofs.Plain.{is_stop, is_plain, is_numeral, cut, decimal_cut, decimal_plain, decimal_numeral}
use Rattle.sr_script.proofs.Quoted.{cell_cut, no_cell}
use Rattle.sr_script.proofs.Listed.{IsCut, list_cut}
use Rattle.sr_script.proofs.Named.{name_cut, attrs_cut, table_name, table_columns, same_table}
use Rattle.sr_script.proofs.Entries.{AreColumns, rects_cut}

pub data Kind : Type 0 where
  word : Kind
  number : Kind
  number_or : List ℕ → Kind
  why : Kind
  cause : Kind
  fail : Kind
  mode : Kind
  kept : Kind
  table : Kind
  attrs_in : ℕ → Kind
  rects_in : ℕ → Kind
  row : Kind

abbrev pub Value : Kind → Type 0
Value word = List ℕ
Value number = ℕ
Value (number_or other) = Option ℕ
Value why = Why
Value cause = Cause
Value fail = FailKind
Value mode = Bool
Value kept = Bool
Value table = ℕ
Value (attrs_in t) = ℕ
Value (rects_in t) = List Rect
Value row = Row

-- the text of a word
abbrev pub word_text : List Table → (k : Kind) → Value k → List ℕ
word_text schema word w = w
word_text schema number n = decimal n
word_text schema (number_or other) None = other
word_text schema (number_or other) (Some n) = decimal n
word_text schema why w = why_text w
word_text schema cause c = cause_text c
word_text schema fail f = fail_text f
word_text schema mode b = mode_text b
word_text schema kept b = kept_text b
word_text schema table t = name_of schema t
word_text schema (attrs_in t) attrs = attrs_of schema t attrs
word_text schema (rects_in t) rects = rects_of schema t rects
word_text schema row cells = joined (codes ", ") (map cell_text cells)

-- what is needed of a word's value, and of the byte that follows the word
abbrev pub Stands : List Table → (k : Kind) → Value k → ℕ → Type 0
Stands schema word w p = is_plain w ≡ true
Stands schema number n p = n < 2 ^ 64
Stands schema (number_or other) None p = (is_plain other ≡ true) × (is_numeral other ≡ false)
Stands schema (number_or other) (Some n) p = n < 2 ^ 64
Stands schema why w p = Unit {0}
Stands schema cause c p = Unit {0}
Stands schema fail f p = Unit {0}
Stands schema mode b p = Unit {0}
Stands schema kept b p = Unit {0}
Stands schema table t p = t < length schema
Stands schema (attrs_in t) attrs p = (t < length schema) × (attrs < 2 ^ length (table_at schema t).columns)
Stands schema (rects_in t) rects p = (t < length schema) × (list_all (rect_fits (table_at schema t).columns) rects ≡ true) × (p ≡ 10)
Stands schema row cells p = (list_all is_cell cells ≡ true) × (p ≡ 10)

-- ---- words of an enumeration

abbrev find : {A : Type 0} → (A → List ℕ) → List A → List ℕ → Option A
find text [] bytes = None
find text (a ∷ all) bytes = if bytes_eq bytes (text a) then Some a else find text all bytes

-- each value is found by its word, which is plain
record IsListed (A : Type 0) (text : A → List ℕ) (all : List A) : Type 0 where
  finds : (a : A) → find text all (text a) ≡ Some a
  plain : (a : A) → is_plain (text a) ≡ true

listed_cut : (A : Type 0) (text : A → List ℕ) (all : List A) → IsListed A text all → (a b : A) (x y : List ℕ) (p q : ℕ) → is_stop p ≡ true → is_stop q ≡ true
    → text a ++ (p ∷ x) ≡ text b ++ (q ∷ y) → (a ≡ b) × (p ∷ x ≡ q ∷ y)
listed_cut A text all listed a b x y p q s t e =
    let parts = cut (text a) (text b) x y p q (listed.plain a) (listed.plain b) s t e in
    (same_Some a b (sym (listed.finds a) ∙ ap (find text all) parts.0 ∙ listed.finds b), parts.1)

abbrev whys : List Why
whys =
    the_why.LongText ∷ the_why.BadToken ∷ the_why.Grammar ∷ the_why.Deep ∷ the_why.UnknownTable ∷ the_why.UnknownColumn ∷ the_why.Ambiguous ∷ the_why.WrongType
    ∷ the_why.OutOfDomain ∷ the_why.NotKeyJoin ∷ the_why.Repeated ∷ the_why.WrongCount ∷ the_why.Mixed ∷ the_why.TooWide ∷ the_why.TooManyTables ∷ the_why.NotAWrite
    ∷ the_why.NotAQuery ∷ the_why.DuplicateKey ∷ the_why.DomainCell ∷ the_why.LongCell ∷ the_why.KeyChange ∷ the_why.TableFull ∷ the_why.TooManyChanges ∷ the_why.DuplicateName
    ∷ the_why.TooManyColumns ∷ the_why.NoKey ∷ the_why.BadDomain ∷ the_why.BadHeader ∷ the_why.BadRecord ∷ the_why.BadNumber ∷ the_why.BadUtf8 ∷ the_why.BadNull ∷ the_why.NullCell ∷ []

why_found : (w : Why) → find why_text whys (why_text w) ≡ Some w
why_found the_why.LongText = refl
why_found _ = refl

why_plain : (w : Why) → is_plain (why_text w) ≡ true
why_plain the_why.LongText = refl
why_plain _ = refl

whys_are : IsListed Why why_text whys
whys_are = record { finds = why_found; plain = why_plain }

abbrev causes : List Cause
causes = the_cause.Rows ∷ the_cause.Regions ∷ the_cause.Pieces ∷ the_cause.Absorbed ∷ the_cause.Asked ∷ the_cause.Lapsed ∷ the_cause.Fresh ∷ []

cause_found : (c : Cause) → find cause_text causes (cause_text c) ≡ Some c
cause_found the_cause.Rows = refl
cause_found _ = refl

cause_plain : (c : Cause) → is_plain (cause_text c) ≡ true
cause_plain the_cause.Rows = refl
cause_plain _ = refl

causes_are : IsListed Cause cause_text causes
causes_are = record { finds = cause_found; plain = cause_plain }

abbrev fails : List FailKind
fails = the_fail.Query ∷ the_fail.Write ∷ the_fail.Resume ∷ []

fail_found : (f : FailKind) → find fail_text fails (fail_text f) ≡ Some f
fail_found the_fail.Query = refl
fail_found _ = refl

fail_plain : (f : FailKind) → is_plain (fail_text f) ≡ true
fail_plain the_fail.Query = refl
fail_plain _ = refl

fails_are : IsListed FailKind fail_text fails
fails_are = record { finds = fail_found; plain = fail_plain }

mode_found : (b : Bool) → find mode_text (true ∷ false ∷ []) (mode_text b) ≡ Some b
mode_found true = refl
mode_found false = refl

mode_plain : (b : Bool) → is_plain (mode_text b) ≡ true
mode_plain true = refl
mode_plain false = refl

modes_are : IsListed Bool mode_text (true ∷ false ∷ [])
modes_are = record { finds = mode_found; plain = mode_plain }

kept_found : (b : Bool) → find kept_text (true ∷ false ∷ []) (kept_text b) ≡ Some b
kept_found true = refl
kept_found false = refl

kept_plain : (b : Bool) → is_plain (kept_text b) ≡ true
kept_plain true = refl
kept_plain false = refl

kept_are : IsListed Bool kept_text (true ∷ false ∷ [])
kept_are = record { finds = kept_found; plain = kept_plain }

-- ---- rows, tables and their columns

cells_are : IsCut Cell cell_text (λ c. is_cell c ≡ true)
cells_are = record { same = cell_cut; begins = no_cell }

cells_fit : (cells : List Cell) → list_all is_cell cells ≡ true → AllByRecursion (λ c. is_cell c ≡ true) cells
cells_fit [] h = tt
cells_fit (c ∷ cells) h = (first_so _ _ h, cells_fit cells (second_so (is_cell c) _ h))

row_cut : (one other : List Cell) (x y : List ℕ) → list_all is_cell one ≡ true → list_all is_cell other ≡ true
    → joined (codes ", ") (map cell_text one) ++ (10 ∷ x) ≡ joined (codes ", ") (map cell_text other) ++ (10 ∷ y) → (one ≡ other) × (x ≡ y)
row_cut one other x y f g e =
    list_cut Cell cell_text (λ c. is_cell c ≡ true) cells_are 44 (32 ∷ []) 10 (record { stops = refl; ends = refl; differ = λ e. cc }) one other x y (cells_fit one f) (cells_fit other g) e

columns_are : (schema : List Table) (t : ℕ) → IsNamed schema → t < length schema → AreColumns (table_at schema t).columns
columns_are schema t named within =
    let table = table_columns schema t within named.1 in
    let names = first_so _ _ table in record {
      named = first_so _ _ names;
      apart = second_so (list_all is_name (map (λ (c : Column). c.name) (table_at schema t).columns)) _ names;
      ends = second_so (are_names (map (λ (c : Column). c.name) (table_at schema t).columns)) _ table;
    }

table_cut : (schema : List Table) (t u : ℕ) (x y : List ℕ) (p q : ℕ) → IsNamed schema → t < length schema → u < length schema → is_stop p ≡ true → is_stop q ≡ true
    → name_of schema t ++ (p ∷ x) ≡ name_of schema u ++ (q ∷ y) → (t ≡ u) × (p ∷ x ≡ q ∷ y)
table_cut schema t u x y p q named f g h k e =
    let names = first_so _ _ named.0 in
    let parts = name_cut (name_of schema t) (name_of schema u) x y p q (table_name schema t f names) (table_name schema u g names) h k e in
    (same_table schema t u (second_so (list_all is_name (map (λ (t : Table). t.name) schema)) _ named.0) f g parts.0, parts.1)

-- ---- all kinds

same_line : (x y : List ℕ) (p q : ℕ) → p ≡ 10 → q ≡ 10 → x ≡ y → p ∷ x ≡ q ∷ y
same_line x y p q f g e = cc

no_number : (other : List ℕ) (n : ℕ) → is_numeral other ≡ false → n < 2 ^ 64 → other ≡ decimal n → ⊥
no_number other n f g e = no (is_numeral other) f (ap is_numeral e ∙ decimal_numeral n g)
  where
    no : (t : Bool) → t ≡ false → t ≡ true → ⊥
    no t f g = cc

or_cut : (other : List ℕ) (v w : Option ℕ) (x y : List ℕ) (p q : ℕ) (schema : List Table) → Stands schema (number_or other) v p → Stands schema (number_or other) w q
    → is_stop p ≡ true → is_stop q ≡ true → word_text schema (number_or other) v ++ (p ∷ x) ≡ word_text schema (number_or other) w ++ (q ∷ y) → (v ≡ w) × (p ∷ x ≡ q ∷ y)
or_cut other None None x y p q schema f g h k e = (refl, (cut other other x y p q f.0 g.0 h k e).1)
or_cut other (Some m) (Some n) x y p q schema f g h k e = let same = decimal_cut m n x y p q f g h k e in (ap Some same.0, same.1)
or_cut other None (Some n) x y p q schema f g h k e =
    absurd (no_number other n f.1 g (cut other (decimal n) x y p q f.0 (decimal_plain n g) h k e).0)
or_cut other (Some m) None x y p q schema f g h k e =
    absurd (no_number other m g.1 f (sym (cut (decimal m) other x y p q (decimal_plain m f) g.0 h k e).0))

pub word_cut : (schema : List Table) → IsNamed schema → (k : Kind) (v w : Value k) (p q : ℕ) (x y : List ℕ) → Stands schema k v p → Stands schema k w q → is_stop p ≡ true → is_stop q ≡ true
    → word_text schema k v ++ (p ∷ x) ≡ word_text schema k w ++ (q ∷ y) → (v ≡ w) × (p ∷ x ≡ q ∷ y)
word_cut schema named word v w p q x y f g s t e = cut v w x y p q f g s t e
word_cut schema named number v w p q x y f g s t e = decimal_cut v w x y p q f g s t e
word_cut schema named (number_or other) v w p q x y f g s t e = or_cut other v w x y p q schema f g s t e
word_cut schema named why v w p q x y f g s t e = listed_cut Why why_text whys whys_are v w x y p q s t e
word_cut schema named cause v w p q x y f g s t e = listed_cut Cause cause_text causes causes_are v w x y p q s t e
word_cut schema named fail v w p q x y f g s t e = listed_cut FailKind fail_text fails fails_are v w x y p q s t e
word_cut schema named mode v w p q x y f g s t e = listed_cut Bool mode_text (true ∷ false ∷ []) modes_are v w x y p q s t e
word_cut schema named kept v w p q x y f g s t e = listed_cut Bool kept_text (true ∷ false ∷ []) kept_are v w x y p q s t e
word_cut schema named table v w p q x y f g s t e = table_cut schema v w x y p q named f g s t e
word_cut schema named (attrs_in u) v w p q x y f g s t e =
    let are = columns_are schema u named f.0 in
    attrs_cut (table_at schema u).columns v w (p ∷ x) (q ∷ y) are.named are.apart f.1 g.1 e
word_cut schema named (rects_in u) v w p q x y f g s t e =
    let texts : rects_of schema u v ++ (10 ∷ x) ≡ rects_of schema u w ++ (10 ∷ y) = subst (λ z. rects_of schema u v ++ (z ∷ x) ≡ rects_of schema u w ++ (10 ∷ y)) f.2 (subst (λ z. rects_of schema u v ++ (p ∷ x) ≡ rects_of schema u w ++ (z ∷ y)) g.2 e) in
    let parts = rects_cut (table_at schema u).columns (columns_are schema u named f.0) v w x y f.1 g.1 texts in
    (parts.0, same_line x y p q f.2 g.2 parts.1)
word_cut schema named row v w p q x y f g s t e =
    let texts : joined (codes ", ") (map cell_text v) ++ (10 ∷ x) ≡ joined (codes ", ") (map cell_text w) ++ (10 ∷ y) =
    subst (λ z. joined (codes ", ") (map cell_text v) ++ (z ∷ x) ≡ joined (codes ", ") (map cell_text w) ++ (10 ∷ y)) f.1 (subst (λ z. joined (codes ", ") (map cell_text v) ++ (p ∷ x) ≡ joined (codes ", ") (map cell_text w) ++ (z ∷ y)) g.1 e) in
    let parts = row_cut v w x y f.0 g.0 texts in
    (parts.0, same_line x y p q f.1 g.1 parts.1)
