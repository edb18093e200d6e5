-- Names of tables, and sets of columns: different names tell the table and the columns.
use Rattle.std.proofs.Common.{◌≡◌, ℕ, zero, suc, ◌+◌, ◌^◌, ◌<◌, ◌≤◌, Bool, true, false, cond, List, [], ◌∷◌, ◌++◌, length, map, refl, sym, ap, subst, ◌∙◌, append_assoc, inl, inr, arith}
use Rattle.std.specs.Prelude.{◌==◌, codes, bytes_eq}
use Rattle.std.specs.List.{list_all, list_any, AllByRecursion}
use Rattle.std.specs.Int.{bit_at}
use Rattle.std.proofs.lemmas.Bool.{cases_lt, not-true, both_ways, or_parts}
use Rattle.std.proofs.lemmas.Bool.Decides.{nat_tests}
use Rattle.std.proofs.lemmas.Nat.Bits.{same_from_bits_below}
use Rattle.std.proofs.lemmas.Slice.Eq.{bytes_eq-Decides}
use Rattle.std.specs.Cmp.{first_so, second_so}
use Rattle.sr_cell.specs.declared.table.Column.{Column}
use Rattle.sr_cell.specs.declared.table.Table.{Table}
use Rattle.sr_cell.specs.Attrs.{has_column}
use Rattle.sr_cell.specs.Columns.{table_at}
use Rattle.sr_lines.specs.Texts.{joined}
use Rattle.sr_script.specs.TraceText.{name_of, names_from, attrs_text}
use Rattle.sr_script.specs.Printable.{is_name, are_different, has_named_columns}
use Rattle.sr_script.proofs.Plain.{is_stop, others_are, cut, name_plain, no_stop}
use Rattle.sr_script.proofs.Listed.{IsCut, list_cut}

-- a name that differs from others is none of them
pub no_same : (name other : List ℕ) → bytes_eq name other ≡ false → name ≡ other → ⊥
no_same name other apart same =
    both_ways (bytes_eq name other) apart (ap (bytes_eq name) (sym same) ∙ (bytes_eq-Decides name name).1 refl)

name_some : (name : List ℕ) → is_name name ≡ true → 0 < length name
name_some [] h = absurd cc
name_some (b ∷ name) h = omega arith

pub name_cut : (m n x y : List ℕ) (p q : ℕ) → is_name m ≡ true → is_name n ≡ true → is_stop p ≡ true → is_stop q ≡ true → m ++ (p ∷ x) ≡ n ++ (q ∷ y) → (m ≡ n) × (p ∷ x ≡ q ∷ y)
name_cut m n x y p q f g s t e = cut m n x y p q (name_plain m f) (name_plain n g) s t e

pub name_begins : (m x y : List ℕ) (q : ℕ) → is_name m ≡ true → is_stop q ≡ true → m ++ x ≡ q ∷ y → ⊥
name_begins m x y q f t e = no_stop m x y q (name_plain m f) (name_some m f) t e

-- ---- sets of columns

names_are : IsCut (List ℕ) (λ name. name) (λ name. is_name name ≡ true)
names_are = record {
  same = name_cut;
  begins = λ m x y p q f s t e. name_begins m (p ∷ x) y q f t e;
}

same_names : (names : List (List ℕ)) → map (λ name. name) names ≡ names
same_names [] = refl
same_names (name ∷ names) = ap (λ z. name ∷ z) (same_names names)

chosen_first : (k : Bool) (name : List ℕ) (rest : List (List ℕ)) → is_name name ≡ true → AllByRecursion (λ name. is_name name ≡ true) rest
    → AllByRecursion (λ name. is_name name ≡ true) (cond k (name ∷ rest) rest)
chosen_first true name rest first others = (first, others)
chosen_first false name rest first others = others

chosen_names : (columns : List Column) (c attrs : ℕ) → list_all is_name (map (λ (c : Column). c.name) columns) ≡ true → AllByRecursion (λ name. is_name name ≡ true) (names_from c attrs columns)
chosen_names [] c attrs h = tt
chosen_names (column ∷ columns) c attrs h =
    chosen_first (has_column attrs c) column.name (names_from (c + 1) attrs columns) (first_so _ _ h)
    (chosen_names columns (c + 1) attrs (second_so (is_name column.name) (list_all is_name (map (λ (c : Column). c.name) columns)) h))

foreign_first : (k : Bool) (own name : List ℕ) (names rest : List (List ℕ)) → bytes_eq name own ≡ false → (names ≡ name ∷ rest → ⊥) → cond k (own ∷ names) names ≡ name ∷ rest → ⊥
foreign_first true own name names rest apart others e = no_same name own apart (let is : name ≡ own = cc in is)
foreign_first false own name names rest apart others e = others e

foreign : (columns : List Column) (name : List ℕ) (c attrs : ℕ) (rest : List (List ℕ)) → list_any (bytes_eq name) (map (λ (c : Column). c.name) columns) ≡ false
    → names_from c attrs columns ≡ name ∷ rest → ⊥
foreign [] name c attrs rest none e = cc
foreign (column ∷ columns) name c attrs rest none e =
    foreign_first (has_column attrs c) column.name name (names_from (c + 1) attrs columns) rest (or_parts _ _ none).0
    (foreign columns name (c + 1) attrs rest (or_parts (bytes_eq name column.name) _ none).1) e

-- a column's choice, where its name is no later one's
one_choice : (name : List ℕ) (one other : List (List ℕ)) (k l : Bool) → ((rest : List (List ℕ)) → one ≡ name ∷ rest → ⊥) → ((rest : List (List ℕ)) → other ≡ name ∷ rest → ⊥)
    → cond k (name ∷ one) one ≡ cond l (name ∷ other) other → (k ≡ l) × (one ≡ other)
one_choice name one other true true f g e = (refl, let rest : one ≡ other = cc in rest)
one_choice name one other false false f g e = (refl, e)
one_choice name one other true false f g e = absurd (g one (sym e))
one_choice name one other false true f g e = absurd (f other e)

same_choices : (columns : List Column) (c a b : ℕ) → are_different (map (λ (c : Column). c.name) columns) ≡ true → names_from c a columns ≡ names_from c b columns
    → (j : ℕ) → c ≤ j → j < c + length columns → has_column a j ≡ has_column b j
same_choices [] c a b apart e j low high = absurd (omega arith)
same_choices (column ∷ columns) c a b apart e j low high =
    let none = not-true (list_any (bytes_eq column.name) (map (λ (c : Column). c.name) columns)) (first_so _ _ apart) in
    let front = one_choice column.name (names_from (c + 1) a columns) (names_from (c + 1) b columns) (has_column a c) (has_column b c)
    (λ rest. foreign columns column.name (c + 1) a rest none) (λ rest. foreign columns column.name (c + 1) b rest none) e in
    elim (cases_lt c j) [
      | inl after ↦ same_choices columns (c + 1) a b (second_so _ _ apart) front.1 j (omega arith) (omega arith)
      | inr upto ↦ let is : c ≡ j = omega arith in subst (λ z. has_column a z ≡ has_column b z) is front.0
    ]

one_bit : (m n : ℕ) → m < 2 → n < 2 → (m == 1) ≡ (n == 1) → m ≡ n
one_bit m n f g e = grind (arith, nat_tests)

same_attrs : (columns : List Column) (a b : ℕ) → are_different (map (λ (c : Column). c.name) columns) ≡ true → a < 2 ^ length columns → b < 2 ^ length columns
    → names_from 0 a columns ≡ names_from 0 b columns → a ≡ b
same_attrs columns a b apart f g e =
    same_from_bits_below (length columns) a b f g
    (λ i within. one_bit (bit_at a i) (bit_at b i) (omega arith) (omega arith) (same_choices columns 0 a b apart e i (omega arith) (omega arith)))

attrs_is : (names : List (List ℕ)) (after : List ℕ) → (codes "(" ++ (joined (codes ",") names ++ codes ")")) ++ after ≡ 40 ∷ (joined (codes ",") (map (λ name. name) names) ++ (41 ∷ after))
attrs_is names after = ap (λ z. 40 ∷ z) (append_assoc (joined (codes ",") names) (41 ∷ []) after ∙ ap (λ z. joined (codes ",") z ++ (41 ∷ after)) (sym (same_names names)))

pub attrs_cut : (columns : List Column) (a b : ℕ) (x y : List ℕ) → list_all is_name (map (λ (c : Column). c.name) columns) ≡ true → are_different (map (λ (c : Column). c.name) columns) ≡ true
    → a < 2 ^ length columns → b < 2 ^ length columns → attrs_text columns a ++ x ≡ attrs_text columns b ++ y → (a ≡ b) × (x ≡ y)
attrs_cut columns a b x y named apart f g e =
    let texts = sym (attrs_is (names_from 0 a columns) x) ∙ e ∙ attrs_is (names_from 0 b columns) y in
    let lists = list_cut (List ℕ) (λ name. name) (λ name. is_name name ≡ true) names_are 44 [] 41 (record { stops = refl; ends = refl; differ = λ e. cc })
    (names_from 0 a columns) (names_from 0 b columns) x y (chosen_names columns 0 a named) (chosen_names columns 0 b named) (others_are 40 40 _ _ texts) in
    (same_attrs columns a b apart f g lists.0, lists.1)

-- ---- tables

pub table_name : (schema : List Table) (t : ℕ) → t < length schema → list_all is_name (map (λ (t : Table). t.name) schema) ≡ true → is_name (name_of schema t) ≡ true
table_name [] t within h = absurd (omega arith)
table_name (table ∷ schema) zero within h = first_so _ _ h
table_name (table ∷ schema) (suc t) within h = table_name schema t (omega arith) (second_so (is_name table.name) _ h)

pub table_columns : (schema : List Table) (t : ℕ) → t < length schema → list_all has_named_columns schema ≡ true → has_named_columns (table_at schema t) ≡ true
table_columns [] t within h = absurd (omega arith)
table_columns (table ∷ schema) zero within h = first_so _ _ h
table_columns (table ∷ schema) (suc t) within h = table_columns schema t (omega arith) (second_so (has_named_columns table) _ h)

no_later : (schema : List Table) (name : List ℕ) (t : ℕ) → t < length schema → list_any (bytes_eq name) (map (λ (t : Table). t.name) schema) ≡ false → name ≡ name_of schema t → ⊥
no_later [] name t within none e = omega arith
no_later (table ∷ schema) name zero within none e = no_same name table.name (or_parts _ _ none).0 e
no_later (table ∷ schema) name (suc t) within none e = no_later schema name t (omega arith) (or_parts (bytes_eq name table.name) _ none).1 e

pub same_table : (schema : List Table) (t u : ℕ) → are_different (map (λ (t : Table). t.name) schema) ≡ true → t < length schema → u < length schema → name_of schema t ≡ name_of schema u → t ≡ u
same_table [] t u apart f g e = absurd (omega arith)
same_table (table ∷ schema) zero zero apart f g e = refl
same_table (table ∷ schema) (suc t) (suc u) apart f g e = ap suc (same_table schema t u (second_so _ _ apart) (omega arith) (omega arith) e)
same_table (table ∷ schema) zero (suc u) apart f g e = absurd (no_later schema table.name u (omega arith) (not-true _ (first_so _ _ apart)) e)
same_table (table ∷ schema) (suc t) zero apart f g e = absurd (no_later schema table.name t (omega arith) (not-true _ (first_so _ _ apart)) (sym e))
