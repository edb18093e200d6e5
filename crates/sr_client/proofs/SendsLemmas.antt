-- What is asked of a query suits the schema.
use Rattle.std.proofs.Common.{◌≡◌, ℕ, zero, suc, ◌+◌, ◌-◌, ◌/◌, ◌%◌, ◌^◌, ◌≤◌, ◌<◌, Bool, true, false, inl, inr, List, [], ◌∷◌, length, refl, sym, ◌∙◌, ap, subst, arith}
use Rattle.std.specs.Prelude.{◌&&◌, ◌==◌, ◌⊎◌, nat_lt, nat_le, slice_set}
use Rattle.std.specs.List.{list_all}
use Rattle.std.specs.Cmp.Derive.{both_true}
use Rattle.std.proofs.Math.Nat.{zero-div}
use Rattle.std.proofs.lemmas.Bool.{and_parts, cases_lt}
use Rattle.std.proofs.lemmas.Bool.Decides.{nat_tests}
use Rattle.sr_cell.specs.declared.cell.Cell.{Cell}
use Rattle.sr_cell.specs.declared.table.Column.{Column}
use Rattle.sr_cell.specs.declared.table.Table.{Table}
use Rattle.sr_cell.specs.Attrs.{has_column}
use Rattle.sr_cell.specs.Cells.{Row}
use Rattle.sr_cell.specs.Columns.{table_at}
use Rattle.sr_cell.proofs.ColumnSets.{no_bits, has_column-shifted}
use Rattle.sr_cell.proofs.Columns.{point-length}
use Rattle.sr_box.specs.Points.{Points, IsEssential}
use Rattle.sr_message.specs.declared.message.AskPart.{AskPart}
use Rattle.sr_message.specs.declared.message.Message.TheVariants.{Ask}
use Rattle.sr_model.specs.Queries as model
use Rattle.sr_query.specs.declared.query.Query.{Query}
use Rattle.sr_history.specs.declared.mark.Mark.{Mark}
use Rattle.sr_history.specs.Rests.{rest_of, IsRest, Asks, nothing, covered, asked}
use Rattle.sr_lines.specs.Sound.{is_sound_part}
use Rattle.sr_region.specs.Regions.{AreColumnsOf}
use Rattle.sr_session.specs.Refusals.{are_columns, suits_table, part_suits, is_request_of}
use Rattle.sr_client.specs.Bound.{IsMeaning}
use Rattle.sr_client.proofs.MeantLemmas.{are-sound}

-- ---- sets of columns

are-own : (attrs n : ℕ) → ((c : ℕ) → n ≤ c → has_column attrs c ≡ false) → are_columns attrs n ≡ true
are-own attrs n none =
    let zero_is = no_bits (attrs / 2 ^ n) (attrs / 2 ^ n) (omega arith) (λ k. sym (has_column-shifted attrs n k) ∙ none (n + k) (omega arith)) in
    by (attrs / 2 ^ n) zero_is
  where
    by : (m : ℕ) → m ≡ 0 → (m == 0) ≡ true
    by m e = grind (arith, nat_tests, e)

none-beyond : (attrs n c : ℕ) → are_columns attrs n ≡ true → n ≤ c → has_column attrs c ≡ false
none-beyond attrs n c own le =
    let zero_is : attrs / 2 ^ n ≡ 0 = by (attrs / 2 ^ n) own in
    let sum : n + (c - n) ≡ c = omega (arith, le) in
    ap (has_column attrs) (sym sum) ∙ (has_column-shifted attrs n (c - n) ∙ (ap (λ m. has_column m (c - n)) zero_is ∙ empty (c - n)))
  where
    by : (m : ℕ) → (m == 0) ≡ true → m ≡ 0
    by m e = grind (arith, nat_tests, e)

    empty : (k : ℕ) → has_column 0 k ≡ false
    empty k = ap (λ x. x % 2 == 1) (zero-div (2 ^ k))

-- columns of the table have none beyond it
pub own-columns : (table : Table) (attrs : ℕ) → AreColumnsOf table attrs → are_columns attrs (length table.columns) ≡ true
own-columns table attrs own = are-own attrs (length table.columns) (λ c far. by c far (has_column attrs c) refl)
  where
    by : (c : ℕ) → length table.columns ≤ c → (b : Bool) → has_column attrs c ≡ b → b ≡ false
    by c far false is = refl
    by c far true is = absurd (let less = own c is in omega (arith, less, far))

-- ---- essential columns are the table's

set-beyond : (p : Row) (c : ℕ) (v : Cell) → length p ≤ c → slice_set p c v ≡ p
set-beyond [] c v le = refl
set-beyond (x ∷ p) zero v le = absurd (omega (arith, le))
set-beyond (x ∷ p) (suc c) v le = ap (λ q. x ∷ q) (set-beyond p c v (omega (arith, le)))

essential-own : (cs : List Column) (a : Points) (c : ℕ) → IsEssential cs a c → c < length cs
essential-own cs a c is = elim (cases_lt c (length cs)) [
  | inl less ↦ less
  | inr beyond ↦
      let len = point-length cs is.inside is.is_inside.0 in
      let same = set-beyond is.inside c is.other (omega (arith, beyond, len)) in
      absurd (let wrong : true ≡ false = sym is.is_inside.1 ∙ (ap a (sym same) ∙ is.is_outside.1) in cc)
]

-- the columns of a rest are the table's
pub rest-own : (schema : List Table) (marks : List Mark) (part : model.Part) (ask : AskPart) → IsRest schema marks part ask
    → are_columns part.need (length (table_at schema part.table).columns) ≡ true → AreColumnsOf (table_at schema ask.table) ask.attrs
rest-own schema marks part ask is own = subst (λ t. AreColumnsOf (table_at schema t) ask.attrs) (sym is.table) (λ c has. elim ((is.columns c).0 has) [
  | inl need ↦ needed c need (cases_lt c (length (table_at schema part.table).columns))
  | inr essential ↦ essential-own (table_at schema part.table).columns (rest_of marks part) c essential
])
  where
    needed : (c : ℕ) → has_column part.need c ≡ true → (c < length (table_at schema part.table).columns) ⊎ (length (table_at schema part.table).columns ≤ c)
        → c < length (table_at schema part.table).columns
    needed c need (inl less) = less
    needed c need (inr beyond) = absurd (let wrong : true ≡ false = sym need ∙ none-beyond part.need (length (table_at schema part.table).columns) c own beyond in cc)

-- ---- a rest suits the schema

module _ (schema : List Table) (marks : List Mark) (part : model.Part) (ask : AskPart) (is : IsRest schema marks part ask) (sound : is_sound_part schema part ≡ true)
    (own : are_columns part.need (length (table_at schema part.table).columns) ≡ true) where
  abbrev table : Table
  table = table_at schema part.table

  columns-own : are_columns ask.attrs (length table.columns) ≡ true
  columns-own = are-own ask.attrs (length table.columns) (λ c beyond. go c beyond (has_column ask.attrs c) refl)
    where
      go : (c : ℕ) → length table.columns ≤ c → (b : Bool) → has_column ask.attrs c ≡ b → b ≡ false
      go c beyond false e = refl
      go c beyond true e = elim ((is.columns c).0 e) [
        | inl need ↦ absurd (let wrong : true ≡ false = sym need ∙ none-beyond part.need (length table.columns) c own beyond in cc)
        | inr essential ↦ absurd (let less = essential-own table.columns (rest_of marks part) c essential in omega (arith, less, beyond))
      ]

  key-asked : has_column ask.attrs table.key ≡ true
  key-asked = let need : has_column part.need table.key ≡ true = grind (arith, sound) in (is.columns table.key).1 (inl need)

  suits : suits_table table ask ≡ true
  suits = both_true (both_true (both_true columns-own key-asked) is.fits) is.bound

  pub rest-suits : part_suits schema ask ≡ true
  rest-suits =
      let below : nat_lt part.table (length schema) ≡ true = grind (arith, sound) in
      subst (λ t. (nat_lt t (length schema) && suits_table (table_at schema t) ask) ≡ true) (sym is.table) (both_true below suits)

abbrev own : List Table → model.Part → Bool
own schema part = are_columns part.need (length (table_at schema part.table).columns)

-- so does all that is asked
asks-suit : (schema : List Table) (marks : List Mark) (parts : List model.Part) (asks : List AskPart) → Asks schema marks parts asks → list_all (is_sound_part schema) parts ≡ true
    → list_all (own schema) parts ≡ true → list_all (part_suits schema) asks ≡ true
asks-suit schema marks parts asks nothing sound of_table = refl
asks-suit schema marks parts asks (covered part others more none rest) sound of_table =
    asks-suit schema marks others more rest (and_parts (is_sound_part schema part) (list_all (is_sound_part schema) others) sound).1 (and_parts (own schema part) (list_all (own schema) others) of_table).1
asks-suit schema marks parts asks (asked part others ask more is rest) sound of_table =
    let s = and_parts (is_sound_part schema part) (list_all (is_sound_part schema) others) sound in
    let o = and_parts (own schema part) (list_all (own schema) others) of_table in
    both_true (rest-suits schema marks part ask is s.0 o.0) (asks-suit schema marks others more rest s.1 o.1)

-- and no more than the parts
asks-few : (schema : List Table) (marks : List Mark) (parts : List model.Part) (asks : List AskPart) → Asks schema marks parts asks → length asks ≤ length parts
asks-few schema marks parts asks nothing = omega arith
asks-few schema marks parts asks (covered part others more none rest) = let few = asks-few schema marks others more rest in omega (arith, few)
asks-few schema marks parts asks (asked part others ask more is rest) = let few = asks-few schema marks others more rest in omega (arith, few)

-- ---- the message

-- the ask of a query is a request that suits the schema
pub ask-well : (schema : List Table) (client number : ℕ) (fresh : Bool) (marks : List Mark) (q : Query) (m : model.Query) (asks : List AskPart) → IsMeaning schema q m → Asks schema marks m.parts asks
    → is_request_of schema client (Ask number fresh asks) ≡ true
ask-well schema client number fresh marks q m asks is rest =
    let suit = asks-suit schema marks m.parts asks rest (are-sound schema q m is) is.own in
    let count = asks-few schema marks m.parts asks rest in
    let parts = is.few in
    both_true suit (few (length asks) (omega (arith, count, parts)))
  where
    few : (n : ℕ) → n ≤ 4 → nat_le n 4 ≡ true
    few n le = grind (arith, nat_tests, le)
