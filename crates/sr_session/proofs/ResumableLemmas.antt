-- What a Resume says of the classes that are held.
use Rattle.std.proofs.Common.{◌≡◌, ℕ, ◌+◌, ◌/◌, ◌^◌, ◌≤◌, ◌<◌, Bool, true, false, List, [], ◌∷◌, map, length, refl, sym, ◌∙◌, ap, subst, arith}
use Rattle.std.specs.Prelude.{◌&&◌, ◌||◌, ◌==◌, nat_lt}
use Rattle.std.specs.List.{list_all, list_any, All, AllZip}
use Rattle.std.specs.Cmp.{first_so}
use Rattle.std.specs.Cmp.Derive.{both_true}
use Rattle.std.proofs.lemmas.Bool.{or_right}
use Rattle.std.proofs.lemmas.Bool.Decides.{nat_tests}
use Rattle.std.proofs.lemmas.List.Elements.{All-head, All-tail, All-weaker}
use Rattle.sr_cell.specs.declared.table.Table.{Table}
use Rattle.sr_cell.specs.Attrs.{has_column, includes}
use Rattle.sr_cell.specs.Cells.{Row}
use Rattle.sr_cell.specs.Columns.{table_at, is_point}
use Rattle.sr_cell.proofs.ColumnSets.{no_bits, has_column-shifted}
use Rattle.sr_cell.proofs.Numbers.{eqb_same}
use Rattle.sr_box.specs.Points.{in_any}
use Rattle.sr_message.specs.declared.message.Holding.{Holding}
use Rattle.sr_subs.specs.Subscription.{has_point}
use Rattle.sr_history.specs.declared.mark.Mark.{Mark}
use Rattle.sr_history.specs.Marks.{is_held}
use Rattle.sr_history.specs.Classes.{Class, in_class, Numbered, same_class, stamp}
use Rattle.sr_region.specs.declared.region.Region.{Region}
use Rattle.sr_store.specs.Past.{class_of}
use Rattle.sr_store.specs.Stores.{IsOfSchema}
use Rattle.sr_store.proofs.Classing.{are_classes, have_classes, HasClass}
use Rattle.sr_store.proofs.Tables.{tables_first}
use Rattle.sr_session.specs.Places.{held, Within}
use Rattle.sr_session.specs.Clients.{AreHoldings, IsHoldingOf}
use Rattle.sr_session.specs.Refusals.{are_columns, holding_suits}
use Rattle.sr_session.specs.Regions.{LieIn}
use Rattle.sr_session.specs.Resumable.{region_holding, RegionsCanResume}
use Rattle.sr_session.proofs.AskLemmas.{include-self}

-- ---- each held point is in the holding of its class

module _ (schema : List Table) (marks : List Mark) (queries : List Numbered) (t a : ℕ) (p : Row) (point : is_point (table_at schema t).columns p ≡ true) where
  abbrev own : Class
  own = record { table = t; attrs = a; stamp = stamp queries t a p }

  in-holding : (k : Class) (h : Holding) → IsHoldingOf schema marks queries k h → same_class own k ≡ true → is_held marks t a p ≡ true
      → (h.table == t && includes h.attrs a && in_any h.rects p) ≡ true
  in-holding k h is same held =
      let table : k.table ≡ t = grind (arith, nat_tests, same) in
      let attrs : k.attrs ≡ a = grind (arith, nat_tests, same) in
      let stamped : k.stamp ≡ stamp queries t a p = grind (arith, nat_tests, same) in
      let here : in_any h.rects p ≡ in_class marks queries k p = is.points p (subst (λ n. is_point (table_at schema n).columns p ≡ true) (sym table) point) in
      let classed : in_class marks queries k p ≡ true =
      ap (λ n. is_held marks n k.attrs p && stamp queries n k.attrs p == k.stamp) table
      ∙ ap (λ n. is_held marks t n p && stamp queries t n p == k.stamp) attrs
      ∙ ap (λ n. is_held marks t a p && stamp queries t a p == n) stamped
      ∙ both_true held (eqb_same (stamp queries t a p)) in
      let of : (h.table == t) ≡ true = ap (λ n. n == t) (is.table ∙ table) ∙ eqb_same t in
      let with : includes h.attrs a ≡ true = ap (λ n. includes n a) (is.attrs ∙ attrs) ∙ include-self a in
      both_true (both_true of with) (here ∙ classed)

  in-holdings : (classes : List Class) (holdings : List Holding) → AllZip (IsHoldingOf schema marks queries) classes holdings → list_any (same_class own) classes ≡ true
      → is_held marks t a p ≡ true → has_point holdings t a p ≡ true
  in-holdings [] holdings zip some held = absurd cc
  in-holdings (k ∷ classes) [] zip some held = absurd zip
  in-holdings (k ∷ classes) (h ∷ holdings) zip some held = by (same_class own k) refl some (λ more. in-holdings classes holdings zip.1 more held)
    where
      by : (b : Bool) → same_class own k ≡ b → (b || list_any (same_class own) classes) ≡ true → (list_any (same_class own) classes ≡ true → has_point holdings t a p ≡ true)
          → has_point (h ∷ holdings) t a p ≡ true
      by true same some others = let here = in-holding k h zip.0 same held in grind (arith, here)
      by false other some others = or_right (h.table == t && includes h.attrs a && in_any h.rects p) (has_point holdings t a p) (others some)

pub held-within : (schema : List Table) (marks : List Mark) (queries : List Numbered) (holdings : List Holding) → AreHoldings schema marks queries holdings
    → Within schema (held marks) (has_point holdings)
held-within schema marks queries holdings are t a p point held =
    let here = both_true held (eqb_same (stamp queries t a p)) in
    in-holdings schema marks queries t a p point are.0 holdings are.2 ((are.1.each (own schema marks queries t a p point)).1 (p, point, here)) held

-- ---- what is said of regions

region-holdings : (schema : List Table) (marks : List Mark) (queries : List Numbered) (gs : List Region) → All (HasClass schema marks queries) gs
    → AllZip (IsHoldingOf schema marks queries) (map class_of gs) (map region_holding gs)
region-holdings schema marks queries [] all = tt
region-holdings schema marks queries (g ∷ gs) all = (
  record { table = refl; attrs = refl; points = All-head (HasClass schema marks queries) g gs all },
  region-holdings schema marks queries gs (All-tail (HasClass schema marks queries) g gs all),
)

-- a set of columns below n has none beyond them
few-columns : (n attrs : ℕ) → ((c : ℕ) → has_column attrs c ≡ true → c < n) → are_columns attrs n ≡ true
few-columns n attrs own =
    let zero_is = no_bits (attrs / 2 ^ n) (attrs / 2 ^ n) (omega arith) (λ k. sym (has_column-shifted attrs n k) ∙ beyond (n + k) (omega arith) (has_column attrs (n + k)) refl) in
    by (attrs / 2 ^ n) zero_is
  where
    beyond : (c : ℕ) → n ≤ c → (b : Bool) → has_column attrs c ≡ b → b ≡ false
    beyond c far false is = refl
    beyond c far true is = absurd (let less = own c is in omega (arith, less, far))

    by : (m : ℕ) → m ≡ 0 → (m == 0) ≡ true
    by m e = grind (arith, nat_tests, e)

region-suits : (schema : List Table) (g : Region) → IsOfSchema schema g → holding_suits schema 2 (region_holding g) ≡ true
region-suits schema g is =
    let area = is.1.area in
    let key : has_column g.attrs (table_at schema g.table).key ≡ true = ap (has_column g.attrs) (sym area.key) ∙ area.has_key in
    both_true (both_true (below g.table (length schema) is.0) area.fit)
    (both_true (both_true (few-columns (length (table_at schema g.table).columns) g.attrs area.own) key) area.only)
  where
    below : (n k : ℕ) → n < k → nat_lt n k ≡ true
    below n k less = grind (arith, nat_tests, less)

regions-suit : (schema : List Table) (gs : List Region) → All (IsOfSchema schema) gs → list_all (holding_suits schema 2) (map region_holding gs) ≡ true
regions-suit schema [] all = refl
regions-suit schema (g ∷ gs) all = both_true (region-suits schema g (All-head (IsOfSchema schema) g gs all)) (regions-suit schema gs (All-tail (IsOfSchema schema) g gs all))

-- a region of a class lies in what is held
abbrev Lies : List Table → List Mark → Region → Type 0
Lies schema marks g = (p : Row) → is_point (table_at schema g.table).columns p ≡ true → in_any g.rects p ≡ true → held marks g.table g.attrs p ≡ true

regions-lie : (schema : List Table) (marks : List Mark) (queries : List Numbered) (gs : List Region) → All (HasClass schema marks queries) gs → LieIn schema (held marks) gs
regions-lie schema marks queries gs all =
    All-weaker (HasClass schema marks queries) (Lies schema marks)
    (λ g has p point inside. first_so (is_held marks g.table g.attrs p) (stamp queries g.table g.attrs p == g.stamp) (sym (has p point) ∙ inside)) gs all

pub regions-can-resume : RegionsCanResume
regions-can-resume schema marks queries gs tables store keeps =
    let have = have_classes schema marks queries gs store.order keeps in
    let are = are_classes schema marks queries gs (λ t. tables_first schema t tables) store.each store.order keeps in
    record {
      holdings = (map class_of gs, are, region-holdings schema marks queries gs have);
      suits = regions-suit schema gs store.each;
      lie = regions-lie schema marks queries gs have;
    }
