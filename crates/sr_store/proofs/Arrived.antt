-- The regions of what arrived.
use Rattle.std.proofs.Common.{◌≡◌, ℕ, ◌<◌, true, false, List, [], ◌∷◌, length, refl, sym, ap, subst, ◌∙◌, arith}
use Rattle.std.specs.Prelude.{Bool, ◌&&◌, ◌==◌, if◌then◌else◌, filter}
use Rattle.std.specs.List.{list_all, All, AllZip}
use Rattle.std.proofs.lemmas.Bool.Decides.{nat_tests}
use Rattle.std.proofs.lemmas.List.Elements.{All-nil, All-cons, All-head, All-tail, All-weaker}
use Rattle.sr_cell.specs.declared.table.Table.{Table}
use Rattle.sr_cell.specs.Cells.{Row}
use Rattle.sr_cell.specs.Columns.{table_at, is_point}
use Rattle.sr_model.specs.SortedRows.{ascend}
use Rattle.sr_box.specs.Points.{Rect, in_any, times, constrains_only}
use Rattle.sr_box.specs.Corners.{have_first}
use Rattle.sr_union.specs.Grid.{AreCutFrom}
use Rattle.sr_union.proofs.Low.{has_point}
use Rattle.sr_union.proofs.Once.{in_any-once, once_le, are_trans}
use Rattle.sr_union.proofs.Parts.{are_fit}
use Rattle.sr_query.specs.declared.query.Part.{Part}
use Rattle.sr_region.specs.declared.region.Region.{Region}
use Rattle.sr_region.specs.Regions.{rank, is_in, IsRowIn, IsArea, IsRegion}
use Rattle.sr_region.proofs.Sides.{cuts-only}
use Rattle.sr_store.specs.declared.store.Arrival.{Arrival}
use Rattle.sr_store.specs.Classes.{Stamps, occurs, IsStamped, restamped}
use Rattle.sr_store.specs.Told.{Told, IsTold, IsTrueOf, AreTrueOf}
use Rattle.sr_store.specs.Stores.{IsOfSchema}
use Rattle.sr_store.specs.Answered.{arrivals_at, IsArrival, HaveArrived}
use Rattle.sr_store.specs.Renewing.{IsArrived, IsCutFrom, IsArrivalCutFrom}
use Rattle.sr_store.proofs.Truths.{in-part, true_same}

arrived-only : (schema : List Table) (number : ℕ) (parts : List Part) (r : Arrival) (g : Region) → IsArrival schema parts r → IsArrived schema number r g → list_all (constrains_only r.attrs 0) g.rects ≡ true
arrived-only schema number parts r g h k = cuts-only (table_at schema r.table).columns r.rects g.rects r.attrs k.cuts h.only

arrived-area : (schema : List Table) (number : ℕ) (parts : List Part) (r : Arrival) (g : Region) → have_first (table_at schema r.table).columns ≡ true
    → IsArrival schema parts r → IsArrived schema number r g → IsArea (table_at schema r.table) r.key r.attrs g.rects
arrived-area schema number parts r g first h k = record {
  key = h.key;
  has_key = h.has_key;
  own = h.own;
  some = λ none.
      let point = has_point (table_at schema r.table).columns r.rects h.some h.fit first in
      let inside : in_any g.rects point.0 ≡ true = in_any-once (table_at schema r.table).columns r.rects g.rects k.once point.0 point.1 ∙ point.2 in
      let no : false ≡ true = sym (ap (λ rects. in_any rects point.0) none) ∙ inside in cc;
  fit = are_fit (table_at schema r.table).columns r.rects g.rects k.cuts;
  only = arrived-only schema number parts r g h k;
  once = once_le (table_at schema r.table).columns r.rects g.rects k.once;
}

arrived-rows : (schema : List Table) (number : ℕ) (parts : List Part) (r : Arrival) (g : Region) → IsArrival schema parts r → IsArrived schema number r g
    → All (IsRowIn (table_at schema r.table).columns r.attrs g.rects) r.rows
arrived-rows schema number parts r g h k =
    let cs = (table_at schema r.table).columns in
    All-weaker (IsRowIn cs r.attrs r.rects) (IsRowIn cs r.attrs g.rects)
    (λ row is. (
      is.0,
      in-part cs r.attrs g.rects row (are_fit cs r.rects g.rects k.cuts) (arrived-only schema number parts r g h k) is.0
          ∙ in_any-once cs r.rects g.rects k.once is.0.0 is.0.1 ∙ sym (in-part cs r.attrs r.rects row h.fit h.only is.0) ∙ is.1,
    ))
    r.rows h.rows

pub arrived_of : (schema : List Table) (number : ℕ) (parts : List Part) (r : Arrival) (g : Region) → have_first (table_at schema r.table).columns ≡ true
    → IsArrival schema parts r → IsArrived schema number r g → IsOfSchema schema g
arrived_of schema number parts r g first h k =
    let t = table_at schema r.table in
    let area = subst (λ key. IsArea t key g.attrs g.rects) (sym k.key) (subst (λ a. IsArea t r.key a g.rects) (sym k.attrs) (arrived-area schema number parts r g first h k)) in
    let rows = subst (λ rows. All (IsRowIn t.columns g.attrs g.rects) rows) (sym k.rows)
    (subst (λ a. All (IsRowIn t.columns a g.rects) r.rows) (sym k.attrs) (arrived-rows schema number parts r g h k)) in
    let ascending : ascend (rank g.attrs g.key) g.rows ≡ true =
    ap (λ rows. ascend (rank g.attrs g.key) rows) k.rows ∙ ap (λ key. ascend (rank g.attrs key) r.rows) k.key ∙ ap (λ a. ascend (rank a r.key) r.rows) k.attrs ∙ h.ascending in
    let region : IsRegion t g = record { area = area; rows = rows; ascending = ascending } in
    (subst (λ n. n < length schema) (sym k.table) h.table, subst (λ n. IsRegion (table_at schema n) g) (sym k.table) region)

-- what arrived is touched
arrived-stamped : (schema : List Table) (number : ℕ) (parts : List Part) (r : Arrival) (g : Region) → IsArrival schema parts r → IsArrived schema number r g
    → (stamps : Stamps) → IsStamped schema (restamped number parts stamps) g
arrived-stamped schema number parts r g h k stamps p point inside =
    let here : is_point (table_at schema r.table).columns p ≡ true = subst (λ t. is_point (table_at schema t).columns p ≡ true) k.table point in
    let there : in_any r.rects p ≡ true = sym (in_any-once (table_at schema r.table).columns r.rects g.rects k.once p here) ∙ inside in
    ap (λ t. restamped number parts stamps t g.attrs p) k.table ∙ ap (λ a. restamped number parts stamps r.table a p) k.attrs
    ∙ rw (h.touched p here there) (sym k.stamp)

arrived-true : (schema : List Table) (number : ℕ) (parts : List Part) (r : Arrival) (g : Region) → IsArrival schema parts r → IsArrived schema number r g
    → (told : Told) → IsTold schema told → r.rows ≡ filter (is_in r.attrs r.rects) (told r.table r.attrs) → IsTrueOf told g
arrived-true schema number parts r g h k told is_told rows =
    let cs = (table_at schema r.table).columns in
    k.rows
    ∙ true_same schema told r.table r.attrs r.rows r.rects g.rects is_told h.fit h.only (are_fit cs r.rects g.rects k.cuts) (arrived-only schema number parts r g h k)
    (in_any-once cs r.rects g.rects k.once) rows
    ∙ ap (λ a. filter (is_in a g.rects) (told r.table a)) (sym k.attrs) ∙ ap (λ t. filter (is_in g.attrs g.rects) (told t g.attrs)) (sym k.table)

arrived-occurs : (schema : List Table) (number : ℕ) (r : Arrival) (g : Region) → IsArrived schema number r g → (t a : ℕ) (p : Row) → is_point (table_at schema t).columns p ≡ true
    → (if g.table == t && g.attrs == a then times g.rects p else 0) ≡ (if (r.table == t && r.attrs == a) && in_any r.rects p then 1 else 0)
arrived-occurs schema number r g k t a p point =
    rw (k.table, k.attrs) (go (r.table == t) (r.attrs == a) refl)
  where
    go : (b c : Bool) → (r.table == t) ≡ b → (if b && c then times g.rects p else 0) ≡ (if (b && c) && in_any r.rects p then 1 else 0)
    go true true e = let same : r.table ≡ t = grind (arith, nat_tests) in k.once p (subst (λ u. is_point (table_at schema u).columns p ≡ true) (sym same) point)
    go true false e = refl
    go false c e = refl

-- how often a point occurs in what arrived
pub all-occur : (schema : List Table) (number : ℕ) (arrivals : List Arrival) (arrived : List Region) → AllZip (IsArrived schema number) arrivals arrived
    → (t a : ℕ) (p : Row) → is_point (table_at schema t).columns p ≡ true → occurs arrived t a p ≡ arrivals_at arrivals t a p
all-occur schema number [] [] k t a p point = refl
all-occur schema number [] (g ∷ gs) k t a p point = absurd k
all-occur schema number (r ∷ rs) [] k t a p point = absurd k
all-occur schema number (r ∷ rs) (g ∷ gs) k t a p point = rw (arrived-occurs schema number r g k.0 t a p point, all-occur schema number rs gs k.1 t a p point) refl

-- what has a property for each arrival has it for the regions
zip-all : (R : Arrival → Region → Type 0) (A : Arrival → Type 0) (P : Region → Type 0) → ((r : Arrival) (g : Region) → A r → R r g → P g)
    → (arrivals : List Arrival) (arrived : List Region) → All A arrivals → AllZip R arrivals arrived → All P arrived
zip-all R A P one [] [] all k = All-nil P
zip-all R A P one [] (g ∷ gs) all k = absurd k
zip-all R A P one (r ∷ rs) [] all k = absurd k
zip-all R A P one (r ∷ rs) (g ∷ gs) all k = All-cons P g gs (one r g (All-head A r rs all) k.0) (zip-all R A P one rs gs (All-tail A r rs all) k.1)

pub all_of : (schema : List Table) (number : ℕ) (parts : List Part) (arrivals : List Arrival) (arrived : List Region) → ((t : ℕ) → have_first (table_at schema t).columns ≡ true)
    → All (IsArrival schema parts) arrivals → AllZip (IsArrived schema number) arrivals arrived → All (IsOfSchema schema) arrived
all_of schema number parts arrivals arrived first = zip-all (IsArrived schema number) (IsArrival schema parts) (IsOfSchema schema) (λ r g h k. arrived_of schema number parts r g (first r.table) h k) arrivals arrived

pub all_stamped : (schema : List Table) (number : ℕ) (parts : List Part) (arrivals : List Arrival) (arrived : List Region) (stamps : Stamps)
    → All (IsArrival schema parts) arrivals → AllZip (IsArrived schema number) arrivals arrived → All (IsStamped schema (restamped number parts stamps)) arrived
all_stamped schema number parts arrivals arrived stamps =
    zip-all (IsArrived schema number) (IsArrival schema parts) (IsStamped schema (restamped number parts stamps)) (λ r g h k. arrived-stamped schema number parts r g h k stamps) arrivals arrived

pub all_true : (schema : List Table) (number : ℕ) (parts : List Part) (arrivals : List Arrival) (arrived : List Region) (told : Told) → IsTold schema told
    → All (IsArrival schema parts) arrivals → HaveArrived told arrivals → AllZip (IsArrived schema number) arrivals arrived → AreTrueOf told arrived
all_true schema number parts arrivals arrived told is_told are rows =
    zip-all (IsArrived schema number) (λ r. IsArrival schema parts r × (r.rows ≡ filter (is_in r.attrs r.rects) (told r.table r.attrs))) (IsTrueOf told)
    (λ r g h k. arrived-true schema number parts r g h.0 k told is_told h.1) arrivals arrived (λ k d lt. (are k d lt, rows k d lt))

pub all_cut : (schema : List Table) (number : ℕ) (given : ℕ → List Rect) (arrivals : List Arrival) (arrived : List Region)
    → All (IsArrivalCutFrom schema given) arrivals → AllZip (IsArrived schema number) arrivals arrived → All (IsCutFrom schema given) arrived
all_cut schema number given arrivals arrived =
    zip-all (IsArrived schema number) (IsArrivalCutFrom schema given) (IsCutFrom schema given)
    (λ r g h k. subst (λ t. AreCutFrom (table_at schema t).columns (given t) g.rects) (sym k.table) (are_trans (table_at schema r.table).columns (given r.table) r.rects g.rects h k.cuts))
    arrivals arrived

pub all_used : (schema : List Table) (number : ℕ) (used : ℕ → ℕ → Bool) (arrivals : List Arrival) (arrived : List Region)
    → list_all (λ r. used r.table r.attrs) arrivals ≡ true → AllZip (IsArrived schema number) arrivals arrived → list_all (λ g. used g.table g.attrs) arrived ≡ true
all_used schema number used [] [] h k = refl
all_used schema number used [] (g ∷ gs) h k = absurd k
all_used schema number used (r ∷ rs) [] h k = absurd k
all_used schema number used (r ∷ rs) (g ∷ gs) h k =
    let ih = all_used schema number used rs gs (grind arith) k.1 in
    let one : used r.table r.attrs ≡ true = grind arith in
    rw (k.0.table, k.0.attrs, one) ih

-- each has the number as its stamp
pub all_new : (schema : List Table) (number : ℕ) (is : ℕ → ℕ → ℕ → Bool) (arrivals : List Arrival) (arrived : List Region) → ((t a : ℕ) → is t a number ≡ true)
    → AllZip (IsArrived schema number) arrivals arrived → list_all (λ g. is g.table g.attrs g.stamp) arrived ≡ true
all_new schema number is [] [] new k = refl
all_new schema number is [] (g ∷ gs) new k = absurd k
all_new schema number is (r ∷ rs) [] new k = absurd k
all_new schema number is (r ∷ rs) (g ∷ gs) new k =
    let one : is g.table g.attrs g.stamp ≡ true = ap (is g.table g.attrs) k.0.stamp ∙ new g.table g.attrs in
    rw one (all_new schema number is rs gs new k.1)
