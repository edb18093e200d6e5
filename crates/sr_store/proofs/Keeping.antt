-- The regions of an answer: pieces of the old ones and what arrived, put together by class.
use Rattle.std.proofs.Common.{◌≡◌, ℕ, ◌+◌, ◌≤◌, true, false, List, [], ◌∷◌, ◌++◌, refl, subst, ◌∙◌, arith}
use Rattle.std.specs.Prelude.{Bool, not, ◌&&◌, ◌||◌, ◌==◌, nat_eq, if◌then◌else◌}
use Rattle.std.specs.List.{list_all, list_any, All}
use Rattle.std.proofs.lemmas.Bool.Decides.{nat_tests}
use Rattle.std.proofs.lemmas.List.Folds.{list_all-append}
use Rattle.std.proofs.lemmas.List.Elements.{All-nil, All-append, All-weaker}
use Rattle.sr_cell.specs.declared.table.Table.{Table}
use Rattle.sr_cell.specs.Cells.{Row}
use Rattle.sr_cell.specs.Columns.{table_at, is_point}
use Rattle.sr_box.specs.Points.{Rect, in_any}
use Rattle.sr_query.specs.declared.query.Part.{Part}
use Rattle.sr_region.specs.declared.region.Region.{Region}
use Rattle.sr_store.specs.declared.store.Arrival.{Arrival}
use Rattle.sr_store.specs.Classes.{Held, Stamps, occurs, IsStamped, Keeps, restamped}
use Rattle.sr_store.specs.Told.{Told, IsTold, IsTrueOf, AreTrueOf}
use Rattle.sr_store.specs.Stores.{IsOfSchema}
use Rattle.sr_store.specs.Answered.{arrives, arrivals_at, HaveArrived, is_used}
use Rattle.sr_store.specs.Renewing.{IsCutFrom, IsPartCutFrom, IsArrivalCutFrom, with_regions, renewed, AreReady, IsRenewal}
use Rattle.sr_store.proofs.Restamping.{occurs-append}
use Rattle.sr_store.proofs.Adding.{with_regions-occurs, with_regions_append, with_regions-ascends, with_regions-all, with_regions-used, with_regions-classes, joined_stamped, joined_cut}
use Rattle.sr_store.proofs.Tables.{tables_first}
use Rattle.sr_store.proofs.Sound.{IsSound, with_regions-sound}
use Rattle.sr_store.proofs.Arrived.{all-occur, all_of, all_stamped, all_true, all_cut, all_used, all_new}

pub arrives-is : (arrivals : List Arrival) (t a : ℕ) (p : Row) → arrives arrivals t a p ≡ not (nat_eq (arrivals_at arrivals t a p) 0)
arrives-is [] t a p = refl
arrives-is (r ∷ rs) t a p = go ((r.table == t && r.attrs == a) && in_any r.rects p) (arrives-is rs t a p)
  where
    go : (b : Bool) → arrives rs t a p ≡ not (nat_eq (arrivals_at rs t a p) 0) → (b || arrives rs t a p) ≡ not (nat_eq ((if b then 1 else 0) + arrivals_at rs t a p) 0)
    go true ih = grind (arith, nat_tests)
    go false ih = grind (arith, nat_tests, ih)

-- ---- each table and set of columns of a region or an arrival is used

region-used : (gs all : List Region) → ((t a : ℕ) → list_any (λ g. g.table == t && g.attrs == a) gs ≡ true → list_any (λ g. g.table == t && g.attrs == a) all ≡ true)
    → list_all (λ g. list_any (λ h. h.table == g.table && h.attrs == g.attrs) all) gs ≡ true
region-used [] all sub = refl
region-used (g ∷ gs) all sub =
    let ih = region-used gs all (λ t a h. sub t a (behind (g.table == t && g.attrs == a) (list_any (λ g. g.table == t && g.attrs == a) gs) h)) in
    let one = sub g.table g.attrs (front (g.table == g.table) (g.attrs == g.attrs) (list_any (λ h. h.table == g.table && h.attrs == g.attrs) gs) (same g.table) (same g.attrs)) in
    rw (one, ih) refl
  where
    same : (n : ℕ) → (n == n) ≡ true
    same n = grind (arith, nat_tests)

    behind : (b c : Bool) → c ≡ true → (b || c) ≡ true
    behind true c e = refl
    behind false c e = e

    front : (b c d : Bool) → b ≡ true → c ≡ true → ((b && c) || d) ≡ true
    front b c d e f = rw (e, f) refl

arrival-used : (rs all : List Arrival) → ((t a : ℕ) → list_any (λ r. r.table == t && r.attrs == a) rs ≡ true → list_any (λ r. r.table == t && r.attrs == a) all ≡ true)
    → list_all (λ r. list_any (λ s. s.table == r.table && s.attrs == r.attrs) all) rs ≡ true
arrival-used [] all sub = refl
arrival-used (r ∷ rs) all sub =
    let ih = arrival-used rs all (λ t a h. sub t a (behind (r.table == t && r.attrs == a) (list_any (λ r. r.table == t && r.attrs == a) rs) h)) in
    let one = sub r.table r.attrs (front (r.table == r.table) (r.attrs == r.attrs) (list_any (λ s. s.table == r.table && s.attrs == r.attrs) rs) (same r.table) (same r.attrs)) in
    rw (one, ih) refl
  where
    same : (n : ℕ) → (n == n) ≡ true
    same n = grind (arith, nat_tests)

    behind : (b c : Bool) → c ≡ true → (b || c) ≡ true
    behind true c e = refl
    behind false c e = e

    front : (b c d : Bool) → b ≡ true → c ≡ true → ((b && c) || d) ≡ true
    front b c d e f = rw (e, f) refl

module _ {X : Type 0} where
  either-left : (f g : X → Bool) (xs : List X) → list_all f xs ≡ true → list_all (λ x. f x || g x) xs ≡ true
  either-left f g [] h = refl
  either-left f g (x ∷ xs) h = let ih = either-left f g xs (grind arith) in let one : f x ≡ true = grind arith in rw (one, ih) refl

  either-right : (f g : X → Bool) (xs : List X) → list_all g xs ≡ true → list_all (λ x. f x || g x) xs ≡ true
  either-right f g [] h = refl
  either-right f g (x ∷ xs) h = let ih = either-right f g xs (grind arith) in let one : g x ≡ true = grind arith in let two : (f x || g x) ≡ true = grind (arith, one) in rw (two, ih) refl

pub old_used : (old : List Region) (arrivals : List Arrival) → list_all (λ g. is_used old arrivals g.table g.attrs) old ≡ true
old_used old arrivals =
    either-left (λ g. list_any (λ h. h.table == g.table && h.attrs == g.attrs) old) (λ g. list_any (λ r. r.table == g.table && r.attrs == g.attrs) arrivals) old
    (region-used old old (λ t a h. h))

pub arrivals_used : (old : List Region) (arrivals : List Arrival) → list_all (λ r. is_used old arrivals r.table r.attrs) arrivals ≡ true
arrivals_used old arrivals =
    either-right (λ r. list_any (λ h. h.table == r.table && h.attrs == r.attrs) old) (λ r. list_any (λ s. s.table == r.table && s.attrs == r.attrs) arrivals) arrivals
    (arrival-used arrivals arrivals (λ t a h. h))

-- ---- the answer

-- a point lies in one region where it was held or arrives
pub held_sum : (n x y : ℕ) (held arrived : Bool) → n ≡ x + y → x ≡ (if held then 1 else 0) → arrived ≡ not (nat_eq y 0) → y + x ≤ 1 → n ≡ (if held || arrived then 1 else 0)
held_sum n x y true arrived e f d le = omega (arith, e, f, le)
held_sum n x y false true e f d le = grind (arith, nat_tests, e, f, d, le)
held_sum n x y false false e f d le = grind (arith, nat_tests, e, f, d, le)

module _ (schema : List Table) (number : ℕ) (parts : List Part) (arrivals : List Arrival) (old pieces arrived : List Region) (h : AreReady schema number parts arrivals old pieces arrived) where
  ready-each : All (IsOfSchema schema) (pieces ++ arrived)
  ready-each = All-append (IsOfSchema schema) pieces arrived h.restamped.each (all_of schema number parts arrivals arrived (λ t. tables_first schema t h.tables) h.are_arrivals h.are_arrived)

  ready-true : (told : Told) → IsTold schema told → AreTrueOf told old → HaveArrived told arrivals → AreTrueOf told (pieces ++ arrived)
  ready-true told is_told old_true rows =
      All-append (IsTrueOf told) pieces arrived (h.restamped.are_true told is_told old_true) (all_true schema number parts arrivals arrived told is_told h.are_arrivals rows h.are_arrived)

  ready-occurs : (t a : ℕ) (p : Row) → is_point (table_at schema t).columns p ≡ true → occurs (pieces ++ arrived) t a p ≡ occurs old t a p + arrivals_at arrivals t a p
  ready-occurs t a p point =
      let x = occurs-append pieces arrived t a p in let y = h.restamped.points t a p point in let z = all-occur schema number arrivals arrived h.are_arrived t a p point in
      omega (arith, x, y, z)

  ready-once : (t a : ℕ) (p : Row) → is_point (table_at schema t).columns p ≡ true → occurs [] t a p + occurs (pieces ++ arrived) t a p ≤ 1
  ready-once t a p point = let x = ready-occurs t a p point in let y = h.apart t a p point in omega (arith, x, y)

  all-occurs : (t a : ℕ) (p : Row) → is_point (table_at schema t).columns p ≡ true → occurs (with_regions [] (pieces ++ arrived)) t a p ≡ occurs old t a p + arrivals_at arrivals t a p
  all-occurs t a p point = let x = with_regions-occurs [] (pieces ++ arrived) t a p in let y = ready-occurs t a p point in omega (arith, x, y)

  all-sound : (told : Told) → IsTold schema told → AreTrueOf told old → HaveArrived told arrivals → All (IsSound schema told) (with_regions [] (pieces ++ arrived))
  all-sound told is_told old_true rows =
      with_regions-sound schema told [] (pieces ++ arrived) is_told ready-once (All-nil (IsOfSchema schema)) (All-nil (IsTrueOf told)) ready-each (ready-true told is_told old_true rows)

  all-keeps : (held : Held) (stamps : Stamps) → Keeps schema held stamps old
      → Keeps schema (λ t a p. held t a p || arrives arrivals t a p) (restamped number parts stamps) (with_regions [] (pieces ++ arrived))
  all-keeps held stamps k = record {
    points = λ t a p point.
        held_sum (occurs (with_regions [] (pieces ++ arrived)) t a p) (occurs old t a p) (arrivals_at arrivals t a p) (held t a p) (arrives arrivals t a p)
        (all-occurs t a p point) (k.points t a p point) (arrives-is arrivals t a p) (h.apart t a p point);
    stamped = with_regions-all schema (IsStamped schema (restamped number parts stamps)) (joined_stamped schema (restamped number parts stamps)) [] (pieces ++ arrived) ready-once
        (All-nil (IsStamped schema (restamped number parts stamps)))
        (All-append (IsStamped schema (restamped number parts stamps)) pieces arrived (h.restamped.stamped stamps k.stamped) (all_stamped schema number parts arrivals arrived stamps h.are_arrivals h.are_arrived));
  }

  all-cut : (given : ℕ → List Rect) → All (IsCutFrom schema given) old → All (IsPartCutFrom schema given) parts → All (IsArrivalCutFrom schema given) arrivals
      → All (IsCutFrom schema given) (with_regions [] (pieces ++ arrived))
  all-cut given old_cut parts_cut arrivals_cut =
      with_regions-all schema (IsCutFrom schema given) (joined_cut schema given) [] (pieces ++ arrived) ready-once (All-nil (IsCutFrom schema given))
      (All-append (IsCutFrom schema given) pieces arrived (h.restamped.cuts given old_cut parts_cut) (all_cut schema number given arrivals arrived arrivals_cut h.are_arrived))

  all-used : (used : ℕ → ℕ → Bool) → list_all (λ g. used g.table g.attrs) old ≡ true → list_all (λ r. used r.table r.attrs) arrivals ≡ true
      → list_all (λ g. used g.table g.attrs) (with_regions [] (pieces ++ arrived)) ≡ true
  all-used used old_are arrivals_are =
      let one = h.restamped.used used old_are in
      let two = all_used schema number used arrivals arrived arrivals_are h.are_arrived in
      with_regions-used used [] (pieces ++ arrived) refl (list_all-append (λ g. used g.table g.attrs) pieces arrived ∙ rw (one, two) refl)

  all-classes : (is : ℕ → ℕ → ℕ → Bool) → ((t a : ℕ) → is t a number ≡ true) → list_all (λ g. is g.table g.attrs g.stamp) old ≡ true
      → list_all (λ g. is g.table g.attrs g.stamp) (with_regions [] (pieces ++ arrived)) ≡ true
  all-classes is new own =
      let one = h.restamped.classes is new own in
      let two = all_new schema number is arrivals arrived new h.are_arrived in
      with_regions-classes is [] (pieces ++ arrived) refl (list_all-append (λ g. is g.table g.attrs g.stamp) pieces arrived ∙ rw (one, two) refl)

  pub renewed_store : IsRenewal schema number parts arrivals old (renewed pieces arrived)
  renewed_store = subst (IsRenewal schema number parts arrivals old) (with_regions_append [] pieces arrived) (record {
    each = All-weaker (IsSound schema h.told) (IsOfSchema schema) (λ g is. is.0) (with_regions [] (pieces ++ arrived)) (all-sound h.told h.is_told h.old_true h.rows);
    order = with_regions-ascends [] (pieces ++ arrived) refl;
    points = all-occurs;
    once = λ t a p point. let x = all-occurs t a p point in let y = h.apart t a p point in omega (arith, x, y);
    keeps = all-keeps;
    are_true = λ told is_told old_true rows.
        All-weaker (IsSound schema told) (IsTrueOf told) (λ g is. is.1) (with_regions [] (pieces ++ arrived)) (all-sound told is_told old_true rows);
    cuts = all-cut;
    used = all-used;
    classes = all-classes;
  })
