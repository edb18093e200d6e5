-- The rects of the regions, the parts and the arrivals of a table: what the rects of an answer are cut from.
use Rattle.std.proofs.Common.{◌≡◌, ℕ, true, false, cond, List, [], ◌∷◌, ◌++◌, refl, sym, ap, subst, ◌∙◌, arith, append_assoc}
use Rattle.std.specs.Prelude.{Bool, ◌==◌, filter, flat_map, if◌then◌else◌}
use Rattle.std.specs.List.{list_all, All}
use Rattle.std.proofs.lemmas.Bool.Decides.{nat_tests}
use Rattle.std.proofs.lemmas.List.{append-nil}
use Rattle.std.proofs.lemmas.List.Folds.{list_all-append}
use Rattle.std.proofs.lemmas.List.Elements.{All-nil, All-cons, All-head, All-tail, All-weaker}
use Rattle.sr_cell.specs.declared.table.Table.{Table}
use Rattle.sr_cell.specs.Columns.{table_at}
use Rattle.sr_box.specs.Points.{Rect, rect_fits}
use Rattle.sr_union.specs.Grid.{AreCutFrom}
use Rattle.sr_union.proofs.Parts.{are_part}
use Rattle.sr_query.specs.declared.query.Part.{Part}
use Rattle.sr_region.specs.declared.region.Region.{Region}
use Rattle.sr_store.specs.declared.store.Arrival.{Arrival}
use Rattle.sr_store.specs.Stores.{IsOfSchema}
use Rattle.sr_store.specs.Answered.{IsArrival, rects_on}
use Rattle.sr_store.specs.Renewing.{IsCutFrom, IsPartCutFrom, IsArrivalCutFrom}

module _ {X : Type 0} (schema : List Table) (table : X → ℕ) (rects : X → List Rect) where
  -- the rects of those of a table
  abbrev on : List X → ℕ → List Rect
  on xs t = flat_map rects (filter (λ x. table x == t) xs)

  abbrev Fits : X → Type 0
  Fits x = list_all (rect_fits (table_at schema (table x)).columns) (rects x) ≡ true

  -- cut from rects of which theirs are some
  abbrev IsSome : (ℕ → List Rect) → X → Type 0
  IsSome all x = AreCutFrom (table_at schema (table x)).columns (all (table x)) (rects x)

  with-one : (pre : ℕ → List Rect) (y : X) → ℕ → List Rect
  with-one pre y t = pre t ++ (if table y == t then rects y else [])

  moved : (pre post : ℕ → List Rect) (y : X) (xs : List X) (t : ℕ) → with-one pre y t ++ (on xs t ++ post t) ≡ pre t ++ (on (y ∷ xs) t ++ post t)
  unfolding with-one
  moved pre post y xs t = go (table y == t)
    where
      go : (b : Bool) → (pre t ++ (if b then rects y else [])) ++ (on xs t ++ post t)
          ≡ pre t ++ (flat_map rects (cond b (y ∷ filter (λ x. table x == t) xs) (filter (λ x. table x == t) xs)) ++ post t)
      go true = append_assoc (pre t) (rects y) (on xs t ++ post t) ∙ ap (λ rest. pre t ++ rest) (sym (append_assoc (rects y) (on xs t) (post t)))
      go false = ap (λ front. front ++ (on xs t ++ post t)) (append-nil (pre t))

  front : (pre post : ℕ → List Rect) (y : X) (xs : List X) → pre (table y) ++ (rects y ++ (on xs (table y) ++ post (table y))) ≡ pre (table y) ++ (on (y ∷ xs) (table y) ++ post (table y))
  front pre post y xs = go (table y == table y) (same (table y))
    where
      same : (n : ℕ) → (n == n) ≡ true
      same n = grind (arith, nat_tests)

      go : (b : Bool) → b ≡ true → pre (table y) ++ (rects y ++ (on xs (table y) ++ post (table y)))
          ≡ pre (table y) ++ (flat_map rects (cond b (y ∷ filter (λ x. table x == table y) xs) (filter (λ x. table x == table y) xs)) ++ post (table y))
      go true e = ap (λ rest. pre (table y) ++ rest) (sym (append_assoc (rects y) (on xs (table y)) (post (table y))))
      go false e = absurd (cc)

  all-some : (pre post : ℕ → List Rect) (xs : List X) → All Fits xs → All (IsSome (λ t. pre t ++ (on xs t ++ post t))) xs
  all-some pre post [] fit = All-nil (IsSome (λ t. pre t ++ (on [] t ++ post t)))
  all-some pre post (y ∷ xs) fit =
      All-cons (IsSome (λ t. pre t ++ (on (y ∷ xs) t ++ post t))) y xs
      (subst (λ given. AreCutFrom (table_at schema (table y)).columns given (rects y)) (front pre post y xs)
      (are_part (table_at schema (table y)).columns (pre (table y)) (rects y) (on xs (table y) ++ post (table y)) (All-head Fits y xs fit)))
      (All-weaker (IsSome (λ t. with-one pre y t ++ (on xs t ++ post t))) (IsSome (λ t. pre t ++ (on (y ∷ xs) t ++ post t)))
      (λ x cut. subst (λ given. AreCutFrom (table_at schema (table x)).columns given (rects x)) (moved pre post y xs (table x)) cut) xs
      (all-some (with-one pre y) post xs (All-tail Fits y xs fit)))

  on-fits : (xs : List X) (t : ℕ) → All Fits xs → list_all (rect_fits (table_at schema t).columns) (on xs t) ≡ true
  on-fits [] t fit = refl
  on-fits (y ∷ xs) t fit = go (table y == t) refl (on-fits xs t (All-tail Fits y xs fit)) (All-head Fits y xs fit)
    where
      go : (b : Bool) → (table y == t) ≡ b → list_all (rect_fits (table_at schema t).columns) (on xs t) ≡ true → Fits y
          → list_all (rect_fits (table_at schema t).columns) (flat_map rects (cond b (y ∷ filter (λ x. table x == t) xs) (filter (λ x. table x == t) xs))) ≡ true
      go true is ih one =
          let same : table y ≡ t = grind (arith, nat_tests) in
          let here = subst (λ u. list_all (rect_fits (table_at schema u).columns) (rects y) ≡ true) same one in
          list_all-append (rect_fits (table_at schema t).columns) (rects y) (on xs t) ∙ rw (here, ih) refl
      go false is ih one = ih

abbrev pub FitsPart : List Table → Part → Type 0
FitsPart schema part = list_all (rect_fits (table_at schema part.table).columns) part.rects ≡ true

region-fits : (schema : List Table) (regions : List Region) → All (IsOfSchema schema) regions → All (λ g. list_all (rect_fits (table_at schema g.table).columns) g.rects ≡ true) regions
region-fits schema regions each = All-weaker (IsOfSchema schema) (λ g. list_all (rect_fits (table_at schema g.table).columns) g.rects ≡ true) (λ g h. h.1.area.fit) regions each

arrival-fits : (schema : List Table) (parts : List Part) (arrivals : List Arrival) → All (IsArrival schema parts) arrivals
    → All (λ r. list_all (rect_fits (table_at schema r.table).columns) r.rects ≡ true) arrivals
arrival-fits schema parts arrivals each = All-weaker (IsArrival schema parts) (λ r. list_all (rect_fits (table_at schema r.table).columns) r.rects ≡ true) (λ r h. h.fit) arrivals each

module _ (schema : List Table) (regions : List Region) (parts : List Part) (arrivals : List Arrival) where
  pub regions_cut : All (IsOfSchema schema) regions → All (IsCutFrom schema (rects_on regions parts arrivals)) regions
  regions_cut each =
      all-some schema (λ (g : Region). g.table) (λ (g : Region). g.rects) (λ t. [])
      (λ t. flat_map (λ part. part.rects) (filter (λ part. part.table == t) parts) ++ flat_map (λ r. r.rects) (filter (λ r. r.table == t) arrivals)) regions (region-fits schema regions each)

  pub parts_cut : All (FitsPart schema) parts → All (IsPartCutFrom schema (rects_on regions parts arrivals)) parts
  parts_cut fit =
      all-some schema (λ (part : Part). part.table) (λ (part : Part). part.rects) (λ t. flat_map (λ g. g.rects) (filter (λ g. g.table == t) regions))
      (λ t. flat_map (λ r. r.rects) (filter (λ r. r.table == t) arrivals)) parts fit

  pub fits_cut : All (λ r. list_all (rect_fits (table_at schema r.table).columns) r.rects ≡ true) arrivals → All (IsArrivalCutFrom schema (rects_on regions parts arrivals)) arrivals
  fits_cut fits =
      All-weaker (λ r. AreCutFrom (table_at schema r.table).columns
      ((flat_map (λ g. g.rects) (filter (λ g. g.table == r.table) regions) ++ flat_map (λ part. part.rects) (filter (λ part. part.table == r.table) parts))
      ++ (flat_map (λ s. s.rects) (filter (λ s. s.table == r.table) arrivals) ++ [])) r.rects)
      (IsArrivalCutFrom schema (rects_on regions parts arrivals))
      (λ r cut. subst (λ given. AreCutFrom (table_at schema r.table).columns given r.rects) (ends r.table) cut) arrivals
      (all-some schema (λ (r : Arrival). r.table) (λ (r : Arrival). r.rects)
      (λ t. flat_map (λ g. g.rects) (filter (λ g. g.table == t) regions) ++ flat_map (λ part. part.rects) (filter (λ part. part.table == t) parts)) (λ t. []) arrivals
      fits)
    where
      ends : (t : ℕ)
          → (flat_map (λ g. g.rects) (filter (λ g. g.table == t) regions) ++ flat_map (λ part. part.rects) (filter (λ part. part.table == t) parts))
          ++ (flat_map (λ s. s.rects) (filter (λ s. s.table == t) arrivals) ++ [])
          ≡ rects_on regions parts arrivals t
      ends t =
          ap (λ last. (flat_map (λ g. g.rects) (filter (λ g. g.table == t) regions) ++ flat_map (λ part. part.rects) (filter (λ part. part.table == t) parts)) ++ last)
          (append-nil (flat_map (λ s. s.rects) (filter (λ s. s.table == t) arrivals)))
          ∙ append_assoc (flat_map (λ g. g.rects) (filter (λ g. g.table == t) regions)) (flat_map (λ part. part.rects) (filter (λ part. part.table == t) parts))
          (flat_map (λ s. s.rects) (filter (λ s. s.table == t) arrivals))

  pub arrivals_cut : All (IsArrival schema parts) arrivals → All (IsArrivalCutFrom schema (rects_on regions parts arrivals)) arrivals
  arrivals_cut each = fits_cut (arrival-fits schema parts arrivals each)

  pub given_fit : (t : ℕ) → All (IsOfSchema schema) regions → All (FitsPart schema) parts → All (IsArrival schema parts) arrivals
      → list_all (rect_fits (table_at schema t).columns) (rects_on regions parts arrivals t) ≡ true
  given_fit t each fit are =
      let a = on-fits schema (λ (g : Region). g.table) (λ (g : Region). g.rects) regions t (region-fits schema regions each) in
      let b = on-fits schema (λ (part : Part). part.table) (λ (part : Part). part.rects) parts t fit in
      let c = on-fits schema (λ (r : Arrival). r.table) (λ (r : Arrival). r.rects) arrivals t (arrival-fits schema parts arrivals are) in
      let rest = list_all-append (rect_fits (table_at schema t).columns) (flat_map (λ part. part.rects) (filter (λ part. part.table == t) parts))
      (flat_map (λ r. r.rects) (filter (λ r. r.table == t) arrivals)) in
      list_all-append (rect_fits (table_at schema t).columns) (flat_map (λ g. g.rects) (filter (λ g. g.table == t) regions))
      (flat_map (λ part. part.rects) (filter (λ part. part.table == t) parts) ++ flat_map (λ r. r.rects) (filter (λ r. r.table == t) arrivals))
      ∙ rw (a, rest, b, c) refl
