-- Where the store would have too many pieces, the load of the past is too high.
use Rattle.std.proofs.Common.{◌≡◌, ℕ, ◌+◌, ◌*◌, ◌≤◌, ◌<◌, zero, suc, Bool, true, false, List, [], ◌∷◌, ◌++◌, map, length, refl, sym, ◌∙◌, ap, subst, arith, inl, inr}
use Rattle.std.specs.Prelude.{IsTrue, ◌&&◌, ◌||◌, ◌==◌, ◌⊎◌, max, sum_by, if◌then◌else◌}
use Rattle.std.specs.List.{list_all, list_any, All, AllZip}
use Rattle.std.specs.Cmp.Derive.{both_true}
use Rattle.std.proofs.Math.Nat.{le-max_left, le-max_right, add-mul}
use Rattle.std.proofs.lemmas.Bool.{and_parts}
use Rattle.std.proofs.lemmas.Bool.Decides.{nat_tests}
use Rattle.std.proofs.lemmas.Nat.{mul-le}
use Rattle.std.proofs.lemmas.List.Folds.{list_all-append}
use Rattle.std.proofs.lemmas.List.Sums.{sum_by-cons}
use Rattle.std.proofs.lemmas.List.Elements.{All-head, All-tail}
use Rattle.sr_cell.specs.declared.table.Table.{Table}
use Rattle.sr_cell.specs.Cells.{Row}
use Rattle.sr_cell.specs.Columns.{table_at, is_point}
use Rattle.sr_box.specs.Points.{Rect, in_any, times, rect_fits, HasPoint}
use Rattle.sr_union.specs.Grid.{grid}
use Rattle.sr_union.proofs.Low.{has_point}
use Rattle.sr_union.proofs.Times.{in_any-times}
use Rattle.sr_message.specs.declared.message.AskPart.{AskPart}
use Rattle.sr_model.specs.Queries.{Query}
use Rattle.sr_model.specs.Queries as model
use Rattle.sr_query.specs.Bound.{IsPart}
use Rattle.sr_query.specs.Joined.{are_different}
use Rattle.sr_query.specs.declared.query.Part.{Part}
use Rattle.sr_lines.specs.Sound.{is_sound_part}
use Rattle.sr_history.specs.declared.mark.Mark.{Mark}
use Rattle.sr_history.specs.Marks.{is_held}
use Rattle.sr_history.specs.Load.{ends_grid, parts_on, AreSets, count_of, load_from, IsHeavy, are_once}
use Rattle.sr_history.proofs.Ends.{grids_are_few}
use Rattle.sr_region.specs.declared.region.Region.{Region}
use Rattle.sr_store.specs.declared.store.Arrival.{Arrival}
use Rattle.sr_store.specs.Classes.{Stamps, is_of, occurs, Keeps}
use Rattle.sr_store.specs.Stores.{IsOfSchema, cover_of}
use Rattle.sr_store.specs.Answered.{is_used, weight_from}
use Rattle.sr_client.specs.Cutting.{EndWith, RegionsEnd, PartsEnd, IsOver, grid_with, grid_of_part}
use Rattle.sr_client.proofs.Covers.{cover-fits}
use Rattle.sr_client.proofs.EndLemmas.{end-append, cover-end}
use Rattle.sr_client.proofs.MeantLemmas.{part-fits, part-table}
use Rattle.sr_client.proofs.PartsLemmas.{is_named, first-differs, rest-differs}
use Rattle.sr_client.proofs.Renewal.{HaveFirst}

-- ---- the sets of columns

-- what holds of all holds of one
all-one : (f : ℕ → Bool) (xs : List ℕ) (x : ℕ) → list_all f xs ≡ true → list_any (λ a. a == x) xs ≡ true → f x ≡ true
all-one f [] x all some = absurd (cc)
all-one f (y ∷ xs) x all some = go (y == x) refl (grind (arith, all)) (all-one f xs x (grind (arith, all))) some
  where
    go : (b : Bool) → (y == x) ≡ b → f y ≡ true → (list_any (λ a. a == x) xs ≡ true → f x ≡ true) → (b || list_any (λ a. a == x) xs) ≡ true → f x ≡ true
    go true is one ih some = let same : y ≡ x = grind (arith, nat_tests) in subst (λ n. f n ≡ true) same one
    go false is one ih some = ih some

-- a region of the table with just these columns has a point
has-occurrence : (schema : List Table) (gs : List Region) (t a : ℕ) → HaveFirst schema → All (IsOfSchema schema) gs → list_any (λ (g : Region). g.table == t && g.attrs == a) gs ≡ true
    → (p : Row) × (is_point (table_at schema t).columns p ≡ true) × (occurs gs t a p ≡ 0 → ⊥)
has-occurrence schema [] t a first each some = absurd (cc)
has-occurrence schema (g ∷ gs) t a first each some = go (is_of g t a) refl (has-occurrence schema gs t a first (All-tail (IsOfSchema schema) g gs each)) some
  where
    h : IsOfSchema schema g
    h = All-head (IsOfSchema schema) g gs each

    point : HasPoint (table_at schema g.table).columns (in_any g.rects)
    point = has_point (table_at schema g.table).columns g.rects h.1.area.some h.1.area.fit (first g.table)

    inside : times g.rects point.0 ≡ 0 → ⊥
    inside none = let x = in_any-times g.rects point.0 in let y = point.2 in absurd (grind (arith, nat_tests, x, y, none))

    go : (b : Bool) → is_of g t a ≡ b
        → (list_any (λ (g : Region). g.table == t && g.attrs == a) gs ≡ true → (p : Row) × (is_point (table_at schema t).columns p ≡ true) × (occurs gs t a p ≡ 0 → ⊥))
        → (b || list_any (λ (g : Region). g.table == t && g.attrs == a) gs) ≡ true → (p : Row) × (is_point (table_at schema t).columns p ≡ true) × (occurs (g ∷ gs) t a p ≡ 0 → ⊥)
    go true is rest some =
        let same : g.table ≡ t = grind (arith, nat_tests, is) in (
          point.0,
          subst (λ t. is_point (table_at schema t).columns point.0 ≡ true) same point.1,
          λ none. inside (first-none (times g.rects point.0) (occurs gs t a point.0) (ap (λ b. (if b then times g.rects point.0 else 0) + occurs gs t a point.0) (sym is) ∙ none)),
        )
      where
        first-none : (n m : ℕ) → n + m ≡ 0 → n ≡ 0
        first-none n m e = omega (arith, e)
    go false is rest some =
        let ih = rest some in
        (ih.0, ih.1, λ none. ih.2 (last-none (occurs gs t a ih.0) (ap (λ b. (if b then times g.rects ih.0 else 0) + occurs gs t a ih.0) (sym is) ∙ none)))
      where
        last-none : (n : ℕ) → 0 + n ≡ 0 → n ≡ 0
        last-none n e = omega (arith, e)

-- and the point is held
has-held : (schema : List Table) (marks : List Mark) (stamps : Stamps) (gs : List Region) (t a : ℕ) → HaveFirst schema → All (IsOfSchema schema) gs → Keeps schema (is_held marks) stamps gs
    → list_any (λ (g : Region). g.table == t && g.attrs == a) gs ≡ true → HasPoint (table_at schema t).columns (is_held marks t a)
has-held schema marks stamps gs t a first each keeps some =
    let there = has-occurrence schema gs t a first each some in
    (there.0, there.1, go (is_held marks t a there.0) (keeps.points t a there.0 there.1) there.2)
  where
    go : (b : Bool) {n : ℕ} → n ≡ (if b then 1 else 0) → (n ≡ 0 → ⊥) → b ≡ true
    go true is some = refl
    go false is some = absurd (some is)

-- what arrives was asked
abbrev pub WereAsked : List Arrival → List AskPart → Type 0
WereAsked arrivals asks = (t a : ℕ) → list_any (λ (r : Arrival). r.table == t && r.attrs == a) arrivals ≡ true → list_any (λ (ask : AskPart). ask.table == t && ask.attrs == a) asks ≡ true

are-sets : (schema : List Table) (marks : List Mark) (stamps : Stamps) (gs : List Region) (arrivals : List Arrival) (asks : List AskPart) (t : ℕ) (sets : List ℕ) → HaveFirst schema → All (IsOfSchema schema) gs
    → Keeps schema (is_held marks) stamps gs → WereAsked arrivals asks → are_once sets ≡ true → list_all (is_used gs arrivals t) sets ≡ true → AreSets schema marks asks t sets
are-sets schema marks stamps gs arrivals asks t sets first each keeps were once used = record {
  once = once;
  each = λ a some. by a (list_any (λ (g : Region). g.table == t && g.attrs == a) gs) refl (all-one (is_used gs arrivals t) sets a used some);
}
  where
    by : (a : ℕ) (b : Bool) → list_any (λ (g : Region). g.table == t && g.attrs == a) gs ≡ b → (b || list_any (λ (r : Arrival). r.table == t && r.attrs == a) arrivals) ≡ true
        → HasPoint (table_at schema t).columns (is_held marks t a) ⊎ IsTrue (list_any (λ (ask : AskPart). ask.table == t && ask.attrs == a) asks)
    by a true is some = inl (has-held schema marks stamps gs t a first each keeps is)
    by a false is some = inr (were t a some)

-- ---- the sum

weight-load : (sets : ℕ → List ℕ) (rects : ℕ → List Rect) (q : Query) (queries : List Query) (schema : List Table) (s : ℕ)
    → ((t i : ℕ) → t ≡ s + i → grid (table_at schema i).columns (rects t) ≤ ends_grid 0 (table_at schema i).columns (parts_on t queries))
    → weight_from sets rects s schema ≤ load_from (count_of q sets) s schema queries
weight-load sets rects q queries [] s few = omega arith
weight-load sets rects q queries (table ∷ schema) s few =
    let more = le-max_left (length (sets s)) (if list_any (λ (part : model.Part). part.table == s) q.parts then 1 else 0) in
    let one = mul-le (length (sets s)) (grid table.columns (rects s)) (count_of q sets s) (ends_grid 0 table.columns (parts_on s queries)) more (few s 0 (omega arith)) in
    let ih = weight-load sets rects q queries schema (s + 1) (λ t i e. few t (suc i) (omega (arith, e))) in
    both (length (sets s) * grid table.columns (rects s)) (weight_from sets rects (s + 1) schema) (count_of q sets s * ends_grid 0 table.columns (parts_on s queries)) (load_from (count_of q sets) (s + 1) schema queries) one ih
  where
    both : (n m k l : ℕ) → n ≤ k → m ≤ l → n + m ≤ k + l
    both n m k l a b = omega (arith, a, b)

-- the grids of rects that end where tests of the queries do are few
few-at : (schema : List Table) (queries : List Query) (t : ℕ) (rects : List Rect) → list_all (rect_fits (table_at schema t).columns) rects ≡ true → EndWith schema queries t rects
    → grid (table_at schema t).columns rects ≤ ends_grid 0 (table_at schema t).columns (parts_on t queries)
few-at schema queries t rects fit ends = grids_are_few (table_at schema t).columns (parts_on t queries) rects fit ends

-- with some sets of used columns for each table
pub heavy-load : (schema : List Table) (marks : List Mark) (stamps : Stamps) (gs : List Region) (arrivals : List Arrival) (asks : List AskPart) (q : Query) (queries : List Query) (sets : ℕ → List ℕ) (rects : ℕ → List Rect)
    → HaveFirst schema → All (IsOfSchema schema) gs → Keeps schema (is_held marks) stamps gs → WereAsked arrivals asks
    → ((t : ℕ) → are_once (sets t) ≡ true) → ((t : ℕ) → list_all (is_used gs arrivals t) (sets t) ≡ true)
    → ((t : ℕ) → list_all (rect_fits (table_at schema t).columns) (rects t) ≡ true) → ((t : ℕ) → EndWith schema queries t (rects t))
    → 16384 < weight_from sets rects 0 schema → IsHeavy schema marks asks q queries
heavy-load schema marks stamps gs arrivals asks q queries sets rects first each keeps were once used fit ends heavy = (
  sets,
  λ t. are-sets schema marks stamps gs arrivals asks t (sets t) first each keeps were (once t) (used t),
  above (weight_from sets rects 0 schema) (load_from (count_of q sets) 0 schema queries) heavy
      (weight-load sets rects q queries schema 0 (λ t i e. subst (λ n. grid (table_at schema n).columns (rects t) ≤ ends_grid 0 (table_at schema n).columns (parts_on t queries)) (same t i e) (few-at schema queries t (rects t) (fit t) (ends t)))),
)
  where
    above : (n m : ℕ) → 16384 < n → n ≤ m → 16384 < m
    above n m a b = omega (arith, a, b)

    same : (t i : ℕ) → t ≡ 0 + i → t ≡ i
    same t i e = omega (arith, e)

-- where nothing is used nothing is heavy
no-weight : (sets : ℕ → List ℕ) (rects : ℕ → List Rect) (schema : List Table) (s : ℕ) → ((t : ℕ) → sets t ≡ []) → weight_from sets rects s schema ≡ 0
no-weight sets rects [] s none = refl
no-weight sets rects (table ∷ schema) s none = by (length (sets s)) (grid table.columns (rects s)) (weight_from sets rects (s + 1) schema) (ap length (none s)) (no-weight sets rects schema (s + 1) none)
  where
    by : (n g w : ℕ) → n ≡ 0 → w ≡ 0 → n * g + w ≡ 0
    by n g w e f = rw (e, f) (omega arith)

pub light : (sets : ℕ → List ℕ) (rects : ℕ → List Rect) (schema : List Table) → ((t : ℕ) → list_all (is_used [] [] t) (sets t) ≡ true) → 16384 < weight_from sets rects 0 schema → ⊥
light sets rects schema used heavy = let nothing = no-weight sets rects schema 0 (λ t. by (sets t) t (used t)) in absurd (omega (arith, heavy, nothing))
  where
    by : (xs : List ℕ) (t : ℕ) → list_all (is_used [] [] t) xs ≡ true → xs ≡ []
    by [] t h = refl
    by (x ∷ xs) t h = absurd (cc)

-- ---- one table alone

load-at : (counts : ℕ → ℕ) (queries : List Query) (schema : List Table) (t s i : ℕ) → t ≡ s + i → i < length schema
    → counts t * ends_grid 0 (table_at schema i).columns (parts_on t queries) ≤ load_from counts s schema queries
load-at counts queries [] t s i e l = absurd (omega (arith, l))
load-at counts queries (table ∷ schema) t s zero e l =
    let same : t ≡ s = omega (arith, e) in
    subst (λ n. counts n * ends_grid 0 table.columns (parts_on n queries) ≤ load_from counts s (table ∷ schema) queries) (sym same)
    (front (counts s * ends_grid 0 table.columns (parts_on s queries)) (load_from counts (s + 1) schema queries))
  where
    front : (n m : ℕ) → n ≤ n + m
    front n m = omega arith
load-at counts queries (table ∷ schema) t s (suc i) e l =
    behind (counts s * ends_grid 0 table.columns (parts_on s queries)) (load_from counts (s + 1) schema queries) (counts t * ends_grid 0 (table_at schema i).columns (parts_on t queries))
    (load-at counts queries schema t (s + 1) i (omega (arith, e)) (omega (arith, l)))
  where
    behind : (n m k : ℕ) → k ≤ m → k ≤ n + m
    behind n m k le = omega (arith, le)

-- ---- tables side by side

-- how many of the parts are of the table
abbrev times_in : List model.Part → ℕ → ℕ
times_in [] t = 0
times_in (m ∷ ms) t = (if m.table == t then 1 else 0) + times_in ms t

lacks-none : (ms : List model.Part) (t : ℕ) → is_named t ms ≡ false → times_in ms t ≡ 0
lacks-none [] t none = refl
lacks-none (m ∷ ms) t none = go (m.table == t) none (lacks-none ms t)
  where
    go : (b : Bool) → (b || is_named t ms) ≡ false → (is_named t ms ≡ false → times_in ms t ≡ 0) → (if b then 1 else 0) + times_in ms t ≡ 0
    go true none ih = absurd (cc)
    go false none ih = let rest = ih none in omega (arith, rest)

-- of different tables each is named once at most
times-few : (ms : List model.Part) (t : ℕ) → are_different (map (λ (m : model.Part). m.table) ms) ≡ true → times_in ms t ≤ (if is_named t ms then 1 else 0)
times-few [] t differ = omega arith
times-few (m ∷ ms) t differ = go (m.table == t) refl (times-few ms t (rest-differs m ms differ))
  where
    one : (n : ℕ) → n ≡ 0 → 1 + n ≤ 1
    one n none = omega (arith, none)

    still : (n k : ℕ) → n ≤ k → 0 + n ≤ k
    still n k le = omega (arith, le)

    go : (b : Bool) → (m.table == t) ≡ b → times_in ms t ≤ (if is_named t ms then 1 else 0) → (if b then 1 else 0) + times_in ms t ≤ (if b || is_named t ms then 1 else 0)
    go true is ih =
        let same : m.table ≡ t = grind (arith, nat_tests, is) in
        one (times_in ms t) (lacks-none ms t (subst (λ n. is_named n ms ≡ false) same (first-differs m ms differ)))
    go false is ih = still (times_in ms t) (if is_named t ms then 1 else 0) ih

load-le : (f g : ℕ → ℕ) (queries : List Query) → ((t : ℕ) → f t ≤ g t) → (schema : List Table) (s : ℕ) → load_from f s schema queries ≤ load_from g s schema queries
load-le f g queries few [] s = omega arith
load-le f g queries few (table ∷ schema) s =
    both (f s * ends_grid 0 table.columns (parts_on s queries)) (load_from f (s + 1) schema queries) (g s * ends_grid 0 table.columns (parts_on s queries)) (load_from g (s + 1) schema queries)
    (mul-le (f s) (ends_grid 0 table.columns (parts_on s queries)) (g s) (ends_grid 0 table.columns (parts_on s queries)) (few s) (omega arith))
    (load-le f g queries few schema (s + 1))
  where
    both : (n m k l : ℕ) → n ≤ k → m ≤ l → n + m ≤ k + l
    both n m k l a b = omega (arith, a, b)

load-add : (f g : ℕ → ℕ) (queries : List Query) (schema : List Table) (s : ℕ) → load_from (λ t. f t + g t) s schema queries ≡ load_from f s schema queries + load_from g s schema queries
load-add f g queries [] s = omega arith
load-add f g queries (table ∷ schema) s =
    both (f s) (g s) (ends_grid 0 table.columns (parts_on s queries)) (load_from (λ t. f t + g t) (s + 1) schema queries) (load_from f (s + 1) schema queries) (load_from g (s + 1) schema queries)
    (load-add f g queries schema (s + 1))
  where
    both : (a b w n l m : ℕ) → n ≡ l + m → (a + b) * w + n ≡ (a * w + l) + (b * w + m)
    both a b w n l m e = let d = add-mul a b w in omega (arith, d, e)

module _ (schema : List Table) (queries : List Query) (regions : List Region) (each : All (IsOfSchema schema) regions) (ends : RegionsEnd schema queries regions) where
  -- the grid of a part that ends where tests of the queries do
  part-grid : (part : Part) (m : model.Part) → IsPart schema part m → EndWith schema queries part.table part.rects
      → grid_of_part schema regions part ≤ ends_grid 0 (table_at schema part.table).columns (parts_on part.table queries)
  part-grid part m is own = by part.rects (part-fits schema part m is) own
    where
      least : (n : ℕ) → 0 ≤ n
      least n = omega arith

      by : (rects : List Rect) → list_all (rect_fits (table_at schema part.table).columns) rects ≡ true → EndWith schema queries part.table rects
          → grid_with (table_at schema part.table).columns (cover_of part regions) rects ≤ ends_grid 0 (table_at schema part.table).columns (parts_on part.table queries)
      by [] fit along = least (ends_grid 0 (table_at schema part.table).columns (parts_on part.table queries))
      by (r ∷ rects) fit along =
          few-at schema queries part.table ((r ∷ rects) ++ cover_of part regions)
          (list_all-append (rect_fits (table_at schema part.table).columns) (r ∷ rects) (cover_of part regions) ∙ both_true fit (cover-fits schema part regions each))
          (end-append schema queries part.table (r ∷ rects) (cover_of part regions) along (cover-end schema queries part regions ends))

  -- the grids of sound parts together
  grids-load : (parts : List Part) (meant : List model.Part) → AllZip (IsPart schema) parts meant → list_all (is_sound_part schema) meant ≡ true → PartsEnd schema queries parts
      → sum_by (grid_of_part schema regions) parts ≤ load_from (times_in meant) 0 schema queries
  grids-load [] meant zip sound own = omega arith
  grids-load (p ∷ parts) [] zip sound own = absurd zip
  grids-load (p ∷ parts) (m ∷ meant) zip sound own =
      let s = and_parts (is_sound_part schema m) (list_all (is_sound_part schema) meant) sound in
      let here = part-grid p m zip.0 (All-head (λ (part : Part). EndWith schema queries part.table part.rects) p parts own) in
      let there = grids-load parts meant zip.1 s.1 (All-tail (λ (part : Part). EndWith schema queries part.table part.rects) p parts own) in
      let at = load-at (λ t. if m.table == t then 1 else 0) queries schema m.table 0 m.table (omega arith) (subst (λ t. t < length schema) zip.0.table (part-table schema p m zip.0 s.0)) in
      let own_test : (m.table == m.table) ≡ true = grind (arith, nat_tests) in
      let once = subst (λ b. (if b then 1 else 0) * ends_grid 0 (table_at schema m.table).columns (parts_on m.table queries) ≤ load_from (λ t. if m.table == t then 1 else 0) 0 schema queries) own_test at in
      let small = subst (λ t. grid_of_part schema regions p ≤ ends_grid 0 (table_at schema t).columns (parts_on t queries)) zip.0.table here in
      sums (grid_of_part schema regions p) (sum_by (grid_of_part schema regions) parts) (sum_by (grid_of_part schema regions) (p ∷ parts)) (ends_grid 0 (table_at schema m.table).columns (parts_on m.table queries))
      (load_from (λ t. if m.table == t then 1 else 0) 0 schema queries) (load_from (times_in meant) 0 schema queries) (load_from (times_in (m ∷ meant)) 0 schema queries)
      (sum_by-cons (grid_of_part schema regions) p parts) small once there (load-add (λ t. if m.table == t then 1 else 0) (times_in meant) queries schema 0)
    where
      sums : (g gs all w l ls more : ℕ) → all ≡ g + gs → g ≤ w → 1 * w ≤ l → gs ≤ ls → more ≡ l + ls → all ≤ more
      sums g gs all w l ls more a b c d e = omega (arith, a, b, c, d, e)

-- parts of different tables, with too large grids
pub heavy-parts : (schema : List Table) (marks : List Mark) (q : Query) (queries : List Query) (regions : List Region) (parts : List Part) → All (IsOfSchema schema) regions → RegionsEnd schema queries regions
    → AllZip (IsPart schema) parts q.parts → list_all (is_sound_part schema) q.parts ≡ true → are_different (map (λ (m : model.Part). m.table) q.parts) ≡ true → PartsEnd schema queries parts
    → IsOver schema regions parts → IsHeavy schema marks [] q queries
heavy-parts schema marks q queries regions parts each ends zip sound differ own over = (
  (λ u. []),
  (λ u. record { once = refl; each = λ a some. absurd (cc) }),
  above (sum_by (grid_of_part schema regions) parts) (load_from (times_in q.parts) 0 schema queries) (load_from (count_of q (λ u. [])) 0 schema queries) over
      (grids-load schema queries regions each ends parts q.parts zip sound own) (load-le (times_in q.parts) (count_of q (λ u. [])) queries counts schema 0),
)
  where
    above : (n m k : ℕ) → 16384 < n → n ≤ m → m ≤ k → 16384 < k
    above n m k a b c = omega (arith, a, b, c)

    least : (n k : ℕ) → n ≤ k → n ≤ max 0 k
    least n k le = let more = le-max_right 0 k in omega (arith, le, more)

    counts : (t : ℕ) → times_in q.parts t ≤ count_of q (λ u. []) t
    counts t = least (times_in q.parts t) (if is_named t q.parts then 1 else 0) (times-few q.parts t differ)
