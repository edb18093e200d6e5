-- Regions cut along the parts of a query and stamped anew.
use Rattle.std.proofs.Common.{◌≡◌, ℕ, ◌+◌, ◌≤◌, true, false, List, [], ◌∷◌, ◌++◌, refl, sym, ap, subst, ◌∙◌, arith, length, ◌<◌}
use Rattle.std.specs.Prelude.{Bool, not, ◌&&◌, ◌==◌, nat_eq, if◌then◌else◌, map, filter, Option, Some, None, option_to_list}
use Rattle.std.specs.List.{list_all, All}
use Rattle.std.proofs.lemmas.Bool.Decides.{nat_tests}
use Rattle.std.proofs.lemmas.List.Folds.{list_all-append}
use Rattle.std.proofs.lemmas.List.Elements.{All-nil, All-cons, All-head, All-tail, All-append}
use Rattle.std.specs.Cmp.{first_so, second_so}
use Rattle.sr_cell.specs.declared.table.Table.{Table}
use Rattle.sr_cell.specs.Attrs.{project}
use Rattle.sr_cell.specs.Cells.{Row}
use Rattle.sr_cell.specs.Columns.{table_at, is_point}
use Rattle.sr_box.specs.Points.{Rect, Points, in_any, times, rect_fits, constrains_only, AreSame, HasNoPoint}
use Rattle.sr_union.specs.Grid.{AreCutFrom}
use Rattle.sr_union.proofs.Times.{in_any-times}
use Rattle.sr_union.proofs.Once.{are_trans}
use Rattle.sr_union.proofs.Among.{AreCutFrom-append}
use Rattle.sr_query.specs.declared.query.Part.{Part}
use Rattle.sr_region.specs.declared.region.Region.{Region}
use Rattle.sr_region.specs.Regions.{is_in, IsRegion}
use Rattle.sr_region.specs.Halves.{IsHalf, MaybeHalf, IsInside, IsOutside}
use Rattle.sr_region.proofs.Parts.{is_in-point}
use Rattle.sr_store.specs.Classes.{Stamps, is_of, occurs, IsStamped, restamped}
use Rattle.sr_store.specs.Told.{Told, IsTold, IsTrueOf, AreTrueOf}
use Rattle.sr_store.specs.Stores.{IsOfSchema}
use Rattle.sr_store.specs.Renewing.{touching, IsCutFrom, with_stamp, pieces_of, IsRestamped}
use Rattle.sr_store.proofs.Truths.{true_half}
use Rattle.sr_store.proofs.Touching.{touching-is, touching_cut}
use Rattle.sr_store.proofs.Classing.{of-table}

pub occurs-append : (xs ys : List Region) (t a : ℕ) (p : Row) → occurs (xs ++ ys) t a p ≡ occurs xs t a p + occurs ys t a p
occurs-append [] ys t a p = omega arith
occurs-append (g ∷ xs) ys t a p = let ih = occurs-append xs ys t a p in omega (arith, ih)

-- pieces of one region with just these points, and with this stamp
record ArePieces (schema : List Table) (whole : Region) (cut : List Rect) (those : Points) (n : ℕ) (pieces : List Region) : Type 0 where
  pub each : All (IsOfSchema schema) pieces
  pub points : (t a : ℕ) (p : Row) → is_point (table_at schema t).columns p ≡ true → occurs pieces t a p ≡ (if is_of whole t a && those p then 1 else 0)
  pub stamped : (stamps : Stamps) → ((p : Row) → is_point (table_at schema whole.table).columns p ≡ true → those p ≡ true → stamps whole.table whole.attrs p ≡ n) → All (IsStamped schema stamps) pieces
  pub are_true : (told : Told) → IsTold schema told → IsTrueOf told whole → AreTrueOf told pieces
  pub cuts : (given : ℕ → List Rect) → AreCutFrom (table_at schema whole.table).columns (given whole.table) (whole.rects ++ cut) → All (IsCutFrom schema given) pieces
  pub used : (used : ℕ → ℕ → Bool) → used whole.table whole.attrs ≡ true → list_all (λ g. used g.table g.attrs) pieces ≡ true
  pub classes : (is : ℕ → ℕ → ℕ → Bool) → is whole.table whole.attrs n ≡ true → list_all (λ g. is g.table g.attrs g.stamp) pieces ≡ true

of-same : (whole g : Region) (t a : ℕ) → g.table ≡ whole.table → g.attrs ≡ whole.attrs → is_of g t a ≡ is_of whole t a
of-same whole g t a table attrs = ap (λ x. x == t && g.attrs == a) table ∙ ap (λ x. whole.table == t && x == a) attrs

no-pieces : (schema : List Table) (whole : Region) (cut : List Rect) (those : Points) (n : ℕ) → HasNoPoint (table_at schema whole.table).columns those → ArePieces schema whole cut those n []
no-pieces schema whole cut those n none = record {
  each = All-nil (IsOfSchema schema);
  points = λ t a p point. here t a p point (is_of whole t a) refl;
  stamped = λ stamps h. All-nil (IsStamped schema stamps);
  are_true = λ told is_told h. All-nil (IsTrueOf told);
  cuts = λ given h. All-nil (IsCutFrom schema given);
  used = λ used h. refl;
  classes = λ is h. refl;
}
  where
    here : (t a : ℕ) (p : Row) → is_point (table_at schema t).columns p ≡ true → (b : Bool) → is_of whole t a ≡ b → occurs [] t a p ≡ (if b && those p then 1 else 0)
    here t a p point true e = rw (none p (subst (λ u. is_point (table_at schema u).columns p ≡ true) (sym (of-table whole t a e)) point)) refl
    here t a p point false e = refl

-- a region that is such a half, but for its stamp
record IsPiece (schema : List Table) (whole : Region) (cut : List Rect) (those : Points) (test : Row → Bool) (n : ℕ) (g : Region) : Type 0 where
  pub table : g.table ≡ whole.table
  pub attrs : g.attrs ≡ whole.attrs
  pub stamp : g.stamp ≡ n
  pub region : IsRegion (table_at schema whole.table) g
  pub points : AreSame (table_at schema whole.table).columns (in_any g.rects) those
  pub rows : g.rows ≡ filter test whole.rows
  pub cuts : AreCutFrom (table_at schema whole.table).columns (whole.rects ++ cut) g.rects

-- the test tells which points of the region are those
abbrev Tests : List Table → Region → Points → (Row → Bool) → Type 0
Tests schema whole those test = (p : Row) → is_point (table_at schema whole.table).columns p ≡ true → (in_any whole.rects p && test (project whole.attrs p)) ≡ those p

one-of-schema : (schema : List Table) (whole : Region) (cut : List Rect) (those : Points) (test : Row → Bool) (n : ℕ) (g : Region) → IsOfSchema schema whole → IsPiece schema whole cut those test n g → IsOfSchema schema g
one-of-schema schema whole cut those test n g h k =
    let back = sym k.table in (subst (λ t. t < length schema) back h.0, subst (λ t. IsRegion (table_at schema t) g) back k.region)

one-occurs : (schema : List Table) (whole : Region) (cut : List Rect) (those : Points) (test : Row → Bool) (n : ℕ) (g : Region) → IsPiece schema whole cut those test n g
    → (t a : ℕ) (p : Row) → is_point (table_at schema t).columns p ≡ true → (if is_of g t a then times g.rects p else 0) + 0 ≡ (if is_of whole t a && those p then 1 else 0)
one-occurs schema whole cut those test n g k t a p point = rw (of-same whole g t a k.table k.attrs) (go (is_of whole t a) refl)
  where
    go : (b : Bool) → is_of whole t a ≡ b → (if b then times g.rects p else 0) + 0 ≡ (if b && those p then 1 else 0)
    go false e = refl
    go true e =
        let here : is_point (table_at schema whole.table).columns p ≡ true = subst (λ u. is_point (table_at schema u).columns p ≡ true) (sym (of-table whole t a e)) point in
        let once = k.region.area.once p here in
        let same = k.points p here in
        let tm = in_any-times g.rects p in
        counts (those p) (times g.rects p) once (sym tm ∙ same)
      where
        counts : (b : Bool) (m : ℕ) → m ≤ 1 → not (nat_eq m 0) ≡ b → m + 0 ≡ (if b then 1 else 0)
        counts true m le e = grind (arith, nat_tests)
        counts false m le e = grind (arith, nat_tests)

one-stamped : (schema : List Table) (whole : Region) (cut : List Rect) (those : Points) (test : Row → Bool) (n : ℕ) (g : Region) → IsPiece schema whole cut those test n g
    → (stamps : Stamps) → ((p : Row) → is_point (table_at schema whole.table).columns p ≡ true → those p ≡ true → stamps whole.table whole.attrs p ≡ n) → IsStamped schema stamps g
one-stamped schema whole cut those test n g k stamps h p point inside =
    let here : is_point (table_at schema whole.table).columns p ≡ true = subst (λ u. is_point (table_at schema u).columns p ≡ true) k.table point in
    ap (λ t. stamps t g.attrs p) k.table ∙ ap (λ a. stamps whole.table a p) k.attrs ∙ h p here (sym (k.points p here) ∙ inside) ∙ sym k.stamp

one-cut : (schema : List Table) (whole : Region) (cut : List Rect) (those : Points) (test : Row → Bool) (n : ℕ) (g : Region) → IsPiece schema whole cut those test n g
    → (given : ℕ → List Rect) → AreCutFrom (table_at schema whole.table).columns (given whole.table) (whole.rects ++ cut) → IsCutFrom schema given g
one-cut schema whole cut those test n g k given h =
    subst (λ t. AreCutFrom (table_at schema t).columns (given t) g.rects) (sym k.table)
    (are_trans (table_at schema whole.table).columns (given whole.table) (whole.rects ++ cut) g.rects h k.cuts)

one-piece : (schema : List Table) (whole : Region) (cut : List Rect) (those : Points) (test : Row → Bool) (n : ℕ) (g : Region) → IsOfSchema schema whole → Tests schema whole those test
    → IsPiece schema whole cut those test n g → ArePieces schema whole cut those n (g ∷ [])
one-piece schema whole cut those test n g h tests k = record {
  each = All-cons (IsOfSchema schema) g [] (one-of-schema schema whole cut those test n g h k) (All-nil (IsOfSchema schema));
  points = one-occurs schema whole cut those test n g k;
  stamped = λ stamps are. All-cons (IsStamped schema stamps) g [] (one-stamped schema whole cut those test n g k stamps are) (All-nil (IsStamped schema stamps));
  are_true = λ told is_told is. All-cons (IsTrueOf told) g []
      (true_half schema told whole g those test is_told h.1 k.region k.table k.attrs k.points tests k.rows is) (All-nil (IsTrueOf told));
  cuts = λ given are. All-cons (IsCutFrom schema given) g [] (one-cut schema whole cut those test n g k given are) (All-nil (IsCutFrom schema given));
  used = λ used is. let e : used g.table g.attrs ≡ true = ap (λ t. used t g.attrs) k.table ∙ ap (used whole.table) k.attrs ∙ is in rw e refl;
  classes = λ is own.
      let e : is g.table g.attrs g.stamp ≡ true = ap (λ t. is t g.attrs g.stamp) k.table ∙ ap (λ a. is whole.table a g.stamp) k.attrs ∙ ap (is whole.table whole.attrs) k.stamp ∙ own in
      rw e refl;
}

half-piece : (schema : List Table) (whole : Region) (cut : List Rect) (those : Points) (test : Row → Bool) (n : ℕ) (half : Region) → IsHalf (table_at schema whole.table) whole cut those test half
    → IsPiece schema whole cut those test n (with_stamp n half)
half-piece schema whole cut those test n half k = record {
  table = k.class.table;
  attrs = k.class.attrs;
  stamp = refl;
  region = record { area = k.region.area; rows = k.region.rows; ascending = k.region.ascending };
  points = k.points;
  rows = k.rows;
  cuts = k.cuts;
}

own-piece : (schema : List Table) (whole : Region) (cut : List Rect) (those : Points) (test : Row → Bool) (half : Region) → IsHalf (table_at schema whole.table) whole cut those test half
    → IsPiece schema whole cut those test whole.stamp half
own-piece schema whole cut those test half k = record {
  table = k.class.table;
  attrs = k.class.attrs;
  stamp = k.class.stamp;
  region = k.region;
  points = k.points;
  rows = k.rows;
  cuts = k.cuts;
}

half-pieces : (schema : List Table) (whole : Region) (cut : List Rect) (those : Points) (test : Row → Bool) (n : ℕ) (half : Option Region) → IsOfSchema schema whole → Tests schema whole those test
    → MaybeHalf (table_at schema whole.table) whole cut those test half → ArePieces schema whole cut those n (map (with_stamp n) (option_to_list half))
half-pieces schema whole cut those test n None h tests k = no-pieces schema whole cut those n k.0
half-pieces schema whole cut those test n (Some half) h tests k =
    one-piece schema whole cut those test n (with_stamp n half) h tests (half-piece schema whole cut those test n half k)

own-pieces : (schema : List Table) (whole : Region) (cut : List Rect) (those : Points) (test : Row → Bool) (half : Option Region) → IsOfSchema schema whole → Tests schema whole those test
    → MaybeHalf (table_at schema whole.table) whole cut those test half → ArePieces schema whole cut those whole.stamp (option_to_list half)
own-pieces schema whole cut those test None h tests k = no-pieces schema whole cut those whole.stamp k.0
own-pieces schema whole cut those test (Some half) h tests k =
    one-piece schema whole cut those test whole.stamp half h tests (own-piece schema whole cut those test half k)

-- the points inside and outside of the parts
abbrev inner : Region → List Rect → Points
inner g cut p = in_any g.rects p && in_any cut p

abbrev outer : Region → List Rect → Points
outer g cut p = in_any g.rects p && not (in_any cut p)

both-occur : (schema : List Table) (g : Region) (cut : List Rect) (outside inside : List Region) (n m : ℕ) → IsOfSchema schema g
    → ArePieces schema g cut (outer g cut) n outside → ArePieces schema g cut (inner g cut) m inside
    → (t a : ℕ) (p : Row) → is_point (table_at schema t).columns p ≡ true → occurs (outside ++ inside) t a p ≡ occurs (g ∷ []) t a p
both-occur schema g cut outside inside n m h o i t a p point =
    occurs-append outside inside t a p ∙ go (is_of g t a) refl (occurs outside t a p) (occurs inside t a p) (o.points t a p point) (i.points t a p point)
  where
    go : (b : Bool) → is_of g t a ≡ b → (x y : ℕ) → x ≡ (if b && outer g cut p then 1 else 0) → y ≡ (if b && inner g cut p then 1 else 0) → x + y ≡ (if b then times g.rects p else 0) + 0
    go false e x y ex ey = omega (arith, ex, ey)
    go true e x y ex ey =
        counts (in_any g.rects p) (in_any cut p) (times g.rects p) x y (h.1.area.once p (subst (λ u. is_point (table_at schema u).columns p ≡ true) (sym (of-table g t a e)) point)) (in_any-times g.rects p) ex ey
      where
        counts : (b c : Bool) (n x y : ℕ) → n ≤ 1 → b ≡ not (nat_eq n 0) → x ≡ (if b && not c then 1 else 0) → y ≡ (if b && c then 1 else 0) → x + y ≡ n + 0
        counts true true n x y le e ex ey = grind (arith, nat_tests)
        counts true false n x y le e ex ey = grind (arith, nat_tests)
        counts false c n x y le e ex ey = grind (arith, nat_tests)

restamped-in : (number : ℕ) (parts : List Part) (stamps : Stamps) (t a : ℕ) (p : Row) → in_any (touching parts t a) p ≡ true → restamped number parts stamps t a p ≡ number
restamped-in number parts stamps t a p inside = rw (sym (touching-is parts t a p) ∙ inside) refl

restamped-out : (number : ℕ) (parts : List Part) (stamps : Stamps) (t a : ℕ) (p : Row) → in_any (touching parts t a) p ≡ false → restamped number parts stamps t a p ≡ stamps t a p
restamped-out number parts stamps t a p outside = rw (sym (touching-is parts t a p) ∙ outside) refl

right-false : (b c : Bool) → (b && not c) ≡ true → c ≡ false
right-false b c e = grind arith

two-pieces : (schema : List Table) (number : ℕ) (parts : List Part) (g : Region) (outside inside : List Region) → IsOfSchema schema g
    → ArePieces schema g (touching parts g.table g.attrs) (outer g (touching parts g.table g.attrs)) g.stamp outside
    → ArePieces schema g (touching parts g.table g.attrs) (inner g (touching parts g.table g.attrs)) number inside
    → IsRestamped schema number parts (g ∷ []) (outside ++ inside)
two-pieces schema number parts g outside inside h o i = record {
  each = All-append (IsOfSchema schema) outside inside o.each i.each;
  points = both-occur schema g cut outside inside g.stamp number h o i;
  stamped = λ stamps are. All-append (IsStamped schema (restamped number parts stamps)) outside inside
      (o.stamped (restamped number parts stamps) (λ p point those.
      restamped-out number parts stamps g.table g.attrs p (right-false (in_any g.rects p) (in_any cut p) those)
      ∙ All-head (IsStamped schema stamps) g [] are p point (first_so (in_any g.rects p) (not (in_any cut p)) those)))
      (i.stamped (restamped number parts stamps) (λ p point those. restamped-in number parts stamps g.table g.attrs p (second_so (in_any g.rects p) (in_any cut p) those)));
  are_true = λ told is_told are. let one = All-head (IsTrueOf told) g [] are in All-append (IsTrueOf told) outside inside (o.are_true told is_told one) (i.are_true told is_told one);
  cuts = λ given are cut_parts.
      let all = AreCutFrom-append (table_at schema g.table).columns (given g.table) g.rects cut (All-head (IsCutFrom schema given) g [] are) (touching_cut schema given parts g.table g.attrs cut_parts) in
      All-append (IsCutFrom schema given) outside inside (o.cuts given all) (i.cuts given all);
  used = λ used is.
      let one = o.used used (first_so (used g.table g.attrs) true is) in
      let two = i.used used (first_so (used g.table g.attrs) true is) in
      list_all-append (λ g. used g.table g.attrs) outside inside ∙ rw (one, two) refl;
  classes = λ is new own.
      let one = o.classes is (first_so (is g.table g.attrs g.stamp) true own) in
      let two = i.classes is (new g.table g.attrs) in
      list_all-append (λ g. is g.table g.attrs g.stamp) outside inside ∙ rw (one, two) refl;
}
  where
    cut : List Rect
    cut = touching parts g.table g.attrs

test-inner : (schema : List Table) (g : Region) (cut : List Rect) → list_all (rect_fits (table_at schema g.table).columns) cut ≡ true → list_all (constrains_only g.attrs 0) cut ≡ true
    → Tests schema g (inner g cut) (is_in g.attrs cut)
test-inner schema g cut fit only p point = ap (λ b. in_any g.rects p && b) (is_in-point (table_at schema g.table).columns g.attrs cut p fit only point)

test-outer : (schema : List Table) (g : Region) (cut : List Rect) → list_all (rect_fits (table_at schema g.table).columns) cut ≡ true → list_all (constrains_only g.attrs 0) cut ≡ true
    → Tests schema g (outer g cut) (λ row. not (is_in g.attrs cut row))
test-outer schema g cut fit only p point = ap (λ b. in_any g.rects p && not b) (is_in-point (table_at schema g.table).columns g.attrs cut p fit only point)

-- the halves of a region along the parts that touch it
pub restamped_one : (schema : List Table) (number : ℕ) (parts : List Part) (g : Region) (inside outside : Option Region) → IsOfSchema schema g
    → list_all (rect_fits (table_at schema g.table).columns) (touching parts g.table g.attrs) ≡ true → list_all (constrains_only g.attrs 0) (touching parts g.table g.attrs) ≡ true
    → IsInside (table_at schema g.table) g (touching parts g.table g.attrs) inside → IsOutside (table_at schema g.table) g (touching parts g.table g.attrs) outside
    → IsRestamped schema number parts (g ∷ []) (pieces_of number outside inside)
restamped_one schema number parts g inside outside h fit only i o =
    let cut = touching parts g.table g.attrs in
    two-pieces schema number parts g (option_to_list outside) (map (with_stamp number) (option_to_list inside)) h
    (own-pieces schema g cut (outer g cut) (λ row. not (is_in g.attrs cut row)) outside h (test-outer schema g cut fit only) o)
    (half-pieces schema g cut (inner g cut) (is_in g.attrs cut) number inside h (test-inner schema g cut fit only) i)

pub restamped_nothing : (schema : List Table) (number : ℕ) (parts : List Part) → IsRestamped schema number parts [] []
restamped_nothing schema number parts = record {
  each = All-nil (IsOfSchema schema);
  points = λ t a p point. refl;
  stamped = λ stamps are. All-nil (IsStamped schema (restamped number parts stamps));
  are_true = λ told is_told are. are;
  cuts = λ given are cut_parts. are;
  used = λ used is. is;
  classes = λ is new own. own;
}

-- the fronts and the ends of lists put together
pub All-left : {X : Type 0} (P : X → Type 0) (xs ys : List X) → All P (xs ++ ys) → All P xs
All-left P [] ys h = All-nil P
All-left P (x ∷ xs) ys h = All-cons P x xs (All-head P x (xs ++ ys) h) (All-left P xs ys (All-tail P x (xs ++ ys) h))

pub All-right : {X : Type 0} (P : X → Type 0) (xs ys : List X) → All P (xs ++ ys) → All P ys
All-right P [] ys h = h
All-right P (x ∷ xs) ys h = All-right P xs ys (All-tail P x (xs ++ ys) h)

pub restamped_append : (schema : List Table) (number : ℕ) (parts : List Part) (old pieces more next : List Region)
    → IsRestamped schema number parts old pieces → IsRestamped schema number parts more next → IsRestamped schema number parts (old ++ more) (pieces ++ next)
restamped_append schema number parts old pieces more next h k = record {
  each = All-append (IsOfSchema schema) pieces next h.each k.each;
  points = λ t a p point.
      let x = occurs-append pieces next t a p in let y = occurs-append old more t a p in
      let u = h.points t a p point in let v = k.points t a p point in omega (arith, x, y, u, v);
  stamped = λ stamps are. All-append (IsStamped schema (restamped number parts stamps)) pieces next
      (h.stamped stamps (All-left (IsStamped schema stamps) old more are)) (k.stamped stamps (All-right (IsStamped schema stamps) old more are));
  are_true = λ told is_told are. All-append (IsTrueOf told) pieces next
      (h.are_true told is_told (All-left (IsTrueOf told) old more are)) (k.are_true told is_told (All-right (IsTrueOf told) old more are));
  cuts = λ given are cut_parts. All-append (IsCutFrom schema given) pieces next
      (h.cuts given (All-left (IsCutFrom schema given) old more are) cut_parts) (k.cuts given (All-right (IsCutFrom schema given) old more are) cut_parts);
  used = λ used is.
      let two = sym (list_all-append (λ g. used g.table g.attrs) old more) ∙ is in
      let x = h.used used (first_so (list_all (λ g. used g.table g.attrs) old) (list_all (λ g. used g.table g.attrs) more) two) in
      let y = k.used used (second_so (list_all (λ g. used g.table g.attrs) old) (list_all (λ g. used g.table g.attrs) more) two) in
      list_all-append (λ g. used g.table g.attrs) pieces next ∙ rw (x, y) refl;
  classes = λ is new own.
      let two = sym (list_all-append (λ g. is g.table g.attrs g.stamp) old more) ∙ own in
      let x = h.classes is new (first_so (list_all (λ g. is g.table g.attrs g.stamp) old) (list_all (λ g. is g.table g.attrs g.stamp) more) two) in
      let y = k.classes is new (second_so (list_all (λ g. is g.table g.attrs g.stamp) old) (list_all (λ g. is g.table g.attrs g.stamp) more) two) in
      list_all-append (λ g. is g.table g.attrs g.stamp) pieces next ∙ rw (x, y) refl;
}
