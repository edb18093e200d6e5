-- What is asked of some parts is what is left of them.
use Rattle.std.proofs.Common.{◌≡◌, ℕ, ◌+◌, ◌<◌, ◌≤◌, zero, suc, Bool, true, false, List, [], ◌∷◌, ◌++◌, length, refl, sym, ◌∙◌, ap, subst, arith, inl, inr, get_or, take, length-append}
use Rattle.std.specs.Prelude.{IsTrue, not, ◌&&◌, ◌⊎◌, ◌↔◌, nat_le, nat_lt, sum_by}
use Rattle.std.specs.List.{list_all, All, AllZip}
use Rattle.std.proofs.lemmas.Bool.{and_parts}
use Rattle.std.proofs.lemmas.Bool.Decides.{nat_tests}
use Rattle.std.proofs.lemmas.List.Sums.{sum_by-append, sum_by-cons, sum_by_push, sum_by-take-le}
use Rattle.std.proofs.lemmas.List.Elements.{All-nil, All-cons, All-head, All-tail}
use Rattle.sr_cell.specs.declared.table.Column.{Column}
use Rattle.sr_cell.specs.declared.table.Table.{Table}
use Rattle.sr_cell.specs.Attrs.{has_column}
use Rattle.sr_cell.specs.Cells.{Row}
use Rattle.sr_cell.specs.Columns.{table_at, is_point}
use Rattle.sr_box.specs.Points.{Rect, Points, in_any, rect_fits, constrains, constrained, constrains_only, AreSame, HasPoint, HasNoPoint, IsEssential}
use Rattle.sr_box.specs.declared.span.Span.TheVariants.{Full, Nums, Strs, Null}
use Rattle.sr_union.specs.Free.{span_at}
use Rattle.sr_box.specs.Corners.{have_first}
use Rattle.sr_union.specs.Grid.{AreCutFrom}
use Rattle.sr_union.proofs.Free.{constrained-is}
use Rattle.sr_union.proofs.Low.{has_point}
use Rattle.sr_trim.specs.Left.{left_over, is_constrained}
use Rattle.sr_trim.proofs.Columns.{not_essential}
use Rattle.sr_message.specs.declared.message.AskPart.{AskPart}
use Rattle.sr_message.specs.Sizes.{most_rects, count_asked}
use Rattle.sr_model.specs.Queries as model
use Rattle.sr_model.specs.Queries.{points_of}
use Rattle.sr_model.specs.Width.{width}
use Rattle.sr_query.specs.Bound.{IsPart}
use Rattle.sr_query.specs.declared.query.Part.{Part}
use Rattle.sr_history.specs.declared.mark.Mark.{Mark}
use Rattle.sr_history.specs.Marks.{is_held, is_covered}
use Rattle.sr_history.specs.Rests.{rest_of, Asks, nothing, covered, asked}
use Rattle.sr_history.specs.Load.{parts_on}
use Rattle.sr_history.proofs.Ends.{cuts_keep_ends}
use Rattle.sr_lines.specs.Short.{has_short_texts}
use Rattle.sr_lines.specs.Sound.{columns_in, is_sound_part}
use Rattle.sr_lines.proofs.Constrained.{rects_constrain_needed}
use Rattle.sr_region.specs.declared.region.Region.{Region}
use Rattle.sr_session.proofs.PointLemmas.{some-left}
use Rattle.sr_store.specs.Classes.{Stamps, Keeps}
use Rattle.sr_store.specs.Stores.{cover_of}
use Rattle.sr_store.proofs.Covering.{cover_is}
use Rattle.sr_client.specs.Asking.{AsksRest, LeavesRest, AreMeant, entry_of, whole_asks}
use Rattle.sr_client.specs.Cutting.{EndWith, AsksEnd, AreCutAlong, IsOver, grid_of_part}
use Rattle.sr_client.proofs.EndLemmas.{end-append, cover-end}
use Rattle.sr_client.proofs.Items.{take-item}

-- what trimming leaves of a part
pub record IsTrimmed (columns : List Column) (need : ℕ) (left : Points) (attrs : ℕ) (rest : List Rect) : Type 0 where
  pub fits : list_all (rect_fits columns) rest ≡ true
  pub points : AreSame columns (in_any rest) left
  pub bound : list_all (constrains_only attrs 0) rest ≡ true
  pub shipped : (c : ℕ) → IsTrue (has_column attrs c) ↔ (IsTrue (has_column need c) ⊎ IsEssential columns left c)
  pub empty : (rest ≡ []) ↔ HasNoPoint columns left
  pub some : (rest ≡ [] → ⊥) → HasPoint columns left

essential-same : (columns : List Column) (a b : Points) (c : ℕ) → AreSame columns a b → IsEssential columns a c → IsEssential columns b c
essential-same columns a b c same e = record {
  inside = e.inside;
  other = e.other;
  is_inside = (e.is_inside.0, sym (same e.inside e.is_inside.0) ∙ e.is_inside.1);
  is_outside = (e.is_outside.0, sym (same _ e.is_outside.0) ∙ e.is_outside.1);
}

-- the same of other words for what is left
pub trimmed-same : (columns : List Column) (need : ℕ) (a b : Points) (attrs : ℕ) (rest : List Rect) → AreSame columns a b → IsTrimmed columns need a attrs rest → IsTrimmed columns need b attrs rest
trimmed-same columns need a b attrs rest same t = record {
  fits = t.fits;
  points = λ p q. t.points p q ∙ same p q;
  bound = t.bound;
  shipped = λ c. (
    λ h. elim ((t.shipped c).0 h) [ inl needed ↦ inl needed | inr e ↦ inr (essential-same columns a b c same e) ],
    λ h. elim h [ inl needed ↦ (t.shipped c).1 (inl needed) | inr e ↦ (t.shipped c).1 (inr (essential-same columns b a c (λ p q. sym (same p q)) e)) ],
  );
  empty = (λ none p q. sym (same p q) ∙ t.empty.0 none p q, λ none. t.empty.1 (λ p q. same p q ∙ none p q));
  some = λ h. let s = t.some h in (s.0, s.1, sym (same s.0 s.1) ∙ s.2);
}

-- what is left without the cover is the rest
left-rest : (schema : List Table) (marks : List Mark) (stamps : Stamps) (regions : List Region) (part : Part) (m : model.Part) → Keeps schema (is_held marks) stamps regions → IsPart schema part m
    → AreSame (table_at schema part.table).columns (left_over part.rects (cover_of part regions)) (rest_of marks m)
left-rest schema marks stamps regions part m keeps is p point =
    let here : is_point (table_at schema m.table).columns p ≡ true = subst (λ t. is_point (table_at schema t).columns p ≡ true) is.table point in
    let same : in_any part.rects p ≡ points_of m p = is.rects.points p here in
    let cover = cover_is schema marks stamps regions part p keeps point in
    let covered : is_covered marks part.table part.need p ≡ is_covered marks m.table m.need p = ap (λ t. is_covered marks t part.need p) is.table ∙ ap (λ n. is_covered marks m.table n p) is.need in
    ap (λ b. b && not (in_any (cover_of part regions) p)) same ∙ ap (λ b. points_of m p && not b) (cover ∙ covered)

-- the entry asks the rest, where there is one
entry-asks : (schema : List Table) (marks : List Mark) (m : model.Part) (table need attrs : ℕ) (rest : List Rect) → table ≡ m.table → need ≡ m.need
    → IsTrimmed (table_at schema m.table).columns need (rest_of marks m) attrs rest → Asks schema marks (m ∷ []) (entry_of table attrs rest)
entry-asks schema marks m table need attrs [] same needs t = covered m [] [] (t.empty.0 refl) nothing
entry-asks schema marks m table need attrs (r ∷ rest) same needs t =
    asked m [] (record { table = table; attrs = attrs; rects = r ∷ rest }) [] (record {
      table = same;
      fits = t.fits;
      bound = t.bound;
      some = t.some (λ none. absurd (cc));
      same = t.points;
      columns = λ c. subst (λ n. IsTrue (has_column attrs c) ↔ (IsTrue (has_column n c) ⊎ IsEssential (table_at schema m.table).columns (rest_of marks m) c)) needs (t.shipped c);
    }) nothing

-- what trimming leaves of a part is all that is to be asked of it
pub asks-rest : (schema : List Table) (regions : List Region) (part : Part) (attrs : ℕ) (rest : List Rect)
    → IsTrimmed (table_at schema part.table).columns part.need (left_over part.rects (cover_of part regions)) attrs rest → AsksRest schema regions (part ∷ []) (entry_of part.table attrs rest)
asks-rest schema regions part attrs rest t marks stamps [] keeps zip sound = absurd zip
asks-rest schema regions part attrs rest t marks stamps (m ∷ n ∷ meant) keeps zip sound = absurd zip.1
asks-rest schema regions part attrs rest t marks stamps (m ∷ []) keeps zip sound =
    let is = zip.0 in
    let now = trimmed-same (table_at schema part.table).columns part.need (left_over part.rects (cover_of part regions)) (rest_of marks m) attrs rest (left-rest schema marks stamps regions part m keeps is) t in
    entry-asks schema marks m part.table part.need attrs rest is.table is.need (subst (λ u. IsTrimmed (table_at schema u).columns part.need (rest_of marks m) attrs rest) is.table now)

-- where some point of a part is left, something is left to ask
pub leaves-one : (schema : List Table) (regions : List Region) (part : Part) → (HasNoPoint (table_at schema part.table).columns (left_over part.rects (cover_of part regions)) → ⊥)
    → LeavesRest schema regions (part ∷ [])
leaves-one schema regions part some marks stamps [] keeps zip sound none = absurd zip
leaves-one schema regions part some marks stamps (m ∷ n ∷ meant) keeps zip sound none = absurd zip.1
leaves-one schema regions part some marks stamps (m ∷ []) keeps zip sound (covered own others asks free none) =
    let is = zip.0 in
    some (λ p point. left-rest schema marks stamps regions part m keeps is p point ∙ free p (subst (λ t. is_point (table_at schema t).columns p ≡ true) is.table point))

-- where something is asked, something is left to ask
pub leaves-asked : (schema : List Table) (regions : List Region) (parts : List Part) (asks : List AskPart) → AsksRest schema regions parts asks → (asks ≡ [] → ⊥) → LeavesRest schema regions parts
leaves-asked schema regions parts asks rest some marks stamps meant keeps zip sound = some-left schema marks meant asks (rest marks stamps meant keeps zip sound) some

-- a column that is not needed is not essential to a part
only-needed : (attrs n c : ℕ) (r : Rect) → constrains_only attrs n r ≡ true → has_column attrs (n + c) ≡ false → constrains (span_at c r) ≡ false
only-needed attrs n c [] only lacks = refl
only-needed attrs n zero (Full ∷ r) only lacks = refl
only-needed attrs n zero (Nums lo hi ∷ r) only lacks = absurd (let e : has_column attrs (n + 0) ≡ has_column attrs n = ap (has_column attrs) (omega arith) in grind (arith, e, only, lacks))
only-needed attrs n zero (Strs lo hi ∷ r) only lacks = absurd (let e : has_column attrs (n + 0) ≡ has_column attrs n = ap (has_column attrs) (omega arith) in grind (arith, e, only, lacks))
only-needed attrs n zero (Null ∷ r) only lacks = absurd (let e : has_column attrs (n + 0) ≡ has_column attrs n = ap (has_column attrs) (omega arith) in grind (arith, e, only, lacks))
only-needed attrs n (suc c) (Full ∷ r) only lacks = only-needed attrs (n + 1) c r only (ap (has_column attrs) (omega arith) ∙ lacks)
only-needed attrs n (suc c) (Nums lo hi ∷ r) only lacks = only-needed attrs (n + 1) c r (grind (arith, only)) (ap (has_column attrs) (omega arith) ∙ lacks)
only-needed attrs n (suc c) (Strs lo hi ∷ r) only lacks = only-needed attrs (n + 1) c r (grind (arith, only)) (ap (has_column attrs) (omega arith) ∙ lacks)
only-needed attrs n (suc c) (Null ∷ r) only lacks = only-needed attrs (n + 1) c r (grind (arith, only)) (ap (has_column attrs) (omega arith) ∙ lacks)

none-needed : (attrs c : ℕ) (rects : List Rect) → list_all (constrains_only attrs 0) rects ≡ true → has_column attrs c ≡ false → is_constrained c rects ≡ false
none-needed attrs c [] only lacks = refl
none-needed attrs c (r ∷ rects) only lacks =
    let one : has_column (constrained r) c ≡ false = constrained-is r c ∙ only-needed attrs 0 c r (grind (arith, only)) (ap (has_column attrs) (omega arith) ∙ lacks) in
    let ih = none-needed attrs c rects (grind (arith, only)) lacks in
    grind (arith, one, ih)

-- all of a part, where nothing is held
whole-trimmed : (columns : List Column) (need : ℕ) (rects : List Rect) → have_first columns ≡ true → list_all (rect_fits columns) rects ≡ true → list_all (constrains_only need 0) rects ≡ true
    → IsTrimmed columns need (left_over rects []) need rects
whole-trimmed columns need rects first fit only = record {
  fits = fit;
  points = λ p point. same p;
  bound = only;
  shipped = λ c. (λ has. inl has, λ h. elim h [ inl has ↦ has | inr e ↦ needed c (has_column need c) refl e ]);
  empty = (λ none p point. ap (λ rs. left_over rs [] p) none, λ free. by rects refl free);
  some = λ some. let p = has_point columns rects some fit first in (p.0, p.1, sym (same p.0) ∙ p.2);
}
  where
    same : (p : Row) → in_any rects p ≡ left_over rects [] p
    same p = and-true (in_any rects p)
      where
        and-true : (b : Bool) → b ≡ (b && true)
        and-true true = refl
        and-true false = refl

    needed : (c : ℕ) (b : Bool) → has_column need c ≡ b → IsEssential columns (left_over rects []) c → b ≡ true
    needed c true has e = refl
    needed c false lacks e = absurd (not_essential columns (left_over rects []) rects c (λ p point. same p) (none-needed need c rects only lacks) e)

    by : (rs : List Rect) → rects ≡ rs → HasNoPoint columns (left_over rects []) → rects ≡ []
    by [] e free = e
    by (r ∷ rs) e free =
        let p = has_point columns rects (λ none. absurd (let wrong : r ∷ rs ≡ [] = sym e ∙ none in cc)) fit first in
        absurd (let wrong : true ≡ false = sym p.2 ∙ (same p.0 ∙ free p.0 p.1) in cc)

-- ---- where what is asked begins and ends

entry-ends : (schema : List Table) (queries : List model.Query) (table attrs : ℕ) (rects : List Rect) → EndWith schema queries table rects → AsksEnd schema queries (entry_of table attrs rects)
entry-ends schema queries table attrs [] ends = All-nil (λ (ask : AskPart). EndWith schema queries ask.table ask.rects)
entry-ends schema queries table attrs (r ∷ rects) ends =
    All-cons (λ (ask : AskPart). EndWith schema queries ask.table ask.rects) (record { table = table; attrs = attrs; rects = r ∷ rects }) [] ends (All-nil (λ (ask : AskPart). EndWith schema queries ask.table ask.rects))

-- what is cut from a part and what covers it
pub rest-along : (schema : List Table) (regions : List Region) (part : Part) (attrs : ℕ) (rest : List Rect) → AreCutFrom (table_at schema part.table).columns (part.rects ++ cover_of part regions) rest
    → AreCutAlong schema regions (part ∷ []) (entry_of part.table attrs rest)
rest-along schema regions part attrs rest cut queries held parts =
    entry-ends schema queries part.table attrs rest
    (cuts_keep_ends (table_at schema part.table).columns (parts_on part.table queries) (part.rects ++ cover_of part regions) rest cut
    (end-append schema queries part.table part.rects (cover_of part regions) (All-head (λ (part : Part). EndWith schema queries part.table part.rects) part [] parts) (cover-end schema queries part regions held)))

pub none-along : (schema : List Table) (regions : List Region) (parts : List Part) → AreCutAlong schema regions parts []
none-along schema regions parts queries held ends = All-nil (λ (ask : AskPart). EndWith schema queries ask.table ask.rects)

all-append : (P : AskPart → Type 0) (xs ys : List AskPart) → All P xs → All P ys → All P (xs ++ ys)
all-append P [] ys a b = b
all-append P (x ∷ xs) ys a b = All-cons P x (xs ++ ys) (All-head P x xs a) (all-append P xs ys (All-tail P x xs a) b)

front-all : (P : Part → Type 0) (xs ys : List Part) → All P (xs ++ ys) → All P xs
front-all P [] ys a = All-nil P
front-all P (x ∷ xs) ys a = All-cons P x xs (All-head P x (xs ++ ys) a) (front-all P xs ys (All-tail P x (xs ++ ys) a))

back-all : (P : Part → Type 0) (xs ys : List Part) → All P (xs ++ ys) → All P ys
back-all P [] ys a = a
back-all P (x ∷ xs) ys a = back-all P xs ys (All-tail P x (xs ++ ys) a)

pub along-append : (schema : List Table) (regions : List Region) (xs ys : List Part) (own bs : List AskPart) → AreCutAlong schema regions xs own → AreCutAlong schema regions ys bs
    → AreCutAlong schema regions (xs ++ ys) (own ++ bs)
along-append schema regions xs ys own bs a b queries held parts =
    let P : Part → Type 0 = λ part. EndWith schema queries part.table part.rects in
    all-append (λ ask. EndWith schema queries ask.table ask.rects) own bs (a queries held (front-all P xs ys parts)) (b queries held (back-all P xs ys parts))

-- all of some parts
pub whole-along : (schema : List Table) (parts : List Part) → AreCutAlong schema [] parts (whole_asks parts)
whole-along schema [] queries held ends = All-nil (λ (ask : AskPart). EndWith schema queries ask.table ask.rects)
whole-along schema (part ∷ parts) queries held ends =
    let P : Part → Type 0 = λ part. EndWith schema queries part.table part.rects in
    all-append (λ ask. EndWith schema queries ask.table ask.rects) (entry_of part.table part.need part.rects) (whole_asks parts)
    (entry-ends schema queries part.table part.need part.rects (All-head P part parts ends)) (whole-along schema parts queries held (All-tail P part parts ends))

-- ---- how many rects are asked

pub entry-count : (table attrs : ℕ) (rest : List Rect) → count_asked (entry_of table attrs rest) ≡ length rest
entry-count table attrs [] = refl
entry-count table attrs (r ∷ rest) = sum_by-cons (λ (ask : AskPart). length ask.rects) (record { table = table; attrs = attrs; rects = r ∷ rest }) [] ∙ omega arith

-- a sound part has few rects
part-narrow : (schema : List Table) (part : Part) (m : model.Part) → IsPart schema part m → is_sound_part schema m ≡ true → length part.rects ≤ 64
part-narrow schema part m is sound =
    let key = nat_lt m.table (length schema) && has_column m.need (table_at schema m.table).key in
    let fits = (and_parts (nat_le (width true m.condition) 64) (has_short_texts m.condition) (and_parts (key && columns_in m.need m.condition) _ sound).1).0 in
    let narrow : width true m.condition ≤ 64 = grind (arith, nat_tests, fits) in omega (arith, is.rects.few, narrow)

entry-narrow : (table attrs : ℕ) (rects : List Rect) → length rects ≤ 64 → All (λ (ask : AskPart). length ask.rects ≤ 64) (entry_of table attrs rects)
entry-narrow table attrs [] few = All-nil (λ (ask : AskPart). length ask.rects ≤ 64)
entry-narrow table attrs (r ∷ rects) few =
    All-cons (λ (ask : AskPart). length ask.rects ≤ 64) (record { table = table; attrs = attrs; rects = r ∷ rects }) [] few (All-nil (λ (ask : AskPart). length ask.rects ≤ 64))

-- and so has all of it
pub whole-narrow : (schema : List Table) (parts : List Part) → AreMeant schema parts → All (λ (ask : AskPart). length ask.rects ≤ 64) (whole_asks parts)
whole-narrow schema parts (meant, zip, sound) = by parts meant zip sound
  where
    by : (parts : List Part) (meant : List model.Part) → AllZip (IsPart schema) parts meant → list_all (is_sound_part schema) meant ≡ true → All (λ (ask : AskPart). length ask.rects ≤ 64) (whole_asks parts)
    by [] meant zip sound = All-nil (λ (ask : AskPart). length ask.rects ≤ 64)
    by (p ∷ parts) [] zip sound = absurd zip
    by (p ∷ parts) (m ∷ meant) zip sound =
        let s = and_parts (is_sound_part schema m) (list_all (is_sound_part schema) meant) sound in
        all-append (λ ask. length ask.rects ≤ 64) (entry_of p.table p.need p.rects) (whole_asks parts)
        (entry-narrow p.table p.need p.rects (part-narrow schema p m zip.0 s.0)) (by parts meant zip.1 s.1)

-- ---- some parts and others

asks-join : (schema : List Table) (marks : List Mark) (xs ys : List model.Part) (own bs : List AskPart) → Asks schema marks xs own → Asks schema marks ys bs → Asks schema marks (xs ++ ys) (own ++ bs)
asks-join schema marks xs ys own bs nothing b = b
asks-join schema marks xs ys own bs (covered part parts more none a) b = covered part (parts ++ ys) (more ++ bs) none (asks-join schema marks parts ys more bs a b)
asks-join schema marks xs ys own bs (asked part parts ask more rest a) b = asked part (parts ++ ys) ask (more ++ bs) rest (asks-join schema marks parts ys more bs a b)

record IsSplit (schema : List Table) (xs ys : List Part) (meant : List model.Part) : Type 0 where
  pub front : List model.Part
  pub back : List model.Part
  pub is : meant ≡ front ++ back
  pub same : AllZip (IsPart schema) xs front
  pub more : AllZip (IsPart schema) ys back

split : (schema : List Table) (xs ys : List Part) (meant : List model.Part) → AllZip (IsPart schema) (xs ++ ys) meant → IsSplit schema xs ys meant
split schema [] ys meant zip = record { front = []; back = meant; is = refl; same = tt; more = zip }
split schema (x ∷ xs) ys [] zip = absurd zip
split schema (x ∷ xs) ys (m ∷ meant) zip =
    let s = split schema xs ys meant zip.1 in
    record { front = m ∷ s.front; back = s.back; is = ap (λ ms. m ∷ ms) s.is; same = (zip.0, s.same); more = s.more }

sound-front : (schema : List Table) (xs ys : List model.Part) → list_all (is_sound_part schema) (xs ++ ys) ≡ true → list_all (is_sound_part schema) xs ≡ true
sound-front schema [] ys h = refl
sound-front schema (x ∷ xs) ys h = let ih = sound-front schema xs ys (grind arith) in grind (arith, ih)

sound-back : (schema : List Table) (xs ys : List model.Part) → list_all (is_sound_part schema) (xs ++ ys) ≡ true → list_all (is_sound_part schema) ys ≡ true
sound-back schema [] ys h = h
sound-back schema (x ∷ xs) ys h = sound-back schema xs ys (grind arith)

pub asks-append : (schema : List Table) (regions : List Region) (xs ys : List Part) (own bs : List AskPart) → AsksRest schema regions xs own → AsksRest schema regions ys bs
    → AsksRest schema regions (xs ++ ys) (own ++ bs)
asks-append schema regions xs ys own bs a b marks stamps meant keeps zip sound =
    let s = split schema xs ys meant zip in
    let all : list_all (is_sound_part schema) (s.front ++ s.back) ≡ true = subst (λ ms. list_all (is_sound_part schema) ms ≡ true) s.is sound in
    subst (λ ms. Asks schema marks ms (own ++ bs)) (sym s.is)
    (asks-join schema marks s.front s.back own bs (a marks stamps s.front keeps s.same (sound-front schema s.front s.back all)) (b marks stamps s.back keeps s.more (sound-back schema s.front s.back all)))

pub asks-nothing : (schema : List Table) (regions : List Region) → AsksRest schema regions [] []
asks-nothing schema regions marks stamps [] keeps zip sound = nothing
asks-nothing schema regions marks stamps (m ∷ meant) keeps zip sound = absurd zip

-- all of some parts, where nothing is held
pub asks-whole : (schema : List Table) (parts : List Part) → ((t : ℕ) → have_first (table_at schema t).columns ≡ true) → AsksRest schema [] parts (whole_asks parts)
asks-whole schema [] first marks stamps meant keeps zip sound = asks-nothing schema [] marks stamps meant keeps zip sound
asks-whole schema (p ∷ parts) first marks stamps [] keeps zip sound = absurd zip
asks-whole schema (p ∷ parts) first marks stamps (m ∷ meant) keeps zip sound =
    let own = and_parts (is_sound_part schema m) (list_all (is_sound_part schema) meant) sound in
    let fit = subst (λ t. list_all (rect_fits (table_at schema t).columns) p.rects ≡ true) (sym zip.0.table) zip.0.rects.fits in
    let trimmed = whole-trimmed (table_at schema p.table).columns p.need p.rects (first p.table) fit (rects_constrain_needed schema p m zip.0 own.0) in
    asks-append schema [] (p ∷ []) parts (entry_of p.table p.need p.rects) (whole_asks parts) (asks-rest schema [] p p.need p.rects trimmed) (asks-whole schema parts first) marks stamps (m ∷ meant) keeps zip sound

-- what is asked of some parts, with room for so many rects more
pub record IsAskedOf (schema : List Table) (regions : List Region) (parts : List Part) (room : ℕ) (asks : List AskPart) : Type 0 where
  pub rest : AsksRest schema regions parts asks
  pub along : AreCutAlong schema regions parts asks
  pub few : length asks ≤ length parts
  pub left : room + count_asked asks ≡ most_rects
  pub grids : count_asked asks ≤ sum_by (grid_of_part schema regions) parts

pub asked-none : (schema : List Table) (regions : List Region) → IsAskedOf schema regions [] most_rects []
asked-none schema regions = record { rest = asks-nothing schema regions; along = none-along schema regions []; few = omega arith; left = refl; grids = omega arith }

-- and of one part more
pub asked-more : (schema : List Table) (regions : List Region) (parts : List Part) (part : Part) (room left : ℕ) (asks more : List AskPart) → IsAskedOf schema regions parts room asks
    → AsksRest schema regions (part ∷ []) more → AreCutAlong schema regions (part ∷ []) more → length more ≤ 1 → count_asked more ≤ grid_of_part schema regions part → left + count_asked more ≡ room
    → IsAskedOf schema regions (parts ++ part ∷ []) left (asks ++ more)
asked-more schema regions parts part room left asks more before rest along one grid fits =
    let both = sum_by-append (λ (ask : AskPart). length ask.rects) asks more in
    let grids = sum_by_push (grid_of_part schema regions) parts part in
    record {
      rest = asks-append schema regions parts (part ∷ []) asks more before.rest rest;
      along = along-append schema regions parts (part ∷ []) asks more before.along along;
      few = omega (arith, length-append asks more, length-append parts (part ∷ []), before.few, one);
      left = omega (arith, both, before.left, fits);
      grids = omega (arith, both, grids, before.grids, grid);
    }

-- where there is no room for the next part the grids are too large together
pub over-at : (schema : List Table) (regions : List Region) (parts : List Part) (i : ℕ) (part : Part) (room : ℕ) (asks : List AskPart) → i < length parts → part ≡ get_or parts i part
    → IsAskedOf schema regions (take i parts) room asks → room < grid_of_part schema regions part → IsOver schema regions parts
over-at schema regions parts i part room asks within is before large =
    let items = ap (sum_by (grid_of_part schema regions)) (take-item parts i part within is) in
    let one = sum_by_push (grid_of_part schema regions) (take i parts) part in
    let all = sum_by-take-le (grid_of_part schema regions) parts (i + 1) in
    omega (arith, items, one, all, before.left, before.grids, large)

-- ---- each part

pub meant-at : (schema : List Table) (parts : List Part) (i : ℕ) (d : Part) → i < length parts → AreMeant schema parts → AreMeant schema (get_or parts i d ∷ [])
meant-at schema parts i d within (meant, zip, sound) = by parts i meant within zip sound
  where
    by : (parts : List Part) (i : ℕ) (meant : List model.Part) → i < length parts → AllZip (IsPart schema) parts meant → list_all (is_sound_part schema) meant ≡ true → AreMeant schema (get_or parts i d ∷ [])
    by [] i meant within zip sound = absurd (omega (arith, within))
    by (p ∷ parts) i [] within zip sound = absurd zip
    by (p ∷ parts) zero (m ∷ meant) within zip sound = (m ∷ [], (zip.0, tt), grind arith)
    by (p ∷ parts) (suc i) (m ∷ meant) within zip sound = by parts i meant (omega (arith, within)) zip.1 (grind arith)

-- what is left of one part is left of all
pub leaves-at : (schema : List Table) (regions : List Region) (parts : List Part) (i : ℕ) (part : Part) → i < length parts → part ≡ get_or parts i part → LeavesRest schema regions (part ∷ [])
    → LeavesRest schema regions parts
leaves-at schema regions parts i part within is left marks stamps meant keeps zip sound none = by parts i meant within is zip sound none
  where
    by : (parts : List Part) (i : ℕ) (meant : List model.Part) → i < length parts → part ≡ get_or parts i part → AllZip (IsPart schema) parts meant → list_all (is_sound_part schema) meant ≡ true
        → Asks schema marks meant [] → ⊥
    by [] i meant within is zip sound none = omega (arith, within)
    by (p ∷ parts) i [] within is zip sound none = absurd zip
    by (p ∷ parts) zero (m ∷ meant) within is zip sound (covered own others asks free none) =
        left marks stamps (m ∷ []) keeps (subst (λ (p : Part). IsPart schema p m) (sym is) zip.0, tt) (grind arith) (covered m [] [] free nothing)
    by (p ∷ parts) (suc i) (m ∷ meant) within is zip sound (covered own others asks free none) = by parts i meant (omega (arith, within)) is zip.1 (grind arith) none

-- a part that is meant is of a table of the schema, and its rects fit it
pub record IsSound (schema : List Table) (part : Part) : Type 0 where
  pub meant : model.Part
  pub is : IsPart schema part meant
  pub sound : is_sound_part schema meant ≡ true
  pub within : part.table < length schema
  pub fits : list_all (rect_fits (table_at schema part.table).columns) part.rects ≡ true

pub is-sound : (schema : List Table) (part : Part) (m : model.Part) → IsPart schema part m → is_sound_part schema m ≡ true → IsSound schema part
is-sound schema part m is sound =
    let below : m.table < length schema = grind (arith, nat_tests, sound) in
    record {
      meant = m;
      is = is;
      sound = sound;
      within = subst (λ t. t < length schema) (sym is.table) below;
      fits = subst (λ t. list_all (rect_fits (table_at schema t).columns) part.rects ≡ true) (sym is.table) is.rects.fits;
    }

pub sound-one : (schema : List Table) (part : Part) → AreMeant schema (part ∷ []) → IsSound schema part
sound-one schema part ([], zip, sound) = absurd zip
sound-one schema part (m ∷ [], zip, sound) = is-sound schema part m zip.0 (grind arith)
sound-one schema part (m ∷ n ∷ meant, zip, sound) = absurd zip.1
