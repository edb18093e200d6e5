-- A query as code has it, part by part, and as it is meant.
use Rattle.std.proofs.Common.{◌≡◌, ℕ, ◌<◌, ◌≤◌, true, List, [], ◌∷◌, length, map, suc, refl, sym, ◌∙◌, ap, subst, arith}
use Rattle.std.specs.Prelude.{◌&&◌}
use Rattle.std.specs.List.{list_all, All, AllZip}
use Rattle.std.proofs.lemmas.Bool.Decides.{nat_tests}
use Rattle.std.proofs.lemmas.List.Elements.{All-nil, All-cons}
use Rattle.std.specs.Cmp.{first_so, second_so}
use Rattle.sr_cell.specs.declared.table.Table.{Table}
use Rattle.sr_cell.specs.Attrs.{has_column}
use Rattle.sr_cell.specs.Cells.{Row}
use Rattle.sr_cell.specs.Columns.{table_at, is_point}
use Rattle.sr_box.specs.Points.{in_any, rect_fits, constrains_only}
use Rattle.sr_message.specs.declared.message.AskPart.{AskPart}
use Rattle.sr_model.specs.Statements.{Tables}
use Rattle.sr_model.specs.Queries as model
use Rattle.sr_model.specs.Queries.{points_of, rows_at}
use Rattle.sr_query.specs.Bound.{IsPart}
use Rattle.sr_query.specs.declared.query.Part.{Part}
use Rattle.sr_query.specs.declared.query.Query.{Query}
use Rattle.sr_query.specs.Joined.{is_needed, needs_key, join_each, are_different}
use Rattle.sr_lines.specs.Sound.{is_sound_part}
use Rattle.sr_lines.proofs.Constrained.{rects_constrain_needed}
use Rattle.sr_join.specs.Lent.{IsJoinable, StandByKey}
use Rattle.sr_client.specs.Asking.{AreMeant, AsksRest}
use Rattle.sr_region.specs.declared.region.Region.{Region}
use Rattle.sr_client.specs.Answering.{IsPartOver}
use Rattle.sr_client.specs.Bound.{IsMeaning}

pub are-meant : (schema : List Table) (q : Query) (m : model.Query) → IsMeaning schema q m → AreMeant schema q.parts
are-meant schema q m is = (m.parts, is.query.parts, first_so (list_all (is_sound_part schema) m.parts) _ is.sound)

pub are-sound : (schema : List Table) (q : Query) (m : model.Query) → IsMeaning schema q m → list_all (is_sound_part schema) m.parts ≡ true
are-sound schema q m is = first_so (list_all (is_sound_part schema) m.parts) _ is.sound

-- each part is of a table of its own
pub tables-differ : (schema : List Table) (q : Query) (m : model.Query) → IsMeaning schema q m → are_different (map (λ (part : model.Part). part.table) m.parts) ≡ true
tables-differ schema q m is = second_so (list_all (needs_key schema) m.parts && join_each schema m.parts 1 m.joins) (are_different (map (λ (part : model.Part). part.table) m.parts)) is.joined

-- there are as many parts as are meant
pub zip-length : {A B : Type 0} (R : A → B → Type 0) (xs : List A) (ys : List B) → AllZip R xs ys → length xs ≡ length ys
zip-length R [] [] zip = refl
zip-length R [] (y ∷ ys) zip = absurd zip
zip-length R (x ∷ xs) [] zip = absurd zip
zip-length R (x ∷ xs) (y ∷ ys) zip = ap (λ n. suc n) (zip-length R xs ys zip.1)

pub parts-few : (schema : List Table) (q : Query) (m : model.Query) → IsMeaning schema q m → length q.parts ≤ 4
parts-few schema q m is = let same = zip-length (IsPart schema) q.parts m.parts is.query.parts in let few = is.few in omega (arith, same, few)

-- what holds of each sound part that is meant
pub each-meant : (schema : List Table) (P : Part → Type 0) → ((part : Part) (m : model.Part) → IsPart schema part m → is_sound_part schema m ≡ true → P part)
    → (parts : List Part) (meant : List model.Part) → AllZip (IsPart schema) parts meant → list_all (is_sound_part schema) meant ≡ true → All P parts
each-meant schema P holds [] meant zip sound = All-nil P
each-meant schema P holds (p ∷ parts) [] zip sound = absurd zip
each-meant schema P holds (p ∷ parts) (m ∷ meant) zip sound =
    All-cons P p parts (holds p m zip.0 (first_so (is_sound_part schema m) (list_all (is_sound_part schema) meant) sound))
    (each-meant schema P holds parts meant zip.1 (second_so (is_sound_part schema m) (list_all (is_sound_part schema) meant) sound))

-- holds of all parts of a query
pub all-parts : (schema : List Table) (q : Query) (m : model.Query) (P : Part → Type 0) → IsMeaning schema q m → ((part : Part) (m : model.Part) → IsPart schema part m → is_sound_part schema m ≡ true → P part) → All P q.parts
all-parts schema q m P is holds = each-meant schema P holds q.parts m.parts is.query.parts (are-sound schema q m is)

-- ---- the part

pub part-table : (schema : List Table) (part : Part) (m : model.Part) → IsPart schema part m → is_sound_part schema m ≡ true → part.table < length schema
part-table schema part m is sound = let below : m.table < length schema = grind (arith, nat_tests, sound) in subst (λ t. t < length schema) (sym is.table) below

pub part-key : (schema : List Table) (part : Part) (m : model.Part) → IsPart schema part m → is_sound_part schema m ≡ true → has_column part.need (table_at schema part.table).key ≡ true
part-key schema part m is sound =
    let has : has_column m.need (table_at schema m.table).key ≡ true = grind (arith, sound) in
    ap (λ n. has_column n (table_at schema part.table).key) is.need ∙ (ap (λ t. has_column m.need (table_at schema t).key) is.table ∙ has)

pub part-fits : (schema : List Table) (part : Part) (m : model.Part) → IsPart schema part m → list_all (rect_fits (table_at schema part.table).columns) part.rects ≡ true
part-fits schema part m is = subst (λ t. list_all (rect_fits (table_at schema t).columns) part.rects ≡ true) (sym is.table) is.rects.fits

pub part-points : (schema : List Table) (part : Part) (m : model.Part) → IsPart schema part m → (p : Row) → is_point (table_at schema part.table).columns p ≡ true → in_any part.rects p ≡ points_of m p
part-points schema part m is p point = is.rects.points p (subst (λ t. is_point (table_at schema t).columns p ≡ true) is.table point)

-- a part over tables of points
pub part-over : (schema : List Table) (tables : Tables) (part : Part) (m : model.Part) → IsPart schema part m → is_sound_part schema m ≡ true → ((t : ℕ) → list_all (is_point (table_at schema t).columns) (rows_at tables t) ≡ true)
    → IsPartOver schema tables part
part-over schema tables part m is sound points = record {
  fit = part-fits schema part m is;
  only = rects_constrain_needed schema part m is sound;
  points = points part.table;
}

-- the query over tables by key
pub is-joinable : (schema : List Table) (tables : Tables) (q : Query) (m : model.Query) → IsMeaning schema q m → StandByKey schema tables → IsJoinable schema tables q m
is-joinable schema tables q m is by_key = record {
  means = is.query;
  joined = is.joined;
  outputs = second_so (list_all (is_sound_part schema) m.parts) (list_all (is_needed m.parts) m.outputs) is.sound;
  by_key = by_key;
}

-- ---- what is asked of it

-- what is asked, of the schema and the parts as calls read them
pub asks-of : (schema read : List Table) (regions : List Region) (parts listed : List Part) (asks : List AskPart) → read ≡ schema → listed ≡ parts → AsksRest read regions listed asks
    → AsksRest schema regions parts asks
asks-of schema read regions parts listed asks same all rest =
    subst (λ ps. AsksRest schema regions ps asks) all (subst (λ s. AsksRest s regions listed asks) same rest)

-- ---- what the store asks of its parts

abbrev pub Fit : List Table → Part → Type 0
Fit schema part = list_all (rect_fits (table_at schema part.table).columns) part.rects ≡ true

abbrev pub Only : Part → Type 0
Only part = list_all (constrains_only part.need 0) part.rects ≡ true

abbrev pub Named : List Table → Part → Type 0
Named schema part = part.table < length schema

pub parts-fit : (schema : List Table) (q : Query) (m : model.Query) → IsMeaning schema q m → All (Fit schema) q.parts
parts-fit schema q m is = all-parts schema q m (Fit schema) is (λ part m own sound. part-fits schema part m own)

pub parts-only : (schema : List Table) (q : Query) (m : model.Query) → IsMeaning schema q m → All Only q.parts
parts-only schema q m is = all-parts schema q m Only is (λ part m own sound. rects_constrain_needed schema part m own sound)

pub parts-named : (schema : List Table) (q : Query) (m : model.Query) → IsMeaning schema q m → All (Named schema) q.parts
parts-named schema q m is = all-parts schema q m (Named schema) is (λ part m own sound. part-table schema part m own sound)
