-- What a client holds can be written as an image, and a client that starts from an image holds short texts alone.
use Rattle.std.proofs.Common.{◌≡◌, ℕ, ◌+◌, ◌≤◌, ◌<◌, Bool, true, false, List, [], ◌∷◌, length, refl, sym, ◌∙◌, ap, subst, arith, Result, Ok, Err}
use Rattle.std.specs.Prelude.{IfOk, IsTrue, ◌&&◌, ◌==◌, nat_le, filter, if◌then◌else◌}
use Rattle.std.specs.List.{list_all, All}
use Rattle.std.specs.Cmp.{first_so, second_so}
use Rattle.std.specs.Cmp.Derive.{both_true}
use Rattle.std.proofs.lemmas.Bool.{and_parts}
use Rattle.std.proofs.lemmas.List.Elements.{All-nil, All-cons, All-head, All-tail}
use Rattle.sr_cell.specs.declared.table.Table.{Table}
use Rattle.sr_cell.specs.Attrs.{has_column, project}
use Rattle.sr_cell.specs.Cells.{Row}
use Rattle.sr_cell.specs.Columns.{table_at}
use Rattle.sr_cell.proofs.Columns.{point-length}
use Rattle.sr_cell.proofs.Lists.{list_all-filter}
use Rattle.sr_box.specs.Points.{Rect}
use Rattle.sr_bytes.specs.Spelling.{is_from_to}
use Rattle.sr_bytes.specs.Writing.{may_write_cell, may_write_row, may_write_rect, may_write_rects}
use Rattle.sr_bytes.proofs.Numbers.{from-to}
use Rattle.sr_model.specs.Queries.{Query}
use Rattle.sr_policy.specs.declared.policy.Limits.{Limits}
use Rattle.sr_query.specs.Bound.{is_table}
use Rattle.sr_region.specs.declared.region.Region.{Region}
use Rattle.sr_region.specs.Regions.{IsRowIn, is_in}
use Rattle.sr_store.specs.declared.start.Kept.{Kept}
use Rattle.sr_store.specs.Brought.{IsToldOf}
use Rattle.sr_store.specs.Fitted.{count_rows}
use Rattle.sr_store.specs.Starting.{IsStart, kept_rows}
use Rattle.sr_store.specs.declared.store.Store.{Store}
use Rattle.sr_store.specs.Stores.{IsOfSchema}
use Rattle.sr_store.specs.Told.{Told, IsTrueOf, AreTrueOf}
use Rattle.sr_session.specs.Rules.{counted}
use Rattle.sr_session.proofs.TableLemmas.{HasColumns}
use Rattle.sr_server.proofs.Sending.{projected-few, projected-some}
use Rattle.sr_client.specs.declared.client.Client.{Client}
use Rattle.sr_client.specs.Cutting.{EndWith}
use Rattle.sr_client.specs.Sends.{IsOfFormat}
use Rattle.sr_client.specs.Stands as client
use Rattle.sr_client.specs.Stands.{HaveShortEnds, StandsFor, new_client}
use Rattle.sr_client.specs.Starting.{MayBeWritten, start_client, start_past}
use Rattle.sr_client.specs.declared.start.ClientStart.{ClientStart}
use Rattle.sr_client.proofs.SendableLemmas.{has-columns}
use Rattle.sr_client.proofs.ShortLemmas.{rects-may}
use Rattle.sr_image.specs.declared.image.Image.{Image}
use Rattle.sr_image.specs.Laws.{is_image}
use Rattle.sr_image.specs.Writing.{may_write_image, may_write_kept, may_write_region}
use Rattle.sr_image.proofs.Writable.{may-be-written}
use Rattle.sr_calls.specs.ClientEnds.{IsReady}
use Rattle.sr_calls.specs.Short.{is_short, HoldsShort, TellsShort}
use Rattle.sr_calls.proofs.ShortLemmas.{none_held}

-- ---- what may be written

-- short cells of columns of a table, its key among them
row-may : (table : Table) (attrs : ℕ) (rects : List Rect) (row : Row) → HasColumns table → has_column attrs table.key ≡ true → IsRowIn table.columns attrs rects row → is_short row ≡ true → may_write_row row ≡ true
row-may table attrs rects row has key is short =
    let below = has.key in
    let most = has.few in
    let long = point-length table.columns is.0.0 is.0.1 in
    let few = projected-few 0 attrs is.0.0 in
    let there : 0 + table.key ≡ table.key = omega arith in
    let some = projected-some 0 attrs table.key is.0.0 (omega (arith, long, below)) (ap (has_column attrs) there ∙ key) in
    let size : length (project attrs is.0.0) ≡ length row = ap (λ (r : Row). length r) is.0.2 in
    both_true (from-to 1 12 (length row) (omega (arith, some, size)) (omega (arith, few, long, most, size))) short

rows-may : (table : Table) (attrs : ℕ) (rects : List Rect) (rows : List Row) → HasColumns table → has_column attrs table.key ≡ true → All (IsRowIn table.columns attrs rects) rows → list_all is_short rows ≡ true
    → list_all may_write_row rows ≡ true
rows-may table attrs rects [] has key each short = refl
rows-may table attrs rects (row ∷ rows) has key each short =
    let s = and_parts (is_short row) (list_all is_short rows) short in
    both_true (row-may table attrs rects row has key (All-head (IsRowIn table.columns attrs rects) row rows each) s.0)
    (rows-may table attrs rects rows has key (All-tail (IsRowIn table.columns attrs rects) row rows each) s.1)

abbrev EndsWith : List Table → List Query → Region → Type 0
EndsWith schema queries g = EndWith schema queries g.table g.rects

-- regions that end at short texts, with the rows of a telling of short rows
regions-may : (schema : List Table) (queries : List Query) (told : Told) (gs : List Region) → list_all is_table schema ≡ true → HaveShortEnds queries → TellsShort told → All (IsOfSchema schema) gs
    → All (EndsWith schema queries) gs → AreTrueOf told gs → list_all may_write_region gs ≡ true
regions-may schema queries told [] tables ends short each along own = refl
regions-may schema queries told (g ∷ gs) tables ends short each along own =
    let is = All-head (IsOfSchema schema) g gs each in
    let has = has-columns schema g.table tables is.0 in
    let rows_are : g.rows ≡ filter (is_in g.attrs g.rects) (told g.table g.attrs) = All-head (IsTrueOf told) g gs own in
    let rows_short : list_all is_short g.rows ≡ true =
    subst (λ rows. list_all is_short rows ≡ true) (sym rows_are) (list_all-filter is_short (is_in g.attrs g.rects) (told g.table g.attrs) (short g.table g.attrs)) in
    let key : has_column g.attrs (table_at schema g.table).key ≡ true = subst (λ k. has_column g.attrs k ≡ true) is.1.area.key is.1.area.has_key in
    let rects = rects-may (table_at schema g.table).columns g.table queries g.rects has.some has.few ends (All-head (EndsWith schema queries) g gs along) is.1.area.fit in
    let rows = rows-may (table_at schema g.table) g.attrs g.rects g.rows has key is.1.rows rows_short in
    both_true (both_true rects rows)
    (regions-may schema queries told gs tables ends short (All-tail (IsOfSchema schema) g gs each) (All-tail (EndsWith schema queries) g gs along) (All-tail (IsTrueOf told) g gs own))

-- what a client that is ready holds
pub held-may : (c : Client) → IsReady c → list_all may_write_region c.store.regions ≡ true
held-may c ready =
    let f = ready.0.1 in
    let h = ready.2 in
    regions-may c.schema (counted ready.0.0.counted_from ready.0.0.queries) h.told c.store.regions f.tables f.short h.short f.store.each f.ends h.is.1

-- ---- a client before anything happens

pub new_ready : (id : ℕ) (schema : List Table) (limits : Limits) (c : Client) → c ≡ new_client id schema limits → client.Stands c → 1 ≤ id → id ≤ 64 → limits.regions ≤ 1024 → IsReady c
new_ready id schema limits c is stands first last regions = (
  stands,
  record {
    first = subst (λ (c : Client). 1 ≤ c.id) (sym is) first;
    last = subst (λ (c : Client). c.id ≤ 64) (sym is) last;
    regions = subst (λ (c : Client). c.store.limits.regions ≤ 1024) (sym is) regions;
  },
  none_held c (ap (λ (c : Client). c.store.regions) is),
)

-- ---- a start

short-of : (rows : List Row) → list_all may_write_row rows ≡ true → list_all is_short rows ≡ true
short-of [] may = refl
short-of (row ∷ rows) may =
    let s = and_parts (may_write_row row) (list_all may_write_row rows) may in both_true (and_parts (is_from_to 1 12 (length row)) (is_short row) s.0).1 (short-of rows s.1)

kept-short : (kept : List Kept) → list_all may_write_kept kept ≡ true → TellsShort (kept_rows kept)
kept-short [] may t a = refl
kept-short (k ∷ kept) may t a = go (k.table == t && k.attrs == a) (kept-short kept (second_so (may_write_kept k) (list_all may_write_kept kept) may) t a)
  where
    rows : list_all may_write_row k.rows ≡ true
    rows =
        second_so (nat_le (length k.rows) 200000) (list_all may_write_row k.rows)
        (second_so (may_write_rects k.rects) (nat_le (length k.rows) 200000 && list_all may_write_row k.rows) (first_so (may_write_kept k) (list_all may_write_kept kept) may))

    go : (b : Bool) → list_all is_short (kept_rows kept t a) ≡ true → list_all is_short (if b then k.rows else kept_rows kept t a) ≡ true
    go true others = short-of k.rows rows
    go false others = others

kept-rects : (kept : List Kept) → list_all may_write_kept kept ≡ true → MayBeWritten kept
kept-rects [] may = All-nil (λ (k : Kept). list_all may_write_rect k.rects ≡ true)
kept-rects (k ∷ kept) may =
    let own = first_so (may_write_kept k) (list_all may_write_kept kept) may in
    let rects = first_so (may_write_rects k.rects) (nat_le (length k.rows) 200000 && list_all may_write_row k.rows) own in
    All-cons (λ (k : Kept). list_all may_write_rect k.rects ≡ true) k kept (second_so (is_from_to 1 16384 (length k.rects)) (list_all may_write_rect k.rects) rects)
    (kept-rects kept (second_so (may_write_kept k) (list_all may_write_kept kept) may))

image-kept : (schema : List Table) (image : Image) → IsTrue (is_image schema image) → list_all may_write_kept image.kept ≡ true
image-kept schema image is = second_so (nat_le (length image.kept) 1024) (list_all may_write_kept image.kept) (may-be-written schema image is)

-- the rects of an image may be written
pub image-rects : (schema : List Table) (image : Image) → IsTrue (is_image schema image) → MayBeWritten image.kept
image-rects schema image is = kept-rects image.kept (image-kept schema image is)

-- a client that starts from an image
pub start_ready : (id : ℕ) (schema : List Table) (limits : Limits) (image : Image) (c : Client) → IsTrue (is_image schema image) → c ≡ start_client id schema limits image.version c.store → c.store.limits ≡ limits
    → client.Stands c → IsToldOf schema (kept_rows image.kept) c.store.regions → 1 ≤ id → id ≤ 64 → limits.regions ≤ 1024 → IsReady c
start_ready id schema limits image c is start limits_are stands told first last regions = (
  stands,
  record {
    first = subst (λ (c : Client). 1 ≤ c.id) (sym start) first;
    last = subst (λ (c : Client). c.id ≤ 64) (sym start) last;
    regions = subst (λ (l : Limits). l.regions ≤ 1024) (sym limits_are) regions;
  },
  record {
    told = kept_rows image.kept;
    is = subst (λ s. IsToldOf s (kept_rows image.kept) c.store.regions) (sym (ap (λ (c : Client). c.schema) start)) told;
    short = kept-short image.kept (image-kept schema image is);
  },
)

-- what a start answers
pub starts_ready : {E : Type 0} (id : ℕ) (schema : List Table) (limits : Limits) (image : Image) (r : Result ClientStart E) → IsTrue (is_image schema image)
    → IfOk r (λ (s : ClientStart). s.client ≡ start_client id schema limits image.version s.client.store)
    → IfOk r (λ (s : ClientStart). IsStart schema limits image.kept (record { store = s.client.store; marks = s.marks }))
    → IfOk r (λ (s : ClientStart). StandsFor (start_past schema image.version image.kept s.marks) s.client)
    → IfOk r (λ (s : ClientStart). IsToldOf schema (kept_rows image.kept) s.client.store.regions) → 1 ≤ id → id ≤ 64 → limits.regions ≤ 1024 → IfOk r (λ (s : ClientStart). IsReady s.client)
starts_ready id schema limits image (Ok s) is start store stands told first last regions =
    start_ready id schema limits image s.client is start (ap (λ (x : Store). x.limits) store.store) (stands.0, stands.1) told first last regions
starts_ready id schema limits image (Err e) is start store stands told first last regions = tt
