-- What a client sends is inside the limits of the format.
use Rattle.std.proofs.Common.{◌≡◌, ℕ, zero, suc, ◌+◌, ◌*◌, ◌/◌, ◌^◌, ◌≤◌, ◌<◌, Bool, true, List, [], ◌∷◌, ◌++◌, length, map, refl, sym, ◌∙◌, ap, subst, arith}
use Rattle.std.specs.Prelude.{◌&&◌, ◌==◌, nat_lt, nat_le}
use Rattle.std.specs.List.{list_all, All}
use Rattle.std.specs.Cmp.Derive.{both_true}
use Rattle.std.proofs.Math.Nat.{lt-mul-div-succ, pow-le-pow_right}
use Rattle.std.proofs.lemmas.Bool.{and_parts, le-leb, leb-true, ltb-true}
use Rattle.std.proofs.lemmas.Bool.Decides.{nat_tests}
use Rattle.std.proofs.lemmas.List.Folds.{list_all-append}
use Rattle.std.proofs.lemmas.List.Elements.{All-nil, All-cons, All-head, All-tail}
use Rattle.std.proofs.lemmas.List.Sums.{sum_by-cons}
use Rattle.sr_cell.specs.declared.table.Table.{Table}
use Rattle.sr_cell.specs.Attrs.{has_column}
use Rattle.sr_cell.specs.Columns.{table_at}
use Rattle.sr_box.specs.Points.{Rect, in_any, rect_fits, constrains_only}
use Rattle.sr_message.specs.declared.message.AskPart.{AskPart}
use Rattle.sr_message.specs.declared.message.Holding.{Holding}
use Rattle.sr_message.specs.declared.message.Message.TheVariants.{Ask, Write, Hello, Resume}
use Rattle.sr_message.specs.Sizes.{count_asked, most_rects}
use Rattle.sr_bytes.specs.Writing.{may_write_rects}
use Rattle.sr_bytes.proofs.Numbers.{from-to}
use Rattle.sr_wire.specs.Limits.{may_write_part, may_write_holding, count_held, IsSendable}
use Rattle.sr_wire.proofs.Sizes.{few_are_sendable}
use Rattle.sr_model.specs.Queries as model
use Rattle.sr_query.specs.Bound.{is_table}
use Rattle.sr_query.specs.declared.query.Query.{Query}
use Rattle.sr_history.specs.declared.mark.Mark.{Mark}
use Rattle.sr_history.specs.Rests.{IsRest, Asks, nothing, covered, asked}
use Rattle.sr_region.specs.declared.region.Region.{Region}
use Rattle.sr_store.specs.Stores.{IsOfSchema, count_rects}
use Rattle.sr_session.specs.Refusals.{are_columns, suits_table, part_suits}
use Rattle.sr_session.specs.Resumable.{region_holding}
use Rattle.sr_session.specs.Rules.{counted}
use Rattle.sr_session.proofs.TableLemmas.{HasColumns, one-table}
use Rattle.sr_client.specs.Arriving.{is_empty}
use Rattle.sr_client.specs.Bound.{IsMeaning}
use Rattle.sr_client.specs.Cutting.{EndWith, AsksEnd}
use Rattle.sr_client.specs.Sends.{IsWellSent, IsOfFormat, QuerySendsWell, first_of}
use Rattle.sr_client.specs.Sending.{IsSent}
use Rattle.sr_client.specs.Stands.{Hidden, Facts, Stands, HaveShortEnds}
use Rattle.sr_client.specs.declared.client.Client.{Client}
use Rattle.sr_client.specs.declared.steps.QueryStep.{QueryStep}
use Rattle.sr_client.proofs.ResumeLemmas.{first-well}
use Rattle.sr_client.proofs.SendLemmas.{MayAsk, are-asked, ask-ends}
use Rattle.sr_client.proofs.SendsLemmas.{ask-well, own-columns}
use Rattle.sr_client.proofs.ShortLemmas.{rects-may, meaning-short, short-append}

-- ---- numbers

positive : (n : ℕ) → 0 < 2 ^ n
positive n = let le : 2 ^ 0 ≤ 2 ^ n = pow-le-pow_right {n = 2} (omega arith) {i = 0} {j = n} (omega arith) in omega (arith, le)

attrs-few : (attrs n : ℕ) → are_columns attrs n ≡ true → n ≤ 12 → attrs ≤ 4095
attrs-few attrs n own few =
    let none : attrs / 2 ^ n ≡ 0 = by (attrs / 2 ^ n) own in
    let below : attrs < 2 ^ n * (attrs / 2 ^ n + 1) = lt-mul-div-succ attrs {b = 2 ^ n} (positive n) in
    let least : attrs < 2 ^ n * (0 + 1) = subst (λ d. attrs < 2 ^ n * (d + 1)) none below in
    let most : 2 ^ n ≤ 2 ^ 12 = pow-le-pow_right {n = 2} (omega arith) {i = n} {j = 12} few in
    omega (arith, least, most)
  where
    by : (m : ℕ) → (m == 0) ≡ true → m ≡ 0
    by m e = grind (arith, nat_tests, e)

some-rects : (rects : List Rect) → (rects ≡ [] → ⊥) → 1 ≤ length rects
some-rects [] some = absurd (some refl)
some-rects (r ∷ rects) some = omega arith

-- ---- tables

pub has-columns : (schema : List Table) (t : ℕ) → list_all is_table schema ≡ true → t < length schema → HasColumns (table_at schema t)
has-columns [] t tables there = absurd (omega (arith, there))
has-columns (table ∷ schema) zero tables there = one-table table (and_parts (is_table table) (list_all is_table schema) tables).0
has-columns (table ∷ schema) (suc t) tables there = has-columns schema t (and_parts (is_table table) (list_all is_table schema) tables).1 (omega (arith, there))

-- rects of a table, which end only where tests of these queries do
table-rects : (schema : List Table) (t : ℕ) (queries : List model.Query) (rects : List Rect) → list_all is_table schema ≡ true → t < length schema → HaveShortEnds queries
    → EndWith schema queries t rects → (rects ≡ [] → ⊥) → length rects ≤ 16384 → list_all (rect_fits (table_at schema t).columns) rects ≡ true → may_write_rects rects ≡ true
table-rects schema t queries rects tables there short ends some few fits =
    let columns = has-columns schema t tables there in
    both_true (from-to 1 16384 (length rects) (some-rects rects some) few) (rects-may (table_at schema t).columns t queries rects columns.some columns.few short ends fits)

-- ---- asks

abbrev IsFull : AskPart → Type 0
IsFull ask = ask.rects ≡ [] → ⊥

rest-full : (schema : List Table) (marks : List Mark) (part : model.Part) (ask : AskPart) → IsRest schema marks part ask → IsFull ask
rest-full schema marks part ask is = λ none.
    let inside : in_any ask.rects is.some.0 ≡ true = is.same is.some.0 is.some.1 ∙ is.some.2 in
    let wrong : in_any [] is.some.0 ≡ true = subst (λ rs. in_any rs is.some.0 ≡ true) none inside in
    absurd (cc)

asks-full : (schema : List Table) (marks : List Mark) (parts : List model.Part) (asks : List AskPart) → Asks schema marks parts asks → All IsFull asks
asks-full schema marks parts asks nothing = All-nil IsFull
asks-full schema marks parts asks (covered part others more none rest) = asks-full schema marks others more rest
asks-full schema marks parts asks (asked part others ask more is rest) = All-cons IsFull ask more (rest-full schema marks part ask is) (asks-full schema marks others more rest)

ask-may : (schema : List Table) (queries : List model.Query) (ask : AskPart) → list_all is_table schema ≡ true → HaveShortEnds queries → part_suits schema ask ≡ true
    → EndWith schema queries ask.table ask.rects → IsFull ask → length ask.rects ≤ 16384 → may_write_part ask ≡ true
ask-may schema queries ask tables short suits ends full few =
    let table : Table = table_at schema ask.table in
    let two = and_parts (nat_lt ask.table (length schema)) (suits_table (table_at schema ask.table) ask) suits in
    let there = ltb-true ask.table (length schema) two.0 in
    let fits = and_parts (are_columns ask.attrs (length (table_at schema ask.table).columns) && has_column ask.attrs (table_at schema ask.table).key) (list_all (rect_fits (table_at schema ask.table).columns) ask.rects)
    (and_parts (are_columns ask.attrs (length (table_at schema ask.table).columns) && has_column ask.attrs (table_at schema ask.table).key && list_all (rect_fits (table_at schema ask.table).columns) ask.rects)
    (list_all (constrains_only ask.attrs 0) ask.rects) two.1).0 in
    let own = and_parts (are_columns ask.attrs (length (table_at schema ask.table).columns)) (has_column ask.attrs (table_at schema ask.table).key) fits.0 in
    let columns = has-columns schema ask.table tables there in
    both_true (from-to 0 4095 ask.attrs (omega arith) (attrs-few ask.attrs (length (table_at schema ask.table).columns) own.0 columns.few))
    (table-rects schema ask.table queries ask.rects tables there short ends full few fits.1)

asks-may : (schema : List Table) (queries : List model.Query) (asks : List AskPart) → list_all is_table schema ≡ true → HaveShortEnds queries → list_all (part_suits schema) asks ≡ true
    → AsksEnd schema queries asks → All IsFull asks → count_asked asks ≤ 16384 → list_all may_write_part asks ≡ true
asks-may schema queries [] tables short suit ends full few = refl
asks-may schema queries (ask ∷ asks) tables short suit ends full few =
    let s = and_parts (part_suits schema ask) (list_all (part_suits schema) asks) suit in
    let count = sum_by-cons (λ (ask : AskPart). length ask.rects) ask asks in
    let End : AskPart → Type 0 = λ (a : AskPart). EndWith schema queries a.table a.rects in
    both_true
    (ask-may schema queries ask tables short s.0 (All-head (λ (a : AskPart). EndWith schema queries a.table a.rects) ask asks ends) (All-head IsFull ask asks full) (omega (arith, count, few)))
    (asks-may schema queries asks tables short s.1 (All-tail (λ (a : AskPart). EndWith schema queries a.table a.rects) ask asks ends) (All-tail IsFull ask asks full) (omega (arith, count, few)))

some-asks : (asks : List AskPart) → (asks ≡ [] → ⊥) → 1 ≤ length asks
some-asks [] some = absurd (some refl)
some-asks (ask ∷ asks) some = omega arith

-- an ask that asks something, in few rects that end only where tests of short texts do
pub ask-sent : (schema : List Table) (client number : ℕ) (fresh : Bool) (marks : List Mark) (queries : List model.Query) (q : Query) (m : model.Query) (asks : List AskPart) → list_all is_table schema ≡ true → IsMeaning schema q m
    → Asks schema marks m.parts asks → (asks ≡ [] → ⊥) → HaveShortEnds queries → AsksEnd schema queries asks → count_asked asks ≤ most_rects → IsWellSent schema client (Ask number fresh asks)
ask-sent schema client number fresh marks queries q m asks tables is rest some short ends few =
    let well = ask-well schema client number fresh marks q m asks is rest in
    let parts = and_parts (list_all (part_suits schema) asks) (nat_le (length asks) 4) well in
    record {
      request = well;
      sendable = few_are_sendable (Ask number fresh asks)
          (both_true (from-to 1 4 (length asks) (some-asks asks some) (leb-true (length asks) 4 parts.1)) (asks-may schema queries asks tables short parts.0 ends (asks-full schema marks m.parts asks rest) few))
          (le-leb (count_asked asks) most_rects few);
    }

-- what the step of a query sends
pub sent-well : (c : Client) (q : Query) (m : model.Query) (asks : List AskPart) (drops : List Mark) (h : Hidden) (new : Client) (step : QueryStep) → MayAsk c q m asks → Facts c h → IsSent c q asks drops new step
    → QuerySendsWell c.schema c.id step
sent-well c q m asks drops h new step may f sent =
    subst (QuerySendsWell c.schema c.id) (sym sent.told)
    (ask-sent c.schema c.id c.next_request (is_empty c.store.regions) h.marks (counted h.counted_from h.queries ++ m ∷ []) q m asks f.tables may.is (are-asked c q m asks may h f) may.some
    (short-append (counted h.counted_from h.queries) (m ∷ []) f.short (meaning-short c.schema q m may.is))
    (ask-ends c q m asks may h f) may.few)

-- ---- writes

pub write-sent-well : (schema : List Table) (client number : ℕ) (sql : List ℕ) → length sql ≤ 65536 → IsWellSent schema client (Write number sql)
write-sent-well schema client number sql few = record {
  request = refl;
  sendable = few_are_sendable (Write number sql) (from-to 0 65536 (length sql) (omega arith) few) refl;
}

-- ---- the first message of a session

abbrev EndsWith : List Table → List model.Query → Region → Type 0
EndsWith schema queries g = EndWith schema queries g.table g.rects

held-may : (schema : List Table) (queries : List model.Query) (gs : List Region) → list_all is_table schema ≡ true → length schema ≤ 16 → HaveShortEnds queries → All (IsOfSchema schema) gs
    → All (EndsWith schema queries) gs → count_rects gs ≤ 16384 → list_all (may_write_holding 2) (map region_holding gs) ≡ true
held-may schema queries [] tables most short each ends few = refl
held-may schema queries (g ∷ gs) tables most short each ends few =
    let is = All-head (IsOfSchema schema) g gs each in
    let count = sum_by-cons (λ (g : Region). length g.rects) g gs in
    let there = is.0 in
    let columns = has-columns schema g.table tables is.0 in
    let attrs = attrs-few g.attrs (length (table_at schema g.table).columns) (own-columns (table_at schema g.table) g.attrs is.1.area.own) columns.few in
    both_true
    (both_true (from-to 0 15 g.table (omega arith) (omega (arith, there, most)))
    (both_true (from-to 0 4095 g.attrs (omega arith) attrs)
    (table-rects schema g.table queries g.rects tables is.0 short (All-head (EndsWith schema queries) g gs ends) is.1.area.some (omega (arith, count, few)) is.1.area.fit)))
    (held-may schema queries gs tables most short (All-tail (IsOfSchema schema) g gs each) (All-tail (EndsWith schema queries) g gs ends) (omega (arith, count, few)))

held-count : (gs : List Region) → count_held (map region_holding gs) ≡ count_rects gs
held-count [] = refl
held-count (g ∷ gs) =
    let here = sum_by-cons (λ (h : Holding). length h.rects) (region_holding g) (map region_holding gs) in
    let there = sum_by-cons (λ (g : Region). length g.rects) g gs in
    here ∙ (ap (λ n. length g.rects + n) (held-count gs) ∙ sym there)

held-length : (gs : List Region) → length (map region_holding gs) ≡ length gs
held-length [] = refl
held-length (g ∷ gs) = ap (λ n. suc n) (held-length gs)

first-sendable : (c : Client) (h : Hidden) → Facts c h → IsOfFormat c → length c.schema ≤ 16 → (gs : List Region) → c.store.regions ≡ gs → IsSendable (first_of c gs)
first-sendable c h f format most [] same = few_are_sendable (Hello 2 c.id c.next_request) (from-to 1 64 c.id format.first format.last) refl
first-sendable c h f format most (g ∷ gs) same =
    let queries = counted h.counted_from h.queries in
    let each = subst (All (IsOfSchema c.schema)) same f.store.each in
    let ends = subst (All (EndsWith c.schema (counted h.counted_from h.queries))) same f.ends in
    let rects = subst (λ gs. count_rects gs ≤ 16384) same f.store.few in
    let regions = subst (λ gs. length gs ≤ c.store.limits.regions) same f.few in
    let room = format.regions in
    let count = held-count (g ∷ gs) in
    let long = held-length (g ∷ gs) in
    few_are_sendable (Resume 2 c.id c.next_request c.version (map region_holding (g ∷ gs)))
    (both_true (from-to 1 64 c.id format.first format.last)
    (both_true (from-to 1 1024 (length (map region_holding (g ∷ gs))) (omega arith) (omega (arith, long, regions, room)))
    (held-may c.schema (counted h.counted_from h.queries) (g ∷ gs) f.tables most f.short each ends rects)))
    (le-leb (count_held (map region_holding (g ∷ gs))) most_rects (omega (arith, count, rects)))

pub first-sent : (c : Client) → Stands c → IsOfFormat c → length c.schema ≤ 16 → IsWellSent c.schema c.id (first_of c c.store.regions)
first-sent c stands format most = record { request = first-well c stands; sendable = first-sendable c stands.0 stands.1 format most c.store.regions refl }
