-- Regions with the rows of one version have those of a later one, once messages are applied that tell truly.
use Rattle.std.proofs.Common.{◌≡◌, ℕ, zero, suc, ◌+◌, ◌-◌, ◌<◌, ◌≤◌, Bool, true, false, List, [], ◌∷◌, map, refl, sym, subst, arith, Option, Some, None, map-id}
use Rattle.std.specs.Prelude.{not, ◌&&◌, ◌||◌, ◌==◌, filter}
use Rattle.std.specs.List.{All}
use Rattle.std.proofs.lemmas.Bool.Decides.{nat_tests}
use Rattle.std.proofs.lemmas.List.Elements.{All-nil, All-map, All-weaker}
use Rattle.std.specs.Cmp.{first_so, second_so}
use Rattle.sr_cell.specs.declared.change.Change.{Change}
use Rattle.sr_cell.specs.declared.table.Table.{Table}
use Rattle.sr_cell.specs.Cells.{Row}
use Rattle.sr_cell.specs.Columns.{table_at, is_point}
use Rattle.sr_box.specs.Points.{in_any}
use Rattle.sr_message.specs.declared.message.Tell.{Tell}
use Rattle.sr_message.specs.Tells.{tell_of}
use Rattle.sr_model.specs.Changes.{changes}
use Rattle.sr_region.specs.declared.region.Region.{Region}
use Rattle.sr_region.specs.Applied.{AreTables, is_point_if_there, has_points}
use Rattle.sr_box.specs.Rows.{has_row}
use Rattle.sr_message.specs.Agree.{agree}
use Rattle.sr_region.specs.Applied as regions
use Rattle.sr_store.specs.Told.{told_of, AreTrueOf, IsTrueOf}
use Rattle.sr_store.specs.Stores.{IsStore}
use Rattle.sr_store.specs.Noticed.{told_to, IsTellOf}
use Rattle.sr_store.proofs.Noticing.{notices-true, changes-tell}
use Rattle.sr_store.proofs.Fewer.{none_store}
use Rattle.sr_store.proofs.Storing.{store-told}
use Rattle.sr_store.proofs.Telling.{only-rows}
use Rattle.sr_message.specs.declared.message.Message.{Message}
use Rattle.sr_message.specs.declared.message.Message.TheVariants.{Hello, Resume, Ask, Write, Welcome, Notice, Rows, Reply, Written, Refused, Lapse}
use Rattle.sr_session.specs.Sessions.{Database, tables_of}
use Rattle.sr_session.specs.Places.{Places, at_row, concerns}
use Rattle.sr_session.specs.Walks.{AskOut, Mirror, Passes, Request, Tells, brought, forgot, noticed, walked}
use Rattle.sr_session.specs.Clients.{mirror_of}
use Rattle.sr_session.specs.Regions.{AreAt, LaidMessagesKeepTrue, LieIn, after_messages}
use Rattle.sr_session.proofs.TakeLemmas.{passes-later}

-- ---- notices change rows alone

-- the points of a region are among these
abbrev Lies : List Table → Places → Region → Type 0
Lies schema places region = (p : Row) → is_point (table_at schema region.table).columns p ≡ true → in_any region.rects p ≡ true → places region.table region.attrs p ≡ true

pub lie-still : (schema : List Table) (places : Places) (told : List Tell) (gs : List Region) → LieIn schema places gs → LieIn schema places (map (told_to told) gs)
lie-still schema places told gs lie =
    All-map (Lies schema places) (told_to told) gs
    (All-weaker (Lies schema places) (λ region. Lies schema places (told_to told region)) (λ region h. subst (Lies schema places) (sym (only-rows told region)) h) gs lie)

-- ---- a change that concerns a region concerns its points

row-lies : (schema : List Table) (places : Places) (region : Region) → Lies schema places region → (row : Option Row) → is_point_if_there (table_at schema region.table).columns row ≡ true
    → has_row region.rects row ≡ true → at_row places region.table region.attrs row ≡ true
row-lies schema places region lie None point inside = absurd (cc)
row-lies schema places region lie (Some p) point inside = lie p point inside

same-table : (n k : ℕ) (b : Bool) → (n == k && b) ≡ true → n ≡ k
same-table n k b e = grind (arith, nat_tests)

concerned : (schema : List Table) (places : Places) (region : Region) → Lies schema places region → (c : Change) → has_points (table_at schema region.table).columns c ≡ true → regions.concerns region c ≡ true
    → concerns places region.attrs c ≡ true
concerned schema places region lie c points is =
    subst (λ t. ((at_row places t region.attrs c.before || at_row places t region.attrs c.after) && not (agree region.attrs c.before c.after)) ≡ true) (sym same) (by (has_row region.rects c.before) refl)
  where
    altered : Bool
    altered = (has_row region.rects c.before || has_row region.rects c.after) && not (agree region.attrs c.before c.after)

    same : c.table ≡ region.table
    same = same-table c.table region.table altered is

    rows : altered ≡ true
    rows = second_so (c.table == region.table) altered is

    by : (b : Bool) → has_row region.rects c.before ≡ b
        → ((at_row places region.table region.attrs c.before || at_row places region.table region.attrs c.after) && not (agree region.attrs c.before c.after)) ≡ true
    by true here =
        let lies = row-lies schema places region lie c.before (first_so (is_point_if_there (table_at schema region.table).columns c.before) (is_point_if_there (table_at schema region.table).columns c.after) points) here in
        grind (arith, lies, rows)
    by false none =
        let lies = row-lies schema places region lie c.after (second_so (is_point_if_there (table_at schema region.table).columns c.before) (is_point_if_there (table_at schema region.table).columns c.after) points)
        (grind (arith, rows, none)) in
        grind (arith, lies, rows)

-- ---- from one version to the next

one-back : (v : ℕ) → v ≡ v + 1 - 1
one-back v = omega arith

module _ (db : Database) (places : Places) where
  -- what is told of a version is of tables of the schema
  tells-are : (v : ℕ) (told : List Tell) → AreTables db.schema (tables_of db v) → AreTables db.schema (tables_of db (v + 1)) → Tells db places (v + 1) told → All (IsTellOf db.schema) told
  tells-are v told old new h =
      subst (All (IsTellOf db.schema)) (sym h.are)
      (subst (λ u. All (IsTellOf db.schema) (map tell_of (filter h.test (changes db.schema (tables_of db u) (tables_of db (v + 1)))))) (one-back v)
      (changes-tell db.schema (tables_of db v) (tables_of db (v + 1)) h.test old new))

  true-next : (v : ℕ) (told : List Tell) (gs : List Region) → AreTables db.schema (tables_of db v) → AreTables db.schema (tables_of db (v + 1)) → Tells db places (v + 1) told
      → AreAt db (record { places = places; version = v; lapsed = false; came = [] }) gs → AreTrueOf (told_of (tables_of db (v + 1))) (map (told_to told) gs)
  true-next v told gs old new h at =
      subst (λ ts. AreTrueOf (told_of (tables_of db (v + 1))) (map (told_to ts) gs)) (sym h.are)
      (subst (λ u. AreTrueOf (told_of (tables_of db (v + 1))) (map (told_to (map tell_of (filter h.test (changes db.schema (tables_of db u) (tables_of db (v + 1)))))) gs)) (one-back v)
      (notices-true db.schema (tables_of db v) (tables_of db (v + 1)) h.test gs old new at.store
      (All-weaker (Lies db.schema places) (λ r. (c : Change) → has_points (table_at db.schema r.table).columns c ≡ true → regions.concerns r c ≡ true → h.test c ≡ true)
      (λ r lie c points is. h.all c r.attrs (subst (λ t. has_points (table_at db.schema t).columns c ≡ true) (sym (same-table c.table r.table ((has_row r.rects c.before || has_row r.rects c.after) && not (agree r.attrs c.before c.after)) is)) points)
      (concerned db.schema places r lie c points is)) gs at.lie)
      at.are_true))

  next : (v : ℕ) (told : List Tell) (gs : List Region) → AreTables db.schema (tables_of db v) → AreTables db.schema (tables_of db (v + 1)) → Tells db places (v + 1) told
      → AreAt db (record { places = places; version = v; lapsed = false; came = [] }) gs → AreAt db (record { places = places; version = v + 1; lapsed = false; came = [] }) (map (told_to told) gs)
  next v told gs old new h at = record {
    store = store-told db.schema told gs at.store (tells-are v told old new h);
    lie = lie-still db.schema places told gs at.lie;
    are_true = true-next v told gs old new h at;
  }

  -- over n versions of which nothing is told
  pub quiet-on : (n v w : ℕ) (gs : List Region) → v + n ≡ w → ((u : ℕ) → u ≤ w → AreTables db.schema (tables_of db u)) → ((u : ℕ) → v < u → u ≤ w → Tells db places u [])
      → AreAt db (record { places = places; version = v; lapsed = false; came = [] }) gs → AreAt db (record { places = places; version = w; lapsed = false; came = [] }) gs
  quiet-on zero v w gs sum are quiet at =
      let same : v ≡ w = omega (arith, sum) in
      subst (λ u. AreAt db (record { places = places; version = u; lapsed = false; came = [] }) gs) same at
  quiet-on (suc n) v w gs sum are quiet at =
      quiet-on n (v + 1) w gs (omega (arith, sum)) are (λ u above below. quiet u (omega (arith, above)) below)
      (subst (AreAt db (record { places = places; version = v + 1; lapsed = false; came = [] })) (map-id gs)
      (next v [] gs (are v (omega (arith, sum))) (are (v + 1) (omega (arith, sum))) (quiet (v + 1) (omega arith) (omega (arith, sum))) at))

  pub noted : (v w : ℕ) (told : List Tell) (gs : List Region) → v < w → ((u : ℕ) → u ≤ w → AreTables db.schema (tables_of db u)) → ((u : ℕ) → v < u → u < w → Tells db places u []) → Tells db places w told
      → AreAt db (record { places = places; version = v; lapsed = false; came = [] }) gs → AreAt db (record { places = places; version = w; lapsed = false; came = [] }) (map (told_to told) gs)
  noted v w told gs later are quiet h at =
      let before : ℕ = w - 1 in
      let up : w - 1 + 1 ≡ w = omega (arith, later) in
      let mid = quiet-on (w - 1 - v) v (w - 1) gs (omega (arith, later)) (λ u below. are u (omega (arith, below))) (λ u above below. quiet u above (omega (arith, below, later))) at in
      subst (λ u. AreAt db (record { places = places; version = u; lapsed = false; came = [] }) (map (told_to told) gs)) up
      (next (w - 1) told gs (are (w - 1) (omega arith)) (are (w - 1 + 1) (omega (arith, up))) (subst (λ u. Tells db places u told) (sym up) h) mid)

-- ---- message by message

none-at : (db : Database) (m : Mirror) → IsStore db.schema [] → AreAt db m []
none-at db m store = record { store = store; lie = All-nil (Lies db.schema m.places); are_true = All-nil (IsTrueOf (told_of (tables_of db m.version))) }

pub passes-true : (db : Database) (out : Option Request) (m : Mirror) (ms : List Message) (gs : List Region) → ((u : ℕ) → u ≤ (walked m ms).version → AreTables db.schema (tables_of db u))
    → Passes db out m ms → (later : m.version ≤ (walked m ms).version) → AreAt db m gs → AreAt db (walked m ms) (after_messages ms gs)
passes-true db out m [] gs are h later at = at
passes-true db out m (Notice w told ∷ ms) gs are h later at =
    let end = passes-later db out (noticed m w) ms h.1 in
    let here = noted db m.places m.version w told gs h.0.0 (λ u below. are u (omega (arith, below, end))) h.0.1 h.0.2 (record { store = at.store; lie = at.lie; are_true = at.are_true }) in
    passes-true db out (noticed m w) ms (map (told_to told) gs) are h.1 end (record { store = here.store; lie = here.lie; are_true = here.are_true })
passes-true db out m (Lapse w ∷ ms) gs are h later at =
    passes-true db out (forgot m w) ms [] are h.1 (passes-later db out (forgot m w) ms h.1) (none-at db (forgot m w) (none_store db.schema gs at.store))
passes-true db out m (Rows k part rows ∷ ms) gs are h later at =
    passes-true db out (brought m (Rows k part rows)) ms gs are h.1 (passes-later db out (brought m (Rows k part rows)) ms h.1) (record { store = at.store; lie = at.lie; are_true = at.are_true })
passes-true db out m (Reply k w ∷ ms) gs are h later at = absurd h
passes-true db out m (Written k w ∷ ms) gs are h later at = absurd h
passes-true db out m (Refused k fault ∷ ms) gs are h later at = absurd h
passes-true db out m (Welcome k w kept ∷ ms) gs are h later at = absurd h
passes-true db out m (Hello wire client number ∷ ms) gs are h later at = absurd h
passes-true db out m (Resume wire client number version holdings ∷ ms) gs are h later at = absurd h
passes-true db out m (Ask number fresh parts ∷ ms) gs are h later at = absurd h
passes-true db out m (Write number sql ∷ ms) gs are h later at = absurd h

pub laid-messages-keep-true : LaidMessagesKeepTrue
laid-messages-keep-true db c queue session number query meaning fresh parts k w gs sound a at =
    let m = walked (mirror_of c) c.laid in
    let below = a.replies.1.0 in
    let mid = passes-true db (Some (AskOut number query meaning fresh parts)) (mirror_of c) c.laid gs (λ u under. sound.tables u (omega (arith, under, below, a.within))) a.passes
    (passes-later db (Some (AskOut number query meaning fresh parts)) (mirror_of c) c.laid a.passes) at in
    let end = quiet-on db m.places (w - m.version) m.version w (after_messages c.laid gs) (omega (arith, below)) (λ u under. sound.tables u (omega (arith, under, a.within))) a.replies.1.1
    (record { store = mid.store; lie = mid.lie; are_true = mid.are_true }) in
    record { store = end.store; lie = end.lie; are_true = end.are_true }
