-- How many messages a server answers one frame with.
use Rattle.std.proofs.Common.{◌≡◌, ℕ, zero, suc, ◌+◌, ◌-◌, ◌<◌, ◌≤◌, Bool, true, false, List, [], ◌∷◌, ◌++◌, cond, length, map, drop, refl, sym, ◌∙◌, ap, subst, arith, Option, Some, None, append_assoc, length-append, length-drop}
use Rattle.std.specs.Prelude.{◌*◌, ◌&&◌, ◌==◌, not, nat_lt, nat_le, filter, Result, Ok, Err}
use Rattle.std.specs.List.{list_all}
use Rattle.std.proofs.lemmas.Bool.Decides.{nat_tests}
use Rattle.std.proofs.lemmas.List.Sums.{count_by-le-length, length-filter, sum_by-cons}
use Rattle.sr_cell.specs.declared.change.Change.{Change}
use Rattle.sr_cell.specs.declared.fault.Fault.{Fault}
use Rattle.sr_cell.specs.declared.table.Table.{Table}
use Rattle.sr_cell.specs.Attrs.{project}
use Rattle.sr_cell.specs.Cells.{Row}
use Rattle.sr_box.specs.Points.{Rect, in_any}
use Rattle.sr_box.specs.Rows.{has_row}
use Rattle.sr_union.specs.Search.{is_nothing}
use Rattle.sr_message.specs.declared.message.AskPart.{AskPart}
use Rattle.sr_message.specs.declared.message.Holding.{Holding}
use Rattle.sr_message.specs.declared.message.Message.{Message}
use Rattle.sr_message.specs.declared.message.Message.TheVariants.{Hello, Resume, Ask, Write, Welcome, Notice, Rows, Reply, Written, Refused, Lapse}
use Rattle.sr_message.specs.declared.message.Tell.{Tell}
use Rattle.sr_message.specs.Tells.{tell_of}
use Rattle.sr_model.specs.Changes.{changes, changes_at, version_at}
use Rattle.sr_model.specs.Queries.{rows_at}
use Rattle.sr_model.specs.Statements.{Tables}
use Rattle.sr_log.specs.Kept.{total, kept}
use Rattle.sr_log.proofs.Least.{kept-fits}
use Rattle.sr_subs.specs.Subscription.{touches}
use Rattle.sr_session.specs.Scenes.{taken}
use Rattle.sr_session.specs.Sessions.{Database, Session, all_changes, asked_rows, due, due_if, floor_of, is_lost, newest, notice, notices, pieces, reply_messages, row_messages, serve_resume, subscribes_some, tables_of, told_at, with_version}
use Rattle.sr_session.specs.Walks.{IsLaid, AreLaid}
use Rattle.sr_session.specs.Clients.{Client}
use Rattle.sr_session.specs.Rules.{sent_of}
use Rattle.sr_links.specs.Counts.{AreShortAsks, AskFew, HasFewRows, IsShortAsk, LayFew}
use Rattle.sr_links.specs.Honest.{Server, Input, Version, Frame, CutOff, answer, frames_of, server_after}
use Rattle.sr_links.specs.Steps.{Step, past_after, requests_of}
use Rattle.sr_links.proofs.DatabaseLemmas.{Grows, grows-on, answer-more, after-more}

-- ---- a list of messages of which the last alone may end a request

abbrev pub AreLaidFirst : List Message → Type 0
AreLaidFirst [] = Unit {0}
AreLaidFirst (m ∷ []) = Unit {0}
AreLaidFirst (m ∷ x ∷ ms) = IsLaid m × AreLaidFirst (x ∷ ms)

laid-append : (xs ys : List Message) → AreLaid xs → AreLaid ys → AreLaid (xs ++ ys)
laid-append [] ys a b = b
laid-append (x ∷ xs) ys (one, more) b = (one, laid-append xs ys more b)

laid-then : (xs : List Message) (last : Message) → AreLaid xs → AreLaidFirst (xs ++ last ∷ [])
laid-then [] last laid = tt
laid-then (x ∷ []) last laid = (laid.0, tt)
laid-then (x ∷ y ∷ xs) last (one, more) = (one, laid-then (y ∷ xs) last more)

pub laid-tail : (m : Message) (queue : List Message) → AreLaidFirst (m ∷ queue) → AreLaidFirst queue
laid-tail m [] h = tt
laid-tail m (x ∷ queue) h = h.1

pub last-alone : (m : Message) (queue : List Message) → AreLaidFirst (m ∷ queue) → (IsLaid m → ⊥) → queue ≡ []
last-alone m [] h ends = refl
last-alone m (x ∷ queue) h ends = absurd (ends h.0)

notice-laid : (v : ℕ) (told : List Tell) → AreLaid (notice v told)
notice-laid v [] = tt
notice-laid v (tell ∷ told) = (tt, tt)

notices-laid : (db : Database) (subs : List Holding) (v n : ℕ) → AreLaid (notices db subs v n)
notices-laid db subs v zero = tt
notices-laid db subs v (suc n) =
    laid-append (notice (v + 1) (told_at db subs (v + 1))) (notices db subs (v + 1) n) (notice-laid (v + 1) (told_at db subs (v + 1))) (notices-laid db subs (v + 1) n)

due-laid : (lost : Bool) (db : Database) (session : Session) → AreLaid (due_if lost db session).sent
due-laid true db session = (tt, tt)
due-laid false db session = notices-laid db session.subscription session.upto (newest db - session.upto)

pieces-laid : (number i : ℕ) (ps : List (List Row)) → AreLaid (map (Rows number i) ps)
pieces-laid number i [] = tt
pieces-laid number i (p ∷ ps) = (tt, pieces-laid number i ps)

rows-laid : (tables : Tables) (number i : ℕ) (parts : List AskPart) → AreLaid (row_messages tables number i parts)
rows-laid tables number i [] = tt
rows-laid tables number i (ask ∷ asks) =
    laid-append (map (Rows number i) (pieces (length (asked_rows tables ask)) (asked_rows tables ask))) (row_messages tables number (i + 1) asks)
    (pieces-laid number i (pieces (length (asked_rows tables ask)) (asked_rows tables ask))) (rows-laid tables number (i + 1) asks)

-- ---- notices

notice-few : (v : ℕ) (told : List Tell) → length (notice v told) ≤ length told
notice-few v [] = omega arith
notice-few v (tell ∷ told) = omega arith

told-few : (subs : List Holding) (cs : List Change) → length (map tell_of (filter (touches subs) cs)) ≤ length cs
told-few subs [] = omega arith
told-few subs (c ∷ cs) = by (touches subs c) (told-few subs cs)
  where
    by : (b : Bool) → length (map tell_of (filter (touches subs) cs)) ≤ length cs → length (map tell_of (cond b (c ∷ filter (touches subs) cs) (filter (touches subs) cs))) ≤ suc (length cs)
    by true le = omega (arith, le)
    by false le = omega (arith, le)

-- the changes behind a version are those of the next one and those behind it
sum-split : (schema : List Table) (versions : List Tables) (v : ℕ) → suc v < length versions
    → total (drop v (all_changes schema versions)) ≡ length (changes schema (version_at versions v) (version_at versions (suc v))) + total (drop (suc v) (all_changes schema versions))
sum-split schema [] v below = absurd (omega (arith, below))
sum-split schema (old ∷ []) v below = absurd (omega (arith, below))
sum-split schema (old ∷ new ∷ versions) zero below = sum_by-cons length (changes schema old new) (all_changes schema (new ∷ versions))
sum-split schema (old ∷ new ∷ versions) (suc v) below = sum-split schema (new ∷ versions) v (omega (arith, below))

-- no more notices than there are changes behind the version
notices-few : (db : Database) (subs : List Holding) (n v : ℕ) → v + n ≤ newest db → length (notices db subs v n) ≤ total (drop v (all_changes db.schema db.versions))
notices-few db subs zero v within = omega arith
notices-few db subs (suc n) v within =
    let after : v + 1 ≡ suc v = omega arith in
    let back : v + 1 - 1 ≡ v = omega arith in
    let one = notice-few (v + 1) (told_at db subs (v + 1)) in
    let told = told-few subs (changes_at db.schema db.versions (v + 1)) in
    let ih = subst (λ u. length (notices db subs (v + 1) n) ≤ total (drop u (all_changes db.schema db.versions))) after (notices-few db subs n (v + 1) (omega (arith, within))) in
    let split = sum-split db.schema db.versions v (omega (arith, within)) in
    let at : changes_at db.schema db.versions (v + 1) ≡ changes db.schema (version_at db.versions v) (version_at db.versions (suc v)) =
    ap (λ u. changes db.schema (version_at db.versions u) (version_at db.versions (v + 1))) back ∙ ap (λ u. changes db.schema (version_at db.versions v) (version_at db.versions u)) after in
    let same = ap length at in
    omega (arith, one, told, ih, split, same, length-append (notice (v + 1) (told_at db subs (v + 1))) (notices db subs (v + 1) n))

-- fewer changes are behind a later version
drop-fewer : (all : List (List Change)) (u v : ℕ) → u ≤ v → total (drop v all) ≤ total (drop u all)
drop-fewer [] zero zero le = omega arith
drop-fewer [] zero (suc v) le = omega arith
drop-fewer [] (suc u) zero le = absurd (omega (arith, le))
drop-fewer [] (suc u) (suc v) le = omega arith
drop-fewer (x ∷ all) zero zero le = omega arith
drop-fewer (x ∷ all) zero (suc v) le = let ih = drop-fewer all zero v (omega arith) in omega (arith, ih, sum_by-cons length x all)
drop-fewer (x ∷ all) (suc u) zero le = absurd (omega (arith, le))
drop-fewer (x ∷ all) (suc u) (suc v) le = drop-fewer all u v (omega (arith, le))

-- behind a version that the log reaches there are no more changes than it keeps
kept-few : (db : Database) (subs : List Holding) (v : ℕ) → floor_of db ≤ v → length (notices db subs v (newest db - v)) ≤ db.log_limit
kept-few db subs v reaches = by (nat_le v (newest db)) refl
  where
    fits : total (kept db.log_limit (all_changes db.schema db.versions)) ≤ db.log_limit
    fits = kept-fits db.log_limit (all_changes db.schema db.versions)

    by : (b : Bool) → nat_le v (newest db) ≡ b → length (notices db subs v (newest db - v)) ≤ db.log_limit
    by true e =
        let below : v ≤ newest db = grind (arith, nat_tests, e) in
        let few = notices-few db subs (newest db - v) v (omega (arith, below)) in
        let fewer = drop-fewer (all_changes db.schema db.versions) (floor_of db) v reaches in
        omega (arith, few, fewer, fits)
    by false e =
        let above : newest db < v = grind (arith, nat_tests, e) in
        let none : newest db - v ≡ 0 = omega (arith, above) in
        subst (λ n. length (notices db subs v n) ≤ db.log_limit) (sym none) (omega arith)

-- ---- a session that subscribes nothing

none-touches : (subs : List Holding) (c : Change) → list_all (λ h. is_nothing h.rects) subs ≡ true → touches subs c ≡ false
none-touches [] c all = refl
none-touches (h ∷ subs) c all = by h.rects refl (none-touches subs c)
  where
    none : (row : Option Row) → has_row [] row ≡ false
    none None = refl
    none (Some p) = refl

    never : (b : Bool) → (b && false) ≡ false
    never true = refl
    never false = refl

    by : (rects : List Rect) → h.rects ≡ rects → (list_all (λ h. is_nothing h.rects) subs ≡ true → touches subs c ≡ false) → touches (h ∷ subs) c ≡ false
    by [] is ih =
        let rest : touches subs c ≡ false = ih (let both : (is_nothing h.rects && list_all (λ h. is_nothing h.rects) subs) ≡ true = all in grind (arith, both)) in
        let before : has_row h.rects c.before ≡ false = ap (λ rs. has_row rs c.before) is ∙ none c.before in
        let after : has_row h.rects c.after ≡ false = ap (λ rs. has_row rs c.after) is ∙ none c.after in
        rw (before, after, never (h.table == c.table), rest) refl
    by (r ∷ rects) is ih = absurd (let wrong : (is_nothing (r ∷ rects) && list_all (λ h. is_nothing h.rects) subs) ≡ true = ap (λ rs. is_nothing rs && list_all (λ h. is_nothing h.rects) subs) (sym is) ∙ all in cc)

none-told : (subs : List Holding) (cs : List Change) → list_all (λ h. is_nothing h.rects) subs ≡ true → filter (touches subs) cs ≡ []
none-told subs [] all = refl
none-told subs (c ∷ cs) all = rw (none-touches subs c all) (none-told subs cs all)

none-noticed : (db : Database) (subs : List Holding) (n v : ℕ) → list_all (λ h. is_nothing h.rects) subs ≡ true → notices db subs v n ≡ []
none-noticed db subs zero v all = refl
none-noticed db subs (suc n) v all =
    ap (λ cs. notice (v + 1) (map tell_of cs) ++ notices db subs (v + 1) n) (none-told subs (changes_at db.schema db.versions (v + 1)) all) ∙ none-noticed db subs n (v + 1) all

-- ---- what is due

due-few : (db : Database) (session : Session) → length (due db session).sent ≤ db.log_limit + 1
due-few db session = by (subscribes_some session.subscription) (nat_lt session.upto (floor_of db)) refl refl
  where
    by : (some before : Bool) → subscribes_some session.subscription ≡ some → nat_lt session.upto (floor_of db) ≡ before → length (due db session).sent ≤ db.log_limit + 1
    by true true e f =
        let lost : is_lost db session ≡ true = rw (e, f) refl in
        subst (λ b. length (due_if b db session).sent ≤ db.log_limit + 1) (sym lost) (omega arith)
    by true false e f =
        let kept : is_lost db session ≡ false = rw (e, f) refl in
        let few = kept-few db session.subscription session.upto (grind (arith, nat_tests, f)) in
        subst (λ b. length (due_if b db session).sent ≤ db.log_limit + 1) (sym kept) (omega (arith, few))
    by false before e f =
        let kept : is_lost db session ≡ false = rw e refl in
        let bare : list_all (λ h. is_nothing h.rects) session.subscription ≡ true = un-not (list_all (λ h. is_nothing h.rects) session.subscription) e in
        subst (λ b. length (due_if b db session).sent ≤ db.log_limit + 1) (sym kept)
        (subst (λ ms. length ms ≤ db.log_limit + 1) (sym (none-noticed db session.subscription (newest db - session.upto) session.upto bare)) (omega arith))
      where
        un-not : (b : Bool) → not b ≡ false → b ≡ true
        un-not true h = refl
        un-not false h = absurd (cc)

resume-few : (db : Database) (version : ℕ) (holdings : List Holding) → (nat_le version (newest db) && nat_le (floor_of db) version) ≡ true → length (notices db holdings version (newest db - version)) ≤ db.log_limit
resume-few db version holdings reaches = kept-few db holdings version (grind (arith, nat_tests, reaches))

-- ---- rows

-- so many pieces of 256 rows
pieces-few : (n : ℕ) (rows : List Row) → 256 * length (pieces n rows) ≤ length rows + 255
pieces-few n [] = omega arith
pieces-few zero (row ∷ rows) = omega arith
pieces-few (suc n) (row ∷ rows) = let ih = pieces-few n (drop 255 rows) in omega (arith, ih, length-drop 255 rows)

map-count : {X Y : Type 0} (f : X → Y) (xs : List X) → length (map f xs) ≡ length xs
map-count {X} {Y} f [] = refl
map-count {X} {Y} f (x ∷ xs) = ap suc (map-count f xs)

asked-few : (tables : Tables) (ask : AskPart) → length (asked_rows tables ask) ≤ length (rows_at tables ask.table)
asked-few tables ask =
    let same = map-count (project ask.attrs) (filter (in_any ask.rects) (rows_at tables ask.table)) in
    let counted = length-filter (in_any ask.rects) (rows_at tables ask.table) in
    let fewer = count_by-le-length (in_any ask.rects) (rows_at tables ask.table) in
    omega (arith, same, counted, fewer)

rows-few : (tables : Tables) → ((t : ℕ) → length (rows_at tables t) ≤ 65536) → (number i : ℕ) (parts : List AskPart) → length (row_messages tables number i parts) ≤ 256 * length parts
rows-few tables few number i [] = omega arith
rows-few tables few number i (ask ∷ asks) =
    let ps = pieces (length (asked_rows tables ask)) (asked_rows tables ask) in
    let count = pieces-few (length (asked_rows tables ask)) (asked_rows tables ask) in
    let rows = asked-few tables ask in
    let most = few ask.table in
    let mapped = map-count (Rows number i) ps in
    let ih = rows-few tables few number (i + 1) asks in
    omega (arith, count, rows, most, mapped, ih, length-append (map (Rows number i) ps) (row_messages tables number (i + 1) asks))

-- ---- one frame

-- What one frame is answered with: so few, and only the last may end a request.
pub record IsShortAnswer (sent : List Message) : Type 0 where
  pub few : length sent ≤ 501026
  pub ends : AreLaidFirst sent

nothing-sent : IsShortAnswer []
nothing-sent = record { few = omega arith; ends = tt }

one-sent : (m : Message) → IsShortAnswer (m ∷ [])
one-sent m = record { few = omega arith; ends = tt }

module _ (db : Database) (limit : db.log_limit ≤ 500000) where
  reply-short : HasFewRows db → (number : ℕ) (parts : List AskPart) → length parts ≤ 4 → (before : List Message) → AreLaid before → length before ≤ 500001 → IsShortAnswer (before ++ reply_messages db number parts)
  reply-short rows number parts short before laid few =
      let asked = row_messages (tables_of db (newest db)) number 0 parts in
      let most = rows-few (tables_of db (newest db)) (rows (newest db) (omega arith)) number 0 parts in
      record {
        few = omega (arith, most, short, few, length-append before (asked ++ Reply number (newest db) ∷ []), length-append asked (Reply number (newest db) ∷ []));
        ends = subst AreLaidFirst (append_assoc before asked (Reply number (newest db) ∷ [])) (laid-then (before ++ asked) (Reply number (newest db)) (laid-append before asked laid (rows-laid (tables_of db (newest db)) number 0 parts)));
      }

  due-short : (session : Session) (last : Message) → IsShortAnswer ((due db session).sent ++ last ∷ [])
  due-short session last =
      let few = due-few db session in
      record { few = omega (arith, few, limit, length-append (due db session).sent (last ∷ [])); ends = laid-then (due db session).sent last (due-laid (is_lost db session) db session) }

  resume-short : (wire number version : ℕ) (holdings : List Holding) → IsShortAnswer (serve_resume db wire number version holdings).sent
  resume-short wire number version holdings = by (nat_le version (newest db) && nat_le (floor_of db) version) refl
    where
      by : (b : Bool) → (nat_le version (newest db) && nat_le (floor_of db) version) ≡ b → IsShortAnswer (serve_resume db wire number version holdings).sent
      by true e =
          let told = notices db holdings version (newest db - version) in
          let few = resume-few db version holdings e in
          rw e (record {
            few = omega (arith, few, limit, length-append told (Welcome number (newest db) true ∷ []));
            ends = laid-then told (Welcome number (newest db) true) (notices-laid db holdings version (newest db - version));
          })
      by false e = rw e (one-sent (Welcome number (newest db) false))

  ask-short : HasFewRows db → (session : Session) (number : ℕ) (fresh : Bool) (parts : List AskPart) (result : Result Tables Fault) → length parts ≤ 4 → IsShortAnswer (taken db (Some session) (Ask number fresh parts) result).served.sent
  ask-short rows session number true parts result short = reply-short rows number parts short [] tt (omega arith)
  ask-short rows session number false parts result short =
      let few = due-few db session in
      reply-short rows number parts short (due db session).sent (due-laid (is_lost db session) db session) (omega (arith, few, limit))

pub frame-short : (db : Database) (session : Option Session) (m : Message) (result : Result Tables Fault) → db.log_limit ≤ 500000 → HasFewRows db → IsShortAsk m → IsShortAnswer (taken db session m result).served.sent
frame-short db None (Hello wire client k) result limit rows short = one-sent (Welcome k (newest db) false)
frame-short db (Some session) (Hello wire client k) result limit rows short = nothing-sent
frame-short db None (Resume wire client k version holdings) result limit rows short = resume-short db limit wire k version holdings
frame-short db (Some session) (Resume wire client k version holdings) result limit rows short = nothing-sent
frame-short db None (Ask k fresh parts) result limit rows short = nothing-sent
frame-short db (Some session) (Ask k fresh parts) result limit rows short = ask-short db limit rows session k fresh parts result short
frame-short db None (Write k sql) result limit rows short = nothing-sent
frame-short db (Some session) (Write k sql) (Ok tables) limit rows short = due-short (with_version db tables) limit session (Written k (newest (with_version db tables)))
frame-short db (Some session) (Write k sql) (Err fault) limit rows short = one-sent (Refused k fault)
frame-short db None (Welcome k w kept) result limit rows short = nothing-sent
frame-short db (Some session) (Welcome k w kept) result limit rows short = nothing-sent
frame-short db None (Notice w told) result limit rows short = nothing-sent
frame-short db (Some session) (Notice w told) result limit rows short = nothing-sent
frame-short db None (Rows k part rs) result limit rows short = nothing-sent
frame-short db (Some session) (Rows k part rs) result limit rows short = nothing-sent
frame-short db None (Reply k w) result limit rows short = nothing-sent
frame-short db (Some session) (Reply k w) result limit rows short = nothing-sent
frame-short db None (Written k w) result limit rows short = nothing-sent
frame-short db (Some session) (Written k w) result limit rows short = nothing-sent
frame-short db None (Refused k fault) result limit rows short = nothing-sent
frame-short db (Some session) (Refused k fault) result limit rows short = nothing-sent
frame-short db None (Lapse w) result limit rows short = nothing-sent
frame-short db (Some session) (Lapse w) result limit rows short = nothing-sent

-- ---- a list of inputs

-- each input is answered so
abbrev pub AreShortAnswers : Server → List Input → Type 0
AreShortAnswers s [] = Unit {0}
AreShortAnswers s (input ∷ inputs) = IsShortAnswer (answer s input).sent × AreShortAnswers (answer s input).server inputs

frame-log : (db : Database) (session : Option Session) (m : Message) (result : Result Tables Fault) → (taken db session m result).database.log_limit ≡ db.log_limit
frame-log db None m result = refl
frame-log db (Some session) (Write k sql) (Ok tables) = refl
frame-log db (Some session) (Write k sql) (Err fault) = refl
frame-log db (Some session) (Hello wire client k) result = refl
frame-log db (Some session) (Resume wire client k version holdings) result = refl
frame-log db (Some session) (Ask k fresh parts) result = refl
frame-log db (Some session) (Welcome k version kept) result = refl
frame-log db (Some session) (Notice version told) result = refl
frame-log db (Some session) (Rows k part rows) result = refl
frame-log db (Some session) (Reply k version) result = refl
frame-log db (Some session) (Written k version) result = refl
frame-log db (Some session) (Refused k fault) result = refl
frame-log db (Some session) (Lapse version) result = refl

answer-log : (s : Server) (input : Input) → (answer s input).server.database.log_limit ≡ s.database.log_limit
answer-log s (Version tables) = refl
answer-log s (Frame m result) = frame-log s.database s.session m result
answer-log s CutOff = refl

pub after-log : (s : Server) (inputs : List Input) → (server_after s inputs).database.log_limit ≡ s.database.log_limit
after-log s [] = refl
after-log s (input ∷ inputs) = after-log (answer s input).server inputs ∙ answer-log s input

rows-before : (db all : Database) → Grows db all → HasFewRows all → HasFewRows db
rows-before db all grows rows v le t =
    let more = grows.more in
    subst (λ tables. length (rows_at tables t) ≤ 65536) (grows.same v le) (rows v (omega (arith, le, more)) t)

-- all answers of such a server are short, where its frames ask few parts
pub short-answers : (inputs : List Input) (s : Server) (all : Database) → 0 < length s.database.versions → Grows (server_after s inputs).database all → s.database.log_limit ≤ 500000 → HasFewRows all
    → AreShortAsks (frames_of inputs) → AreShortAnswers s inputs
short-answers [] s all some grows limit rows asks = tt
short-answers (Version tables ∷ inputs) s all some grows limit rows asks =
    (nothing-sent, short-answers inputs (answer s (Version tables)).server all (answer-more s (Version tables) some).some grows limit rows asks)
short-answers (CutOff ∷ inputs) s all some grows limit rows asks = (nothing-sent, short-answers inputs (answer s CutOff).server all some grows limit rows asks)
short-answers (Frame m result ∷ inputs) s all some grows limit rows (one, asks) =
    let now = grows-on s.database (server_after s (Frame m result ∷ inputs)).database all (after-more s (Frame m result ∷ inputs) some).grows grows in (
      frame-short s.database s.session m result limit (rows-before s.database all now rows) one,
      short-answers inputs (answer s (Frame m result)).server all (answer-more s (Frame m result) some).some grows (subst (λ n. n ≤ 500000) (sym (frame-log s.database s.session m result)) limit) rows asks,
    )

-- ---- asks of steps

pub asks-front : (xs ys : List Message) → AreShortAsks (xs ++ ys) → AreShortAsks xs
asks-front [] ys h = tt
asks-front (x ∷ xs) ys (one, more) = (one, asks-front xs ys more)

asks-append : (xs ys : List Message) → AreShortAsks xs → AreShortAsks ys → AreShortAsks (xs ++ ys)
asks-append [] ys a b = b
asks-append (x ∷ xs) ys (one, more) b = (one, asks-append xs ys more b)

module _ {C : Type 0} where
  pub requests-short : (steps : List (Step C)) → AskFew steps → AreShortAsks (requests_of steps)
  requests-short [] h = tt
  requests-short (step ∷ steps) (one, more) = asks-append (sent_of step.outcome) (requests_of steps) one (requests-short steps more)

  pub few-front : (xs ys : List (Step C)) → AskFew (xs ++ ys) → AskFew xs
  few-front [] ys h = tt
  few-front (x ∷ xs) ys (one, more) = (one, few-front xs ys more)

  pub few-back : (xs ys : List (Step C)) → AskFew (xs ++ ys) → AskFew ys
  few-back [] ys h = h
  few-back (x ∷ xs) ys (one, more) = few-back xs ys more

  pub lay-append : (c : Client) (xs ys : List (Step C)) → LayFew c xs → LayFew (past_after c xs) ys → LayFew c (xs ++ ys)
  lay-append c [] ys a b = b
  lay-append c (x ∷ xs) ys (one, more) b = (one, lay-append x.past xs ys more b)
