-- What is made of a log's entries is what is due.
use Rattle.std.proofs.Common.{◌≡◌, ℕ, zero, suc, ◌+◌, ◌-◌, ◌<◌, ◌≤◌, Bool, true, false, List, [], ◌∷◌, ◌++◌, map, length, drop, refl, sym, ◌∙◌, ap, subst, arith, append-nil, length-drop, slice_index_or}
use Rattle.std.specs.Prelude.{◌==◌, filter, not, ◌&&◌, nat_lt, IsTrue, ◌↔◌, if◌then◌else◌, Option, Some, None}
use Rattle.std.specs.List.{list_all, list_any, AllByRecursion}
use Rattle.std.proofs.lemmas.Bool.Decides.{nat_tests}
use Rattle.std.proofs.lemmas.List.{drop-drop, drop_all, drop_more, get_or-drop}
use Rattle.std.proofs.lemmas.Bool.{lt-ltb}
use Rattle.sr_union.specs.Search.{is_nothing}
use Rattle.sr_cell.specs.declared.change.Change.{Change}
use Rattle.sr_cell.specs.declared.table.Table.{Table}
use Rattle.sr_cell.specs.Cells.{Row}
use Rattle.sr_box.specs.Points.{Rect}
use Rattle.sr_box.specs.Rows.{has_row}
use Rattle.sr_message.specs.declared.message.Holding.{Holding}
use Rattle.sr_subs.specs.Subscription.{has_point, touches, FitsSome}
use Rattle.sr_subs.proofs.Empty.{empty_where_bare}
use Rattle.sr_message.specs.declared.message.Tell.{Tell}
use Rattle.sr_message.specs.Tells.{tell_of}
use Rattle.sr_log.specs.declared.entry.Entry.{Entry}
use Rattle.sr_log.specs.Held.{Held, KeepsNewest, numbered, entries_above}
use Rattle.sr_log.specs.Held as log
use Rattle.sr_log.specs.Kept.{floor}
use Rattle.sr_model.specs.Statements.{Tables}
use Rattle.sr_model.specs.Changes.{changes, version_at, changes_at}
use Rattle.sr_message.specs.declared.message.Message.{Message}
use Rattle.sr_message.specs.declared.message.Message.TheVariants.{Notice, Lapse}
use Rattle.sr_session.specs.Sessions.{Database, Session, all_changes, closing, closing_if, due, due_if, floor_of, is_lost, newest, notice, notices, pushed, subscribes_some, told_at}
use Rattle.sr_log.proofs.Least.{floor-within}
use Rattle.sr_session.proofs.SendLemmas.{changes-count, floor-below}
use Rattle.sr_outbox.specs.Noticed.{noticed}
use Rattle.sr_server.specs.Noticed.{last_changes}
use Rattle.sr_server.specs.Servers.{Logs}

-- ---- entries above a version

first-above : (v f : ℕ) → v ≤ f → nat_lt v (f + 1) ≡ true
first-above v f le = grind (arith, nat_tests, le)

first-below : (v f : ℕ) → f < v → nat_lt v (f + 1) ≡ false
first-below v f lt = grind (arith, nat_tests, lt)

all-above : (v f : ℕ) (kept : List (List Change)) → v ≤ f → filter (λ (e : Entry). nat_lt v e.version) (numbered f kept) ≡ numbered f kept
all-above v f [] le = refl
all-above v f (cs ∷ kept) le = rw (first-above v f le) (ap (λ es. record { version = f + 1; changes = cs } ∷ es) (all-above v (f + 1) kept (omega (arith, le))))

nothing-numbered : (v n : ℕ) → numbered v (drop n []) ≡ []
nothing-numbered v zero = refl
nothing-numbered v (suc n) = refl

above : (v : ℕ) (kept : List (List Change)) (f : ℕ) → f ≤ v → filter (λ (e : Entry). nat_lt v e.version) (numbered f kept) ≡ numbered v (drop (v - f) kept)
above v [] f le = sym (nothing-numbered v (v - f))
above v (cs ∷ kept) f le = go (nat_lt f v) refl (λ lt. above v kept (f + 1) (omega (arith, lt)))
  where
    later : f < v → numbered v (drop (v - (f + 1)) kept) ≡ numbered v (drop (v - f) (cs ∷ kept))
    later lt =
        let one : v - f ≡ suc (v - (f + 1)) = omega (arith, lt) in
        sym (ap (λ n. numbered v (drop n (cs ∷ kept))) one)

    go : (b : Bool) → nat_lt f v ≡ b → (f < v → filter (λ (e : Entry). nat_lt v e.version) (numbered (f + 1) kept) ≡ numbered v (drop (v - (f + 1)) kept))
        → filter (λ (e : Entry). nat_lt v e.version) (numbered f (cs ∷ kept)) ≡ numbered v (drop (v - f) (cs ∷ kept))
    go true e ih = let lt : f < v = grind (arith, nat_tests, e) in rw (first-below v f lt) (ih lt ∙ later lt)
    go false e ih =
        let same : f ≡ v = grind (arith, nat_tests, e, le) in
        let none : v - f ≡ 0 = omega (arith, same) in
        all-above v f (cs ∷ kept) (omega (arith, same)) ∙ (ap (λ n. numbered n (cs ∷ kept)) same ∙ sym (ap (λ n. numbered v (drop n (cs ∷ kept))) none))

-- the log has the newest of all
pub entries-are : (limit v : ℕ) (all : List (List Change)) (held : Held) → KeepsNewest limit all held → held.floor ≤ v → entries_above v held ≡ numbered v (drop v all)
entries-are limit v all held keeps le =
    above v held.kept held.floor le
    ∙ ap (numbered v) (ap (drop (v - held.floor)) (keeps.1 ∙ ap (λ n. drop n all) (sym keeps.2))
    ∙ (drop-drop (v - held.floor) held.floor all ∙ ap (λ n. drop n all) (let e : held.floor + (v - held.floor) ≡ v = omega (arith, le) in e)))

pub newest-is : (db : Database) (held : Held) → Logs db held → log.newest held ≡ newest db
newest-is db held keeps =
    let all : List (List Change) = all_changes db.schema db.versions in
    let count = changes-count db.schema db.versions in
    let few = floor-within db.log_limit (all_changes db.schema db.versions) in
    let kept : length held.kept ≡ length (all_changes db.schema db.versions) - floor db.log_limit (all_changes db.schema db.versions) = ap length keeps.1 ∙ length-drop (floor db.log_limit (all_changes db.schema db.versions)) (all_changes db.schema db.versions) in
    let at : held.floor ≡ floor db.log_limit (all_changes db.schema db.versions) = keeps.2 in
    omega (arith, count, few, kept, at)

-- ---- one version after another

changes-are : (schema : List Table) (versions : List Tables) (v : ℕ) → v + 1 < length versions → slice_index_or (all_changes schema versions) v [] ≡ changes schema (version_at versions v) (version_at versions (v + 1))
changes-are schema [] v below = absurd (omega (arith, below))
changes-are schema (old ∷ []) v below = absurd (omega (arith, below))
changes-are schema (old ∷ new ∷ versions) zero below = refl
changes-are schema (old ∷ new ∷ versions) (suc v) below =
    let next : suc (v + 1) ≡ suc v + 1 = omega arith in
    changes-are schema (new ∷ versions) v (omega (arith, below))
    ∙ ap (λ u. changes schema (version_at (new ∷ versions) v) (version_at (old ∷ new ∷ versions) u)) next

told-are : (db : Database) (v : ℕ) → v < length (all_changes db.schema db.versions) → slice_index_or (all_changes db.schema db.versions) v [] ≡ changes_at db.schema db.versions (v + 1)
told-are db v below =
    let count = changes-count db.schema db.versions in
    let back : v ≡ v + 1 - 1 = omega arith in
    changes-are db.schema db.versions v (omega (arith, below, count)) ∙ ap (λ u. changes db.schema (version_at db.versions u) (version_at db.versions (v + 1))) back

pub noticed-are : (db : Database) (subs : List Holding) (n v : ℕ) → v + n ≡ length (all_changes db.schema db.versions) → noticed subs (numbered v (drop v (all_changes db.schema db.versions))) ≡ notices db subs v n
noticed-are db subs zero v sum =
    let none : drop v (all_changes db.schema db.versions) ≡ [] = drop_all v (all_changes db.schema db.versions) (omega (arith, sum)) in
    ap (λ all. noticed subs (numbered v all)) none
noticed-are db subs (suc n) v sum =
    let below : v < length (all_changes db.schema db.versions) = omega (arith, sum) in
    let first : drop v (all_changes db.schema db.versions) ≡ slice_index_or (all_changes db.schema db.versions) v [] ∷ drop (v + 1) (all_changes db.schema db.versions) = drop_more (all_changes db.schema db.versions) v [] below in
    ap (λ all. noticed subs (numbered v all)) first
    ∙ (ap (λ cs. notice (v + 1) (map tell_of (filter (touches subs) cs)) ++ noticed subs (numbered (v + 1) (drop (v + 1) (all_changes db.schema db.versions)))) (told-are db v below)
    ∙ ap (λ ms. notice (v + 1) (told_at db subs (v + 1)) ++ ms) (noticed-are db subs n (v + 1) (omega (arith, sum))))

pub entries-noticed : (db : Database) (held : Held) (subs : List Holding) (v : ℕ) → Logs db held → held.floor ≤ v → v ≤ newest db → noticed subs (entries_above v held) ≡ notices db subs v (newest db - v)
entries-noticed db held subs v keeps le up =
    let count = changes-count db.schema db.versions in
    ap (noticed subs) (entries-are db.log_limit v (all_changes db.schema db.versions) held keeps le) ∙ noticed-are db subs (newest db - v) v (omega (arith, up, count))

-- ---- nothing subscribed

bare-touches : (subs : List Holding) (c : Change) → list_all (λ h. is_nothing h.rects) subs ≡ true → touches subs c ≡ false
bare-touches [] c all = refl
bare-touches (h ∷ subs) c all = by h.rects refl (bare-touches subs c)
  where
    none : (row : Option Row) → has_row [] row ≡ false
    none None = refl
    none (Some p) = refl

    never : (b : Bool) → (b && false) ≡ false
    never true = refl
    never false = refl

    by : (rects : List Rect) → h.rects ≡ rects → (list_all (λ h. is_nothing h.rects) subs ≡ true → touches subs c ≡ false) → touches (h ∷ subs) c ≡ false
    by [] is ih =
        let rest = ih (let both : (is_nothing h.rects && list_all (λ h. is_nothing h.rects) subs) ≡ true = all in grind (arith, both)) in
        let before : has_row h.rects c.before ≡ false = ap (λ rs. has_row rs c.before) is ∙ none c.before in
        let after : has_row h.rects c.after ≡ false = ap (λ rs. has_row rs c.after) is ∙ none c.after in
        rw (before, after, never (h.table == c.table), rest) refl
    by (r ∷ rects) is ih = absurd (let wrong : (is_nothing (r ∷ rects) && list_all (λ h. is_nothing h.rects) subs) ≡ true = ap (λ rs. is_nothing rs && list_all (λ h. is_nothing h.rects) subs) (sym is) ∙ all in cc)

none-touch : (subs : List Holding) (cs : List Change) → list_all (λ h. is_nothing h.rects) subs ≡ true → filter (touches subs) cs ≡ []
none-touch subs [] all = refl
none-touch subs (c ∷ cs) all = rw (bare-touches subs c all) (none-touch subs cs all)

pub none-noticed : (db : Database) (subs : List Holding) (v n : ℕ) → list_all (λ h. is_nothing h.rects) subs ≡ true → notices db subs v n ≡ []
none-noticed db subs v zero all = refl
none-noticed db subs v (suc n) all =
    ap (λ cs. notice (v + 1) (map tell_of cs) ++ notices db subs (v + 1) n) (none-touch subs (changes_at db.schema db.versions (v + 1)) all) ∙ none-noticed db subs (v + 1) n all

-- ---- what is due

is-not-below : (u f : ℕ) → f ≤ u → nat_lt u f ≡ false
is-not-below u f le = grind (arith, nat_tests, le)

-- nothing was dropped
pub kept-due : (db : Database) (session : Session) → floor_of db ≤ session.upto → due db session ≡ record { sent = notices db session.subscription session.upto (newest db - session.upto); subscription = session.subscription }
kept-due db session le =
    let not_lost : is_lost db session ≡ false = rw (is-not-below session.upto (floor_of db) le) (by (subscribes_some session.subscription)) in
    ap (λ b. due_if b db session) not_lost
  where
    by : (b : Bool) → (b && false) ≡ false
    by true = refl
    by false = refl

-- something was dropped, but nothing is subscribed
pub bare-due : (db : Database) (session : Session) → list_all (λ h. is_nothing h.rects) session.subscription ≡ true → due db session ≡ record { sent = []; subscription = session.subscription }
bare-due db session bare =
    let none : subscribes_some session.subscription ≡ false = ap not bare in
    let not_lost : is_lost db session ≡ false = rw none refl in
    ap (λ b. due_if b db session) not_lost
    ∙ ap (λ ms. record { sent = ms; subscription = session.subscription }) (none-noticed db session.subscription session.upto (newest db - session.upto) bare)

-- something was dropped that is due
pub lost-due : (db : Database) (session : Session) → list_all (λ h. is_nothing h.rects) session.subscription ≡ false → session.upto < floor_of db → due db session ≡ record { sent = Lapse (newest db) ∷ []; subscription = [] }
lost-due db session some lt =
    let has : subscribes_some session.subscription ≡ true = ap not some in
    let lost : is_lost db session ≡ true = rw (has, lt-ltb session.upto (floor_of db) lt) refl in
    ap (λ b. due_if b db session) lost

pub bare-is : (subs : List Holding) (empty : Bool) → AllByRecursion FitsSome subs → (IsTrue empty ↔ ((t a : ℕ) (row : Row) → has_point subs t a row ≡ false)) → list_all (λ h. is_nothing h.rects) subs ≡ empty
bare-is subs empty fit is = by (list_all (λ h. is_nothing h.rects) subs) empty refl refl
  where
    own : IsTrue (list_all (λ h. is_nothing h.rects) subs) ↔ ((t a : ℕ) (row : Row) → has_point subs t a row ≡ false)
    own = empty_where_bare subs (list_all (λ h. is_nothing h.rects) subs) fit refl

    by : (a b : Bool) → list_all (λ h. is_nothing h.rects) subs ≡ a → empty ≡ b → a ≡ b
    by true true e f = refl
    by false false e f = refl
    by true false e f = let wrong : empty ≡ true = is.1 (own.0 e) in absurd (let no : false ≡ true = sym f ∙ wrong in cc)
    by false true e f = let wrong : list_all (λ h. is_nothing h.rects) subs ≡ true = own.1 (is.0 f) in absurd (let no : false ≡ true = sym e ∙ wrong in cc)

pub lapse-sent : (db : Database) (held : Held) (before after : List Message) (v : ℕ) → Logs db held → before ≡ [] → after ≡ before ++ Lapse v ∷ [] → v ≡ log.newest held → after ≡ Lapse (newest db) ∷ []
lapse-sent db held before after v keeps none is at =
    is ∙ (ap (λ ms. ms ++ Lapse v ∷ []) none ∙ ap (λ u. Lapse u ∷ []) (at ∙ newest-is db held keeps))

pub not-below : (u f : ℕ) → (u < f → ⊥) → f ≤ u
not-below u f never = by (nat_lt u f) refl
  where
    by : (b : Bool) → nat_lt u f ≡ b → f ≤ u
    by true e = absurd (never (grind (arith, nat_tests, e)))
    by false e = grind (arith, nat_tests, e)

-- the entries are there
pub some-due : (db : Database) (held : Held) (session : Session) (entries : List Entry) (sent : List Message) → Logs db held → session.upto ≤ newest db → (session.upto < held.floor → ⊥) → entries ≡ entries_above session.upto held
    → sent ≡ noticed session.subscription entries → sent ≡ (due db session).sent
some-due db held session entries sent keeps up there are is =
    let le : held.floor ≤ session.upto = not-below session.upto held.floor there in
    is ∙ (ap (noticed session.subscription) are ∙ (entries-noticed db held session.subscription session.upto keeps le up
    ∙ sym (ap (λ d. d.sent) (kept-due db session (subst (λ f. f ≤ session.upto) keeps.2 le)))))

pub some-left : (db : Database) (held : Held) (session : Session) → Logs db held → (session.upto < held.floor → ⊥) → session.subscription ≡ (due db session).subscription
some-left db held session keeps there = sym (ap (λ d. d.subscription) (kept-due db session (subst (λ f. f ≤ session.upto) keeps.2 (not-below session.upto held.floor there))))

-- ---- the notice that closes a push

numbered-at : (v i : ℕ) (kept : List (List Change)) → (slice_index_or (numbered v kept) i (record { version = 0; changes = [] })).changes ≡ slice_index_or kept i []
numbered-at v i [] = refl
numbered-at v zero (cs ∷ kept) = refl
numbered-at v (suc i) (cs ∷ kept) = numbered-at (v + 1) i kept

numbered-count : (v : ℕ) (kept : List (List Change)) → length (numbered v kept) ≡ length kept
numbered-count v [] = refl
numbered-count v (cs ∷ kept) = ap suc (numbered-count (v + 1) kept)

-- the last of the entries has what changed in the newest version
pub last-are : (db : Database) (held : Held) (v : ℕ) → Logs db held → held.floor ≤ v → v < newest db → last_changes (entries_above v held) ≡ changes_at db.schema db.versions (newest db)
last-are db held v keeps le later =
    let all : List (List Change) = all_changes db.schema db.versions in
    let count : length (all_changes db.schema db.versions) ≡ length db.versions - 1 = changes-count db.schema db.versions in
    let left : length (numbered v (drop v (all_changes db.schema db.versions))) ≡ length (all_changes db.schema db.versions) - v = numbered-count v (drop v (all_changes db.schema db.versions)) ∙ length-drop v (all_changes db.schema db.versions) in
    let place : v + (length (numbered v (drop v (all_changes db.schema db.versions))) - 1) ≡ length (all_changes db.schema db.versions) - 1 = omega (arith, left, count, later) in
    let again : length (all_changes db.schema db.versions) - 1 + 1 ≡ newest db = omega (arith, count, later) in
    ap last_changes (entries-are db.log_limit v (all_changes db.schema db.versions) held keeps le)
    ∙ (numbered-at v (length (numbered v (drop v (all_changes db.schema db.versions))) - 1) (drop v (all_changes db.schema db.versions))
    ∙ (get_or-drop v (all_changes db.schema db.versions) (length (numbered v (drop v (all_changes db.schema db.versions))) - 1) []
    ∙ (ap (λ i. slice_index_or (all_changes db.schema db.versions) i []) place
    ∙ (told-are db (length (all_changes db.schema db.versions) - 1) (omega (arith, count, later))
    ∙ ap (λ n. changes_at db.schema db.versions n) again))))

closing-any : (v : ℕ) (touch : Change → Bool) (cs : List Change) → closing v (map tell_of (filter touch cs)) ≡ (if not (list_any touch cs) then Notice v [] ∷ [] else [])
closing-any v touch [] = refl
closing-any v touch (c ∷ cs) = by (touch c) refl (closing-any v touch cs)
  where
    by : (b : Bool) → touch c ≡ b → closing v (map tell_of (filter touch cs)) ≡ (if not (list_any touch cs) then Notice v [] ∷ [] else [])
        → closing v (map tell_of (filter touch (c ∷ cs))) ≡ (if not (list_any touch (c ∷ cs)) then Notice v [] ∷ [] else [])
    by true is ih = rw is refl
    by false is ih = rw is ih

kept-closing : (db : Database) (session : Session) → floor_of db ≤ session.upto → closing_if (is_lost db session) db session ≡ closing_if false db session
kept-closing db session le =
    let not_lost : is_lost db session ≡ false = rw (is-not-below session.upto (floor_of db) le) (by (subscribes_some session.subscription)) in
    ap (λ b. closing_if b db session) not_lost
  where
    by : (b : Bool) → (b && false) ≡ false
    by true = refl
    by false = refl

-- the session is at the newest version already
pub none-closing : (db : Database) (session : Session) → newest db ≤ session.upto → floor_of db ≤ newest db → closing_if (is_lost db session) db session ≡ []
none-closing db session le below =
    let reached : nat_lt session.upto (newest db) ≡ false = is-not-below session.upto (newest db) le in
    kept-closing db session (omega (arith, le, below)) ∙ rw reached refl

-- the entries are there
pub some-closing : (db : Database) (held : Held) (session : Session) → Logs db held → held.floor ≤ session.upto → session.upto < newest db
    → closing_if (is_lost db session) db session ≡ (if not (list_any (touches session.subscription) (last_changes (entries_above session.upto held))) then Notice (newest db) [] ∷ [] else [])
some-closing db held session keeps le later =
    let reaches : nat_lt session.upto (newest db) ≡ true = lt-ltb session.upto (newest db) later in
    kept-closing db session (subst (λ f. f ≤ session.upto) keeps.2 le)
    ∙ rw reaches
    (closing-any (newest db) (touches session.subscription) (changes_at db.schema db.versions (newest db))
    ∙ ap (λ cs. if not (list_any (touches session.subscription) cs) then Notice (newest db) [] ∷ [] else []) (sym (last-are db held session.upto keeps le later)))

-- something was dropped, but nothing is subscribed
pub bare-closing : (db : Database) (session : Session) → list_all (λ h. is_nothing h.rects) session.subscription ≡ true → session.upto < newest db
    → closing_if (is_lost db session) db session ≡ Notice (newest db) [] ∷ []
bare-closing db session bare later =
    let none : subscribes_some session.subscription ≡ false = ap not bare in
    let not_lost : is_lost db session ≡ false = rw none refl in
    let reaches : nat_lt session.upto (newest db) ≡ true = lt-ltb session.upto (newest db) later in
    ap (λ b. closing_if b db session) not_lost
    ∙ rw reaches (ap (λ cs. closing (newest db) (map tell_of cs)) (none-touch session.subscription (changes_at db.schema db.versions (newest db)) bare))

-- something was dropped that is due
pub lost-closing : (db : Database) (session : Session) → list_all (λ h. is_nothing h.rects) session.subscription ≡ false → session.upto < floor_of db
    → closing_if (is_lost db session) db session ≡ []
lost-closing db session some lt =
    let has : subscribes_some session.subscription ≡ true = ap not some in
    let lost : is_lost db session ≡ true = rw (has, lt-ltb session.upto (floor_of db) lt) refl in
    ap (λ b. closing_if b db session) lost

-- ---- sessions as their fields say

abbrev pub session-of : ℕ → List Holding → ℕ → Session
session-of wire subscription upto = record { wire = wire; subscription = subscription; upto = upto }

pub made-of : (w x : ℕ) (one other : List Holding) (u v : ℕ) → w ≡ x → one ≡ other → u ≡ v → session-of w one u ≡ session-of x other v
made-of w x one other u v wire subscription upto = ap (λ n. session-of n one u) wire ∙ ap (λ s. session-of x s u) subscription ∙ ap (λ n. session-of x other n) upto

pub bare-now : (session inside : Session) (empty : Bool) → inside ≡ session → AllByRecursion FitsSome session.subscription
    → (IsTrue empty ↔ ((t a : ℕ) (row : Row) → has_point inside.subscription t a row ≡ false)) → list_all (λ h. is_nothing h.rects) session.subscription ≡ empty
bare-now session inside empty same fit is =
    bare-is session.subscription empty fit (subst (λ (s : Session). IsTrue empty ↔ ((t a : ℕ) (row : Row) → has_point s.subscription t a row ≡ false)) same is)

pub some-due-in : (db : Database) (held : Held) (session inside : Session) (entries : List Entry) (sent : List Message) → inside ≡ session → Logs db held → session.upto ≤ newest db
    → (inside.upto < held.floor → ⊥) → entries ≡ entries_above inside.upto held → sent ≡ noticed inside.subscription entries → sent ≡ (due db session).sent
some-due-in db held session inside entries sent same keeps up there are is =
    some-due db held inside entries sent keeps (subst (λ (s : Session). s.upto ≤ newest db) (sym same) up) there are is ∙ ap (λ (s : Session). (due db s).sent) same

pub some-left-in : (db : Database) (held : Held) (session inside : Session) → inside ≡ session → Logs db held → (inside.upto < held.floor → ⊥) → session.subscription ≡ (due db session).subscription
some-left-in db held session inside same keeps there = some-left db held session keeps (λ below. there (subst (λ (s : Session). s.upto < held.floor) (sym same) below))

pub none-closes : (db : Database) (held : Held) (session inside : Session) (v : ℕ) → inside ≡ session → Logs db held → v ≡ log.newest held → v ≤ inside.upto → closing_if (is_lost db session) db session ≡ []
none-closes db held session inside v same keeps at le =
    none-closing db session (subst (λ (s : Session). newest db ≤ s.upto) same (omega (arith, le, at, newest-is db held keeps))) (floor-below db)

pub some-closes : (db : Database) (held : Held) (session inside : Session) (entries : List Entry) (told : Bool) (v : ℕ) → inside ≡ session → Logs db held → (inside.upto < held.floor → ⊥)
    → v ≡ log.newest held → inside.upto < v → entries ≡ entries_above inside.upto held → told ≡ list_any (touches inside.subscription) (last_changes entries)
    → closing_if (is_lost db session) db session ≡ (if not told then Notice (newest db) [] ∷ [] else [])
some-closes db held session inside entries told v same keeps there at later are is =
    subst (λ (s : Session). closing_if (is_lost db s) db s ≡ (if not told then Notice (newest db) [] ∷ [] else [])) same
    (some-closing db held inside keeps (not-below inside.upto held.floor there) (omega (arith, later, at, newest-is db held keeps))
    ∙ ap (λ b. if not b then Notice (newest db) [] ∷ [] else []) (sym (is ∙ ap (λ es. list_any (touches inside.subscription) (last_changes es)) are)))

bare-or-lost : (db : Database) (session : Session) (empty : Bool) → list_all (λ h. is_nothing h.rects) session.subscription ≡ empty → session.upto < floor_of db → session.upto < newest db
    → closing_if (is_lost db session) db session ≡ (if empty then Notice (newest db) [] ∷ [] else [])
bare-or-lost db session true bare below later = bare-closing db session bare later
bare-or-lost db session false bare below later = lost-closing db session bare below

pub dropped-closes : (db : Database) (held : Held) (session inside : Session) (empty : Bool) (v : ℕ) → inside ≡ session → Logs db held → inside.upto < held.floor
    → v ≡ log.newest held → inside.upto < v → AllByRecursion FitsSome session.subscription → (IsTrue empty ↔ ((t a : ℕ) (row : Row) → has_point inside.subscription t a row ≡ false))
    → closing_if (is_lost db session) db session ≡ (if empty then Notice (newest db) [] ∷ [] else [])
dropped-closes db held session inside empty v same keeps dropped at later fit is =
    bare-or-lost db session empty (bare-now session inside empty same fit is)
    (subst (λ (s : Session). s.upto < floor_of db) same (subst (λ f. inside.upto < f) keeps.2 dropped))
    (subst (λ (s : Session). s.upto < newest db) same (omega (arith, later, at, newest-is db held keeps)))

-- ---- a push

pub pushed-closed : (db : Database) (session : Session) (before after : List Message) (closes : Bool) (v : ℕ) (told : List Tell) → before ≡ (due db session).sent
    → closing_if (is_lost db session) db session ≡ (if closes then Notice (newest db) [] ∷ [] else []) → closes ≡ true → after ≡ before ++ Notice v told ∷ [] → v ≡ newest db → told ≡ []
    → after ≡ pushed db session
pushed-closed db session before after closes v told first last is made at none =
    made ∙ (ap (λ ms. ms ++ Notice v told ∷ []) first
    ∙ (ap (λ w. (due db session).sent ++ Notice w told ∷ []) at
    ∙ (ap (λ ts. (due db session).sent ++ Notice (newest db) ts ∷ []) none
    ∙ ap (λ ms. (due db session).sent ++ ms) (sym (last ∙ ap (λ b. if b then Notice (newest db) [] ∷ [] else []) is)))))

pub pushed-open : (db : Database) (session : Session) (before : List Message) (closes : Bool) → before ≡ (due db session).sent
    → closing_if (is_lost db session) db session ≡ (if closes then Notice (newest db) [] ∷ [] else []) → closes ≡ false → before ≡ pushed db session
pushed-open db session before closes first last is =
    first ∙ (sym (append-nil (due db session).sent) ∙ ap (λ ms. (due db session).sent ++ ms) (sym (last ∙ ap (λ b. if b then Notice (newest db) [] ∷ [] else []) is)))
