-- What the last message of a write or a resume does.
use Rattle.std.proofs.Common.{◌≡◌, ℕ, ◌-◌, ◌≤◌, Bool, true, false, List, [], ◌∷◌, ◌++◌, map, length, refl, sym, ◌∙◌, ap, subst, arith, Option, Some, None}
use Rattle.std.specs.Prelude.{not, ◌==◌, nat_lt, if◌then◌else◌}
use Rattle.std.specs.List.{list_all, All, Contains}
use Rattle.std.proofs.lemmas.List.Elements.{All-nil, All-weaker, All-contains}
use Rattle.std.proofs.lemmas.Bool.{eqb-true, ltb-false}
use Rattle.sr_cell.specs.declared.cause.Cause.{Cause}
use Rattle.sr_cell.specs.declared.cause.Cause.TheVariants.{Lapsed}
use Rattle.sr_cell.specs.declared.fault.Fault.{Fault}
use Rattle.sr_cell.specs.declared.table.Table.{Table}
use Rattle.sr_message.specs.declared.message.Message.{Message}
use Rattle.sr_message.specs.declared.message.Message.TheVariants.{Hello, Resume, Ask, Write, Welcome, Notice, Rows, Reply, Written, Refused, Lapse}
use Rattle.sr_history.specs.declared.mark.Mark.{Mark}
use Rattle.sr_history.specs.Marks.{is_held, with_marks}
use Rattle.sr_history.specs.Classes.{stamp}
use Rattle.sr_region.specs.declared.region.Region.{Region}
use Rattle.sr_store.specs.Classes.{Keeps}
use Rattle.sr_store.specs.Fitted.{IsFitted, count_rows}
use Rattle.sr_store.specs.Stores.{IsStore, IsSettled, drop_of}
use Rattle.sr_store.specs.Told.{Told, told_of, AreTrueOf, IsTrueOf}
use Rattle.sr_store.proofs.Absorbing.{drops_all}
use Rattle.sr_store.proofs.Fewer.{fitted_fit_still, none_store, none_settled}
use Rattle.sr_store.specs.Brought.{nothing_told, IsToldOf}
use Rattle.sr_store.proofs.Meeting.{fitted_meets_budgets, fitted_meets_told_budgets}
use Rattle.sr_store.proofs.Stepping.{dropped_marks}
use Rattle.sr_wire.specs.declared.bad_frame.BadFrame.TheVariants.{State, Number, Version}
use Rattle.sr_session.specs.Clients as session
use Rattle.sr_session.specs.Clients.{mirror_of, settled}
use Rattle.sr_session.specs.Misfits.{misfit, or_else, is_number, is_resume, is_write, known}
use Rattle.sr_session.specs.Regions.{AreAt, after_messages}
use Rattle.sr_session.specs.Rules.{DropsFor, DropsWelcomed, cause_afresh, counted, is_welcomed, refused_write, written}
use Rattle.sr_session.specs.Rules as rules
use Rattle.sr_session.specs.Sessions.{Database, newest, tables_of}
use Rattle.sr_session.specs.Walks.{AskOut, Comes, Mirror, Passes, Request, ResumeOut, Walks, WriteOut, has_lapse, version_after, walked, welcomed}
use Rattle.sr_session.proofs.TakeLemmas.{passes-later}
use Rattle.sr_session.proofs.TakingLemmas.{IsEnding, ending, walked-version}
use Rattle.sr_session.proofs.TruthLemmas.{passes-true, quiet-on}
use Rattle.sr_session.proofs.WalkLemmas.{walks-later}
use Rattle.sr_session.specs.Bases.{basis_of}
use Rattle.sr_session.specs.Brought.{told_after, told_basis, told_by_all, told_where}
use Rattle.sr_client.specs.ByTold.{GoesByTold}
use Rattle.sr_client.proofs.ByToldLemmas.{by-told, laid-told, nothing-is-told, told-none, told-some}
use Rattle.sr_client.specs.Cutting.{EndWith, RegionsEnd}
use Rattle.sr_client.specs.declared.client.Client.{Client}
use Rattle.sr_client.specs.declared.steps.Took.{Took}
use Rattle.sr_client.specs.declared.steps.Took.TheVariants as took
use Rattle.sr_client.specs.Laying.{TellsRows}
use Rattle.sr_client.specs.Settling.{settled_at, SettlesTo, WelcomesTo}
use Rattle.sr_client.specs.Stands.{Hidden, Facts, Stands, Truly, IsFit, AreFit, past_of, out_of}
use Rattle.sr_client.specs.Steps.{KeepsLink, SaysTook, Takes}
use Rattle.sr_client.specs.Values.{has_values}
use Rattle.sr_client.proofs.AskedLemmas.{after-all, after-keeps, after-settled, after-store}
use Rattle.sr_client.proofs.FitLemmas.{fitted-keeps}
use Rattle.sr_client.proofs.MirrorLemmas.{at-mirror}
use Rattle.sr_client.proofs.MoveLemmas.{takes-by}
use Rattle.sr_client.proofs.OverLemmas.{on, IsHere, stands-over}
use Rattle.sr_client.proofs.RestLemmas.{with_drops}
use Rattle.sr_client.proofs.SuitLemmas.{known-least, lapse-later, laid-tells, not-false, notice-later, or-later, or-none}
use Rattle.sr_client.proofs.TableLemmas.{have-first}

-- ---- what is not refused is of the request that is out

own-number : (n k : ℕ) (b : Bool) → not (n == k) ≡ b → b ≡ false → n ≡ k
own-number n k b e none = eqb-true n k (not-false (n == k) (e ∙ none))

write-out : (schema : List Table) (out : Option Request) (laid : List Message) (version k w : ℕ) → misfit schema out laid version (Written k w) ≡ None → out ≡ Some (WriteOut k)
write-out schema None laid version k w fit = absurd (cc)
write-out schema (Some (AskOut number query meaning fresh parts)) laid version k w fit = absurd (cc)
write-out schema (Some (ResumeOut number)) laid version k w fit = absurd (cc)
write-out schema (Some (WriteOut number)) laid version k w fit =
    let none = or-none (not (k == number)) Number (or_else (nat_lt w (known version laid)) Version None) fit in
    ap (λ n. Some (WriteOut n)) (sym (own-number k number (not (k == number)) refl none))

refused-out : (schema : List Table) (out : Option Request) (laid : List Message) (version k : ℕ) (fault : Fault) → misfit schema out laid version (Refused k fault) ≡ None → out ≡ Some (WriteOut k)
refused-out schema None laid version k fault fit = absurd (cc)
refused-out schema (Some (AskOut number query meaning fresh parts)) laid version k fault fit = absurd (cc)
refused-out schema (Some (ResumeOut number)) laid version k fault fit = absurd (cc)
refused-out schema (Some (WriteOut number)) laid version k fault fit =
    let none = or-none (not (k == number)) Number None fit in
    ap (λ n. Some (WriteOut n)) (sym (own-number k number (not (k == number)) refl none))

welcome-out : (schema : List Table) (out : Option Request) (laid : List Message) (version k w : ℕ) (kept : Bool) → misfit schema out laid version (Welcome k w kept) ≡ None → out ≡ Some (ResumeOut k)
welcome-out schema None laid version k w kept fit = absurd (cc)
welcome-out schema (Some (AskOut number query meaning fresh parts)) laid version k w kept fit = absurd (cc)
welcome-out schema (Some (WriteOut number)) laid version k w kept fit = absurd (cc)
welcome-out schema (Some (ResumeOut number)) laid version k w kept fit =
    let none = or-none (not (k == number)) Number (or_else (nat_lt w (known version laid)) Version None) fit in
    ap (λ n. Some (ResumeOut n)) (sym (own-number k number (not (k == number)) refl none))

-- ---- versions do not fall

pub written-later : (schema : List Table) (out : Option Request) (laid : List Message) (version k w : ℕ) → misfit schema out laid version (Written k w) ≡ None → version ≤ w
written-later schema out laid version k w fit =
    let least = known-least version laid in
    let past_state = or-later (not (is_write out)) State (or_else (not (is_number out k)) Number (or_else (nat_lt w (known version laid)) Version None)) fit in
    let past_number = or-later (not (is_number out k)) Number (or_else (nat_lt w (known version laid)) Version None) past_state in
    let up = ltb-false w (known version laid) (or-none (nat_lt w (known version laid)) Version None past_number) in
    omega (arith, least, up)

pub welcome-later : (schema : List Table) (out : Option Request) (laid : List Message) (version k w : ℕ) (kept : Bool) → misfit schema out laid version (Welcome k w kept) ≡ None → version ≤ w
welcome-later schema out laid version k w kept fit =
    let least = known-least version laid in
    let past_state = or-later (not (is_resume out)) State (or_else (not (is_number out k)) Number (or_else (nat_lt w (known version laid)) Version None)) fit in
    let past_number = or-later (not (is_number out k)) Number (or_else (nat_lt w (known version laid)) Version None) past_state in
    let up = ltb-false w (known version laid) (or-none (nat_lt w (known version laid)) Version None past_number) in
    omega (arith, least, up)

-- nor does that of what is laid by
pub laid-later : (schema : List Table) (out : Option Request) (version v : ℕ) (pre ms : List Message) → AreFit schema out version pre ms → version ≤ v → version ≤ version_after v ms
laid-later schema out version v pre [] fit le = le
laid-later schema out version v pre (Notice w told ∷ ms) fit le =
    let up = notice-later schema out pre version w told fit.0 in laid-later schema out version w (pre ++ Notice w told ∷ []) ms fit.1 (omega (arith, up))
laid-later schema out version v pre (Lapse w ∷ ms) fit le =
    let up = lapse-later schema out pre version w fit.0 in laid-later schema out version w (pre ++ Lapse w ∷ []) ms fit.1 (omega (arith, up))
laid-later schema out version v pre (Rows k part rows ∷ ms) fit le = laid-later schema out version v (pre ++ Rows k part rows ∷ []) ms fit.1 le
laid-later schema out version v pre (Reply k w ∷ ms) fit le = laid-later schema out version v (pre ++ Reply k w ∷ []) ms fit.1 le
laid-later schema out version v pre (Written k w ∷ ms) fit le = laid-later schema out version v (pre ++ Written k w ∷ []) ms fit.1 le
laid-later schema out version v pre (Refused k fault ∷ ms) fit le = laid-later schema out version v (pre ++ Refused k fault ∷ []) ms fit.1 le
laid-later schema out version v pre (Welcome k w kept ∷ ms) fit le = laid-later schema out version v (pre ++ Welcome k w kept ∷ []) ms fit.1 le
laid-later schema out version v pre (Hello wire client n ∷ ms) fit le = laid-later schema out version v (pre ++ Hello wire client n ∷ []) ms fit.1 le
laid-later schema out version v pre (Resume wire client n u holdings ∷ ms) fit le = laid-later schema out version v (pre ++ Resume wire client n u holdings ∷ []) ms fit.1 le
laid-later schema out version v pre (Ask n mode parts ∷ ms) fit le = laid-later schema out version v (pre ++ Ask n mode parts ∷ []) ms fit.1 le
laid-later schema out version v pre (Write n sql ∷ ms) fit le = laid-later schema out version v (pre ++ Write n sql ∷ []) ms fit.1 le

-- ---- what is laid by

pub fits-laid : (c : Client) → Stands c → list_all has_values c.laid ≡ true → All (TellsRows c.schema) c.laid
fits-laid c stands values = laid-tells c.schema (out_of stands.0.meaning c.out) c.version [] c.laid stands.1.fit values

pub laid-store : (c : Client) → Stands c → list_all has_values c.laid ≡ true → IsStore c.schema (after_messages c.laid c.store.regions)
laid-store c stands values = after-store c.schema c.laid c.store.regions stands.1.store (fits-laid c stands values)

-- ---- a client that holds what is left

-- Regions that are left once what was laid by is applied: their marks, and that they are within the limits and cut as before.
pub record IsLeft (c : Client) (h : Hidden) (marks : List Mark) (gs : List Region) : Type 0 where
  pub store : IsStore c.schema gs
  pub settled : c.store.settled ≡ true → IsSettled c.schema gs
  pub keeps : Keeps c.schema (is_held (with_marks h.marks marks)) (stamp h.queries) gs
  pub rows : count_rows gs ≤ c.store.limits.rows
  pub few : length gs ≤ c.store.limits.regions
  pub ends : RegionsEnd c.schema (counted h.counted_from h.queries) gs

pub left-facts : (c : Client) (h : Hidden) (version : ℕ) (marks : List Mark) (gs : List Region) → Facts c h → IsLeft c h marks gs → Facts (settled_at c version gs) (with_drops h marks)
left-facts c h version marks gs f l = record {
  tables = f.tables;
  tidy = refl;
  down = λ down. refl;
  meant = tt;
  fit = tt;
  store = l.store;
  settled = l.settled;
  keeps = l.keeps;
  queries = f.queries;
  last = f.last;
  rows = l.rows;
  few = l.few;
  from = f.from;
  short = f.short;
  ends = l.ends;
}

-- all is dropped
pub none-left : (c : Client) (h : Hidden) (cause : Cause) → Facts c h → IsLeft c h (map (drop_of cause) c.store.regions) []
none-left c h cause f = record {
  store = none_store c.schema c.store.regions f.store;
  settled = λ is. none_settled c.schema;
  keeps = dropped_marks c.schema cause h.marks (stamp h.queries) c.store.regions f.keeps;
  rows = omega arith;
  few = omega arith;
  ends = All-nil (λ (g : Region). EndWith c.schema (counted h.counted_from h.queries) g.table g.rects);
}

module _ (c : Client) (h : Hidden) (f : Facts c h) (values : list_all has_values c.laid ≡ true) where
  laid-keeps : has_lapse c.laid ≡ false → Keeps c.schema (is_held h.marks) (stamp h.queries) (after_messages c.laid c.store.regions)
  laid-keeps none = after-keeps c.schema h.marks (stamp h.queries) c.laid c.store.regions (λ lapse. absurd (let wrong : true ≡ false = sym lapse ∙ none in cc)) f.keeps

  -- the limits are met
  fitted-left : (marks : List Mark) (gs : List Region) → has_lapse c.laid ≡ false → IsFitted c.schema c.store.limits c.store.last (after_messages c.laid c.store.regions) gs marks → IsLeft c h marks gs
  fitted-left marks gs none fitted =
      let still = fitted_fit_still c.schema c.store.limits c.store.last (after_messages c.laid c.store.regions) gs marks fitted in
      let ends = after-all (λ (g : Region). EndWith c.schema (counted h.counted_from h.queries) g.table g.rects) (λ g rows e. e) c.laid c.store.regions f.ends in
      record {
        store = still.store (laid-store c (h, f) values);
        settled = λ is. still.settled (after-settled c.schema c.laid c.store.regions (f.settled is));
        keeps = fitted-keeps c.schema c.store.limits c.store.last h.marks (stamp h.queries) (after_messages c.laid c.store.regions) gs marks fitted (laid-keeps none);
        rows = still.rows;
        few = still.regions;
        ends = All-weaker (Contains (after_messages c.laid c.store.regions)) (λ (g : Region). EndWith c.schema (counted h.counted_from h.queries) g.table g.rects)
            (λ g some. All-contains (λ (g : Region). EndWith c.schema (counted h.counted_from h.queries) g.table g.rects) (after_messages c.laid c.store.regions) g ends some) gs still.some;
      }

  pub settles-left : (lapse : Bool) (marks : List Mark) (gs : List Region) → has_lapse c.laid ≡ lapse → SettlesTo lapse c marks gs → IsLeft c h marks gs
  settles-left true marks gs e (none, are) = subst (λ gs. IsLeft c h marks gs) (sym none) (subst (λ ms. IsLeft c h ms []) (sym are) (none-left c h Lapsed f))
  settles-left false marks gs e fitted = fitted-left marks gs e fitted

  -- ---- by the rows that the frames brought

  pub settles-told : (lapse : Bool) (version : ℕ) (marks : List Mark) (gs : List Region) → has_lapse c.laid ≡ lapse → SettlesTo lapse c marks gs → (told : Told) → IsToldOf c.schema told c.store.regions
      → IsToldOf c.schema (told_by_all c.schema c.laid told) gs × DropsFor lapse (told_basis c.schema c.store.limits (told_by_all c.schema c.laid told)) version (past_of c h) marks
  settles-told true version marks gs e (none, are) told is =
      let laid = laid-told c.schema c.laid c.store.regions told f.store.each (fits-laid c (h, f) values) is in (
        subst (IsToldOf c.schema (told_by_all c.schema c.laid told)) (sym none) (told-none c.schema (told_by_all c.schema c.laid told) laid.0),
        subst (λ ms. DropsFor true (told_basis c.schema c.store.limits (told_by_all c.schema c.laid told)) version (past_of c h) ms) (sym are)
            (drops_all c.schema h.marks h.queries Lapsed c.store.regions (have-first c.schema f.tables) f.store.each f.store.order f.keeps),
      )
  settles-told false version marks gs e fitted told is =
      let laid = laid-told c.schema c.laid c.store.regions told f.store.each (fits-laid c (h, f) values) is in
      let still = fitted_fit_still c.schema c.store.limits c.store.last (after_messages c.laid c.store.regions) gs marks fitted in (
        told-some c.schema (told_by_all c.schema c.laid told) (after_messages c.laid c.store.regions) gs still.some laid,
        fitted_meets_told_budgets c.schema (told_by_all c.schema c.laid told) c.store.limits h.marks h.queries c.store.last (after_messages c.laid c.store.regions) gs marks f.tables laid.0
            (laid-store c (h, f) values) (laid-keeps e) laid.1 f.last fitted,
      )

  -- ---- at a version of which the laid messages have the rows

  module _ (db : Database) (here : IsHere db c) (version : ℕ) (within : version ≤ newest db) (now : AreTrueOf (told_of (tables_of db version)) (after_messages c.laid c.store.regions)) where
    pub settles-true : (lapse : Bool) (marks : List Mark) (gs : List Region) → SettlesTo lapse c marks gs → AreTrueOf (told_of (tables_of db version)) gs
    settles-true true marks gs (none, are) = subst (AreTrueOf (told_of (tables_of db version))) (sym none) (All-nil (IsTrueOf (told_of (tables_of db version))))
    settles-true false marks gs fitted =
        let still = fitted_fit_still c.schema c.store.limits c.store.last (after_messages c.laid c.store.regions) gs marks fitted in
        All-weaker (Contains (after_messages c.laid c.store.regions)) (IsTrueOf (told_of (tables_of db version)))
        (λ g some. All-contains (IsTrueOf (told_of (tables_of db version))) (after_messages c.laid c.store.regions) g now some) gs still.some

    pub settles-drops : (lapse : Bool) (marks : List Mark) (gs : List Region) → has_lapse c.laid ≡ lapse → SettlesTo lapse c marks gs
        → DropsFor lapse (basis_of (on c db) c.store.limits) version (past_of c h) marks
    settles-drops true marks gs e (none, are) =
        subst (λ ms. DropsFor true (basis_of (on c db) c.store.limits) version (past_of c h) ms) (sym are)
        (drops_all c.schema h.marks h.queries Lapsed c.store.regions (have-first c.schema f.tables) f.store.each f.store.order f.keeps)
    settles-drops false marks gs e fitted =
        (fitted_meets_budgets c.schema (tables_of db version) c.store.limits h.marks h.queries c.store.last (after_messages c.laid c.store.regions) gs marks f.tables (here.sound.tables version within)
        (laid-store c (h, f) values) (laid-keeps e) now f.last fitted).0

-- ---- what is promised

-- The laid messages bring the regions to a version that is no earlier one, and exists.
pub record ComesTo (c : Client) (db : Database) (version : ℕ) : Type 0 where
  pub later : c.version ≤ version
  pub within : version ≤ newest db
  pub now : AreTrueOf (told_of (tables_of db version)) (after_messages c.laid c.store.regions)

module _ (c : Client) (h : Hidden) (f : Facts c h) (db : Database) (here : IsHere db c) (request : Request) (passes : Passes (on c db) (Some request) (mirror_of (past_of c h)) c.laid) where
  abbrev start : Mirror
  start = mirror_of (past_of c h)

  abbrev mid : Mirror
  mid = walked start c.laid

  mid-later : c.version ≤ (walked (mirror_of (past_of c h)) c.laid).version
  mid-later = passes-later (on c db) (Some request) (mirror_of (past_of c h)) c.laid passes

  -- the regions behind the laid messages
  mid-at : (walked (mirror_of (past_of c h)) c.laid).version ≤ newest db → AreAt (on c db) (walked (mirror_of (past_of c h)) c.laid) (after_messages c.laid c.store.regions)
  mid-at below =
      passes-true (on c db) (Some request) (mirror_of (past_of c h)) c.laid c.store.regions (λ u under. here.sound.tables u (omega (arith, under, below))) passes mid-later (at-mirror c h db f here)

  pub comes-there : (walked (mirror_of (past_of c h)) c.laid).version ≤ newest db → ComesTo c db (walked (mirror_of (past_of c h)) c.laid).version
  comes-there below = record { later = mid-later; within = below; now = (mid-at below).are_true }

  -- and behind them at a version up to which there is nothing to tell
  pub comes-quietly : (w : ℕ) → w ≤ newest db → Comes (on c db) (walked (mirror_of (past_of c h)) c.laid) w → ComesTo c db w
  comes-quietly w below (up, quiet) =
      let at = mid-at (omega (arith, up, below)) in
      let least = mid-later in
      let m = walked (mirror_of (past_of c h)) c.laid in
      let now = quiet-on (on c db) m.places (w - m.version) m.version w (after_messages c.laid c.store.regions) (omega (arith, up)) (λ u under. here.sound.tables u (omega (arith, under, below))) quiet
      (record { store = at.store; lie = at.lie; are_true = at.are_true }) in
      record { later = omega (arith, least, up); within = below; now = now.are_true }

-- ---- a step of the rules

module _ (c : Client) (values : list_all has_values c.laid ≡ true) (m : Message) (answer : Took) (version : ℕ) (marks : List Mark) (gs : List Region) where
  -- the rules allow it, and the regions that are left are true
  pub record IsTaken (o : rules.Outcome) (h : Hidden) (db : Database) : Type 0 where
    pub step : rules.TakeStep (basis_of (on c db) c.store.limits) (past_of c h) m o (settled (past_of c h) version marks)
    pub within : version ≤ newest db
    pub are : AreTrueOf (told_of (tables_of db version)) gs

  -- a client that is left so
  pub takes-left : (o : rules.Outcome) → SaysTook answer o → ((past : session.Client) → KeepsLink past o (settled past version marks)) → ((h : Hidden) → Facts c h → IsLeft c h marks gs)
      → ((h : Hidden) → Facts c h → (db : Database) → IsHere db c → Truly (on c db) (past_of c h) m → IsTaken o h db)
      → ((h : Hidden) → Facts c h → GoesByTold c (settled_at c version gs) (told_after c.schema (past_of c h) m) (λ b. rules.TakeStep b (past_of c h) m o (settled (past_of c h) version marks)))
      → Stands c → Takes c m (settled_at c version gs) answer
  takes-left o is link left taken told stands = takes-by c (settled_at c version gs) m answer (λ h f. record {
    outcome = o;
    next = past_of (settled_at c version gs) (with_drops h marks);
    is = is;
    link = link (past_of c h);
    draws = omega arith;
    stands = (with_drops h marks, left-facts c h version marks gs f (left h f), refl);
    over = λ db here t.
        let k = taken h f db here t in
        (k.step, stands-over (settled_at c version gs) (with_drops h marks) db (left-facts c h version marks gs f (left h f)) (record { sound = here.sound; within = k.within; are_true = k.are }));
  }) told stands

-- ---- a write made a version

module _ (c : Client) (number version : ℕ) (marks : List Mark) (gs : List Region) (fit : IsFit c (Written number version)) (values : list_all has_values c.laid ≡ true) (s : SettlesTo (has_lapse c.laid) c marks gs) where
  module _ (h : Hidden) (f : Facts c h) where
    written-left : IsLeft c h marks gs
    written-left = settles-left c h f values (has_lapse c.laid) marks gs refl s

    written-goes : (db : Database) → IsHere db c → Truly (on c db) (past_of c h) (Written number version)
        → IsTaken c values (Written number version) (took.Written number version marks) version marks gs (rules.WriteDone number version marks) h db
    written-goes db here t =
        let out : out_of h.meaning c.out ≡ Some (WriteOut number) = write-out c.schema (out_of h.meaning c.out) c.laid c.version number version (fit h.meaning) in
        let e = ending (on c db) (past_of c h) t.connection t.session (WriteOut number) (Written number version) t.rest t.is_open out t.first (λ x walks. absurd walks.0.0) in
        let later = walks-later (on c db) None (welcomed true (walked (mirror_of (past_of c h)) c.laid) version) t.rest t.session e.walks.1 in
        let upto = t.is_open.upto in
        let comes = comes-quietly c h f db here (WriteOut number) e.passes version (omega (arith, later, upto)) e.walks.0.1 in
        record {
          step = written number version marks out comes.later (settles-drops c h f values db here version comes.within comes.now (has_lapse c.laid) marks gs refl s);
          within = comes.within;
          are = settles-true c h f values db here version comes.within comes.now (has_lapse c.laid) marks gs s;
        }

    written-told : GoesByTold c (settled_at c version gs) (told_after c.schema (past_of c h) (Written number version))
        (λ b. rules.TakeStep b (past_of c h) (Written number version) (rules.WriteDone number version marks) (settled (past_of c h) version marks))
    written-told =
        let out : out_of h.meaning c.out ≡ Some (WriteOut number) = write-out c.schema (out_of h.meaning c.out) c.laid c.version number version (fit h.meaning) in
        by-told c (settled_at c version gs) (told_after c.schema (past_of c h) (Written number version)) (told_by_all c.schema c.laid)
        (λ b. rules.TakeStep b (past_of c h) (Written number version) (rules.WriteDone number version marks) (settled (past_of c h) version marks))
        (λ told. ap (λ o. told_where c.schema o c.laid (Written number version) told) out)
        (λ told is.
        let s = settles-told c h f values (has_lapse c.laid) version marks gs refl s told is in
        (s.0, written number version marks out (written-later c.schema (out_of h.meaning c.out) c.laid c.version number version (fit h.meaning)) s.1))

  pub takes-written : Stands c → Takes c (Written number version) (settled_at c version gs) (took.Written number version marks)
  takes-written stands =
      takes-left c values (Written number version) (took.Written number version marks) version marks gs (rules.WriteDone number version marks) refl (λ past. refl) written-left written-goes written-told stands

-- ---- a write was refused

module _ (c : Client) (number : ℕ) (fault : Fault) (marks : List Mark) (gs : List Region) (fit : IsFit c (Refused number fault)) (values : list_all has_values c.laid ≡ true) (s : SettlesTo (has_lapse c.laid) c marks gs) where
  abbrev last : ℕ
  last = version_after c.version c.laid

  module _ (h : Hidden) (f : Facts c h) where
    refused-left : IsLeft c h marks gs
    refused-left = settles-left c h f values (has_lapse c.laid) marks gs refl s

    refused-goes : (db : Database) → IsHere db c → Truly (on c db) (past_of c h) (Refused number fault)
        → IsTaken c values (Refused number fault) (took.Refused number fault marks) (version_after c.version c.laid) marks gs (rules.WriteRefused number fault marks) h db
    refused-goes db here t =
        let out : out_of h.meaning c.out ≡ Some (WriteOut number) = refused-out c.schema (out_of h.meaning c.out) c.laid c.version number fault (fit h.meaning) in
        let e = ending (on c db) (past_of c h) t.connection t.session (WriteOut number) (Refused number fault) t.rest t.is_open out t.first (λ x walks. absurd walks.0) in
        let m = walked (mirror_of (past_of c h)) c.laid in
        let later = walks-later (on c db) None (welcomed true m m.version) t.rest t.session e.walks.1 in
        let upto = t.is_open.upto in
        let comes : ComesTo c db (version_after c.version c.laid) = subst (ComesTo c db) (walked-version (mirror_of (past_of c h)) c.laid e.all) (comes-there c h f db here (WriteOut number) e.passes (omega (arith, later, upto))) in
        record {
          step = refused_write number fault marks out comes.later (settles-drops c h f values db here (version_after c.version c.laid) comes.within comes.now (has_lapse c.laid) marks gs refl s);
          within = comes.within;
          are = settles-true c h f values db here (version_after c.version c.laid) comes.within comes.now (has_lapse c.laid) marks gs s;
        }

    refused-told : GoesByTold c (settled_at c (version_after c.version c.laid) gs) (told_after c.schema (past_of c h) (Refused number fault))
        (λ b. rules.TakeStep b (past_of c h) (Refused number fault) (rules.WriteRefused number fault marks) (settled (past_of c h) (version_after c.version c.laid) marks))
    refused-told =
        let out : out_of h.meaning c.out ≡ Some (WriteOut number) = refused-out c.schema (out_of h.meaning c.out) c.laid c.version number fault (fit h.meaning) in
        by-told c (settled_at c (version_after c.version c.laid) gs) (told_after c.schema (past_of c h) (Refused number fault)) (told_by_all c.schema c.laid)
        (λ b. rules.TakeStep b (past_of c h) (Refused number fault) (rules.WriteRefused number fault marks) (settled (past_of c h) (version_after c.version c.laid) marks))
        (λ told. ap (λ o. told_where c.schema o c.laid (Refused number fault) told) out)
        (λ told is.
        let s = settles-told c h f values (has_lapse c.laid) (version_after c.version c.laid) marks gs refl s told is in
        (s.0, refused_write number fault marks out (laid-later c.schema (out_of h.meaning c.out) c.version c.version [] c.laid f.fit (omega arith)) s.1))

  pub takes-refused : Stands c → Takes c (Refused number fault) (settled_at c (version_after c.version c.laid) gs) (took.Refused number fault marks)
  takes-refused stands =
      takes-left c values (Refused number fault) (took.Refused number fault marks) (version_after c.version c.laid) marks gs (rules.WriteRefused number fault marks) refl (λ past. refl) refused-left refused-goes refused-told stands

-- ---- a session is open

module _ (c : Client) (number version : ℕ) (kept : Bool) (marks : List Mark) (gs : List Region) (fit : IsFit c (Welcome number version kept)) (values : list_all has_values c.laid ≡ true) (s : WelcomesTo kept c marks gs) where
  module _ (h : Hidden) (f : Facts c h) where
    welcome-left : IsLeft c h marks gs
    welcome-left = by kept s
      where
        by : (kept : Bool) → WelcomesTo kept c marks gs → IsLeft c h marks gs
        by true s = settles-left c h f values (has_lapse c.laid) marks gs refl s
        by false (none, are) = subst (λ gs. IsLeft c h marks gs) (sym none) (subst (λ ms. IsLeft c h ms []) (sym are) (none-left c h (cause_afresh (has_lapse c.laid)) f))

    module _ (db : Database) (here : IsHere db c) (t : Truly (on c db) (past_of c h) (Welcome number version kept)) where
      out : out_of h.meaning c.out ≡ Some (ResumeOut number)
      out = welcome-out c.schema (out_of h.meaning c.out) c.laid c.version number version kept (fit h.meaning)

      end : IsEnding (on c db) (past_of c h) t.connection t.session (ResumeOut number) (Welcome number version kept) t.rest
      end = ending (on c db) (past_of c h) t.connection t.session (ResumeOut number) (Welcome number version kept) t.rest t.is_open out t.first (λ x walks. absurd walks.0.0)

      within : version ≤ newest db
      within = by kept end.walks
        where
          by : (kept : Bool) → Walks (on c db) (Some (ResumeOut number)) (walked (mirror_of (past_of c h)) c.laid) (Welcome number version kept ∷ t.rest) t.session → version ≤ newest db
          by true walks = let later = walks-later (on c db) None (welcomed true (walked (mirror_of (past_of c h)) c.laid) version) t.rest t.session walks.1 in let upto = t.is_open.upto in omega (arith, later, upto)
          by false walks = let later = walks-later (on c db) None (welcomed false (walked (mirror_of (past_of c h)) c.laid) version) t.rest t.session walks.1 in let upto = t.is_open.upto in omega (arith, later, upto)

      -- what the rules ask of what is dropped, and that what is left is true
      pub record IsFine : Type 0 where
        pub drops : DropsWelcomed kept (basis_of (on c db) c.store.limits) version (past_of c h) marks
        pub are : AreTrueOf (told_of (tables_of db version)) gs

      fine : IsFine
      fine = record { drops = (by kept s end.walks).0; are = (by kept s end.walks).1 }
        where
          by : (kept : Bool) → WelcomesTo kept c marks gs → Walks (on c db) (Some (ResumeOut number)) (walked (mirror_of (past_of c h)) c.laid) (Welcome number version kept ∷ t.rest) t.session
              → DropsWelcomed kept (basis_of (on c db) c.store.limits) version (past_of c h) marks × AreTrueOf (told_of (tables_of db version)) gs
          by true s walks =
              let comes = comes-quietly c h f db here (ResumeOut number) end.passes version within walks.0.1 in (
                settles-drops c h f values db here version comes.within comes.now (has_lapse c.laid) marks gs refl s,
                settles-true c h f values db here version comes.within comes.now (has_lapse c.laid) marks gs s,
              )
          by false (none, are) walks = (
            subst (λ ms. DropsWelcomed false (basis_of (on c db) c.store.limits) version (past_of c h) ms) (sym are)
                (drops_all c.schema h.marks h.queries (cause_afresh (has_lapse c.laid)) c.store.regions (have-first c.schema f.tables) f.store.each f.store.order f.keeps),
            subst (AreTrueOf (told_of (tables_of db version))) (sym none) (All-nil (IsTrueOf (told_of (tables_of db version)))),
          )

      welcome-goes : IsTaken c values (Welcome number version kept) (took.Welcomed version kept marks) version marks gs (rules.Welcomed version kept marks) h db
      welcome-goes = record {
        step = is_welcomed number version kept marks out (welcome-later c.schema (out_of h.meaning c.out) c.laid c.version number version kept (fit h.meaning)) fine.drops;
        within = within;
        are = fine.are;
      }

    welcome-told : GoesByTold c (settled_at c version gs) (told_after c.schema (past_of c h) (Welcome number version kept))
        (λ b. rules.TakeStep b (past_of c h) (Welcome number version kept) (rules.Welcomed version kept marks) (settled (past_of c h) version marks))
    welcome-told =
        let out : out_of h.meaning c.out ≡ Some (ResumeOut number) = welcome-out c.schema (out_of h.meaning c.out) c.laid c.version number version kept (fit h.meaning) in
        by-told c (settled_at c version gs) (told_after c.schema (past_of c h) (Welcome number version kept)) (λ told. if kept then told_by_all c.schema c.laid told else nothing_told)
        (λ b. rules.TakeStep b (past_of c h) (Welcome number version kept) (rules.Welcomed version kept marks) (settled (past_of c h) version marks))
        (λ told. ap (λ o. told_where c.schema o c.laid (Welcome number version kept) told) out)
        (λ told is.
        let d = by kept s told is in
        (d.0, is_welcomed number version kept marks out (welcome-later c.schema (out_of h.meaning c.out) c.laid c.version number version kept (fit h.meaning)) d.1))
      where
        by : (kept : Bool) → WelcomesTo kept c marks gs → (told : Told) → IsToldOf c.schema told c.store.regions
            → IsToldOf c.schema (if kept then told_by_all c.schema c.laid told else nothing_told) gs
            × DropsWelcomed kept (told_basis c.schema c.store.limits (if kept then told_by_all c.schema c.laid told else nothing_told)) version (past_of c h) marks
        by true s told is = settles-told c h f values (has_lapse c.laid) version marks gs refl s told is
        by false (none, are) told is = (
          subst (IsToldOf c.schema nothing_told) (sym none) (told-none c.schema nothing_told (nothing-is-told c.schema)),
          subst (λ ms. DropsWelcomed false (told_basis c.schema c.store.limits nothing_told) version (past_of c h) ms) (sym are)
              (drops_all c.schema h.marks h.queries (cause_afresh (has_lapse c.laid)) c.store.regions (have-first c.schema f.tables) f.store.each f.store.order f.keeps),
        )

  pub takes-welcome : Stands c → Takes c (Welcome number version kept) (settled_at c version gs) (took.Welcomed version kept marks)
  takes-welcome stands =
      takes-left c values (Welcome number version kept) (took.Welcomed version kept marks) version marks gs (rules.Welcomed version kept marks) refl (λ past. refl) welcome-left (λ h f db here t. welcome-goes h f db here t) welcome-told stands
