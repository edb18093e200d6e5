-- What messages do that come while nothing is out.
use Rattle.std.proofs.Common.{◌≡◌, ℕ, ◌≤◌, List, [], ◌∷◌, map, refl, sym, ap, subst, arith, None}
use Rattle.std.specs.List.{All, Contains}
use Rattle.std.proofs.lemmas.List.Elements.{All-nil, All-weaker, All-contains, All-map}
use Rattle.sr_cell.specs.declared.cause.Cause.TheVariants.{Lapsed}
use Rattle.sr_cell.specs.declared.table.Table.{Table}
use Rattle.sr_message.specs.declared.message.Message.{Message}
use Rattle.sr_message.specs.declared.message.Message.TheVariants.{Hello, Resume, Ask, Write, Welcome, Notice, Rows, Reply, Written, Refused, Lapse}
use Rattle.sr_message.specs.declared.message.Tell.{Tell}
use Rattle.sr_model.specs.Queries.{Query}
use Rattle.sr_history.specs.declared.mark.Mark.{Mark}
use Rattle.sr_history.specs.Marks.{is_held, with_marks}
use Rattle.sr_history.specs.Classes.{stamp}
use Rattle.sr_region.specs.declared.region.Region.{Region}
use Rattle.sr_store.specs.Classes.{Keeps}
use Rattle.sr_store.specs.Told.{told_of, IsTrueOf}
use Rattle.sr_store.specs.Stores.{drop_of}
use Rattle.sr_store.specs.Noticed.{told_to, IsTellOf}
use Rattle.sr_store.specs.Fitted.{IsFitted}
use Rattle.sr_store.proofs.Absorbing.{drops_all}
use Rattle.sr_store.proofs.Fewer.{fitted_fit_still, none_store, none_settled}
use Rattle.sr_store.specs.Brought.{nothing_told, tells_all}
use Rattle.sr_store.proofs.Bringing.{notices-are-told}
use Rattle.sr_store.proofs.Meeting.{fitted_meets_budgets, fitted_meets_told_budgets}
use Rattle.sr_store.proofs.Noticing.{notices-classes}
use Rattle.sr_store.proofs.Stepping.{dropped_marks}
use Rattle.sr_store.proofs.Storing.{store-told, settled-told}
use Rattle.sr_store.proofs.Telling.{only-rows}
use Rattle.sr_session.specs.Sessions.{Database, newest, tables_of}
use Rattle.sr_session.specs.Places.{held}
use Rattle.sr_session.specs.Walks.{Walks, noticed, forgot}
use Rattle.sr_session.specs.Clients as session
use Rattle.sr_session.specs.Clients.{Flows, is_idle, mirror_of}
use Rattle.sr_session.specs.Rules.{Applied, Forgot, applies, forgets, counted}
use Rattle.sr_session.specs.Rules as rules
use Rattle.sr_session.specs.Tidy.{IsTidyWith}
use Rattle.sr_session.proofs.TruthLemmas.{noted}
use Rattle.sr_session.proofs.WalkLemmas.{walks-later}
use Rattle.sr_session.specs.Bases.{basis_of}
use Rattle.sr_session.specs.Brought.{told_after, told_where}
use Rattle.sr_client.specs.ByTold.{GoesByTold}
use Rattle.sr_client.proofs.SuitLemmas.{notice-later, lapse-later}
use Rattle.sr_client.proofs.ByToldLemmas.{by-told, nothing-is-told, told-none, told-some}
use Rattle.sr_client.specs.Cutting.{EndWith, RegionsEnd}
use Rattle.sr_client.specs.declared.client.Client.{Client}
use Rattle.sr_client.specs.declared.steps.Took.TheVariants as took
use Rattle.sr_client.specs.Stands.{Hidden, Facts, Stands, StandsOver, Truly, IsFit, past_of, out_of, AreFit}
use Rattle.sr_client.specs.Steps.{Takes}
use Rattle.sr_client.proofs.FitLemmas.{fitted-keeps}
use Rattle.sr_client.proofs.MirrorLemmas.{at-mirror}
use Rattle.sr_client.proofs.MoveLemmas.{takes-by}
use Rattle.sr_client.proofs.OverLemmas.{on, IsHere, stands-over}
use Rattle.sr_client.proofs.QueryLemmas.{none-laid}
use Rattle.sr_client.proofs.TableLemmas.{have-first}

-- the client at a version, with these regions
abbrev pub at_version : Client → ℕ → List Region → Client
at_version c version gs = record c { version = version; store = record c.store { regions = gs } }

abbrev pub with_drops : Hidden → List Mark → Hidden
with_drops h drops = record h { marks = with_marks h.marks drops }

-- ---- what is promised while nothing is out

-- the walk through what comes
idle-walk : (db : Database) (past : session.Client) (m : Message) (t : Truly db past m) → past.out ≡ None → Walks db None (mirror_of past) (m ∷ t.rest) t.session
idle-walk db past m t out = by (subst (Flows db past t.connection t.session) out t.is_open.flows)
  where
    by : Flows db past t.connection t.session None → Walks db None (mirror_of past) (m ∷ t.rest) t.session
    by (is_idle empty laid walks) = subst (λ ms. Walks db None (mirror_of past) ms t.session) t.first walks

-- ---- a notice

pub told-end : (schema : List Table) (queries : List Query) (told : List Tell) (gs : List Region) → RegionsEnd schema queries gs → RegionsEnd schema queries (map (told_to told) gs)
told-end schema queries told gs ends =
    All-map (λ (g : Region). EndWith schema queries g.table g.rects) (told_to told) gs
    (All-weaker (λ (g : Region). EndWith schema queries g.table g.rects) (λ g. EndWith schema queries (told_to told g).table (told_to told g).rects)
    (λ g e. subst (λ (r : Region). EndWith schema queries r.table r.rects) (sym (only-rows told g)) e) gs ends)

module _ (c : Client) (version : ℕ) (told : List Tell) (new : List Region) (drops : List Mark) (out : c.out ≡ None) (fit : IsFit c (Notice version told)) (tells : All (IsTellOf c.schema) told)
    (fitted : IsFitted c.schema c.store.limits c.store.last (map (told_to told) c.store.regions) new drops) where
  module _ (h : Hidden) (f : Facts c h) where
    noticed-keeps : Keeps c.schema (is_held h.marks) (stamp h.queries) (map (told_to told) c.store.regions)
    noticed-keeps = notices-classes c.schema (is_held h.marks) (stamp h.queries) told c.store.regions f.keeps

    notice-facts : Facts (at_version c version new) (with_drops h drops)
    notice-facts =
        let still = fitted_fit_still c.schema c.store.limits c.store.last (map (told_to told) c.store.regions) new drops fitted in
        let laid = none-laid c h f out in
        record {
          tables = f.tables;
          tidy = subst (λ o. IsTidyWith c.schema (past_of (at_version c version new) (with_drops h drops)) (out_of h.meaning o)) (sym out) laid;
          down = f.down;
          meant = f.meant;
          fit = subst (AreFit c.schema (out_of h.meaning c.out) version []) (sym laid) tt;
          store = still.store (store-told c.schema told c.store.regions f.store tells);
          settled = λ is. still.settled (settled-told c.schema told c.store.regions (f.settled is));
          keeps = fitted-keeps c.schema c.store.limits c.store.last h.marks (stamp h.queries) (map (told_to told) c.store.regions) new drops fitted noticed-keeps;
          queries = f.queries;
          last = f.last;
          rows = still.rows;
          few = still.regions;
          from = f.from;
          short = f.short;
          ends =
              let ends = told-end c.schema (counted h.counted_from h.queries) told c.store.regions f.ends in
              All-weaker (Contains (map (told_to told) c.store.regions)) (λ (g : Region). EndWith c.schema (counted h.counted_from h.queries) g.table g.rects)
              (λ g some. All-contains (λ (g : Region). EndWith c.schema (counted h.counted_from h.queries) g.table g.rects) (map (told_to told) c.store.regions) g ends some) new still.some;
        }

    notice-goes : (db : Database) → IsHere db c → Truly (on c db) (past_of c h) (Notice version told)
        → rules.TakeStep (basis_of (on c db) c.store.limits) (past_of c h) (Notice version told) (Applied version drops) (past_of (at_version c version new) (with_drops h drops))
        × StandsOver (on c db) (past_of (at_version c version new) (with_drops h drops)) (at_version c version new)
    notice-goes db here t =
        let walks = idle-walk (on c db) (past_of c h) (Notice version told) t (ap (out_of h.meaning) out) in
        let later = walks-later (on c db) None (noticed (mirror_of (past_of c h)) version) t.rest t.session walks.1 in
        let upto = t.is_open.upto in
        let below : version ≤ newest db = omega (arith, later, upto) in
        let up = walks.0.0 in
        let at = at-mirror c h db f here in
        let now = noted (on c db) (held h.marks) c.version version told c.store.regions walks.0.0 (λ u under. here.sound.tables u (omega (arith, under, below))) walks.0.1 walks.0.2
        (record { store = at.store; lie = at.lie; are_true = at.are_true }) in
        let met = fitted_meets_budgets c.schema (tables_of db version) c.store.limits h.marks h.queries c.store.last (map (told_to told) c.store.regions) new drops f.tables (here.sound.tables version below) now.store
        noticed-keeps now.are_true f.last fitted in
        let still = fitted_fit_still c.schema c.store.limits c.store.last (map (told_to told) c.store.regions) new drops fitted in (
          applies version told drops (ap (out_of h.meaning) out) (omega (arith, up)) met.0,
          stands-over (at_version c version new) (with_drops h drops) db notice-facts (record {
            sound = here.sound;
            within = below;
            are_true = All-weaker (Contains (map (told_to told) c.store.regions)) (IsTrueOf (told_of (tables_of db version)))
                (λ g some. All-contains (IsTrueOf (told_of (tables_of db version))) (map (told_to told) c.store.regions) g now.are_true some) new still.some;
          }),
        )

    notice-told : GoesByTold c (at_version c version new) (told_after c.schema (past_of c h) (Notice version told))
        (λ b. rules.TakeStep b (past_of c h) (Notice version told) (Applied version drops) (past_of (at_version c version new) (with_drops h drops)))
    notice-told = by-told c (at_version c version new) (told_after c.schema (past_of c h) (Notice version told)) (tells_all c.schema told)
        (λ b. rules.TakeStep b (past_of c h) (Notice version told) (Applied version drops) (past_of (at_version c version new) (with_drops h drops)))
        (λ rows. ap (λ o. told_where c.schema o c.laid (Notice version told) rows) (ap (out_of h.meaning) out))
        (λ rows is.
        let now = notices-are-told c.schema told rows c.store.regions tells f.store.each is in
        let up = notice-later c.schema (out_of h.meaning c.out) c.laid c.version version told (fit h.meaning) in
        let met = fitted_meets_told_budgets c.schema (tells_all c.schema told rows) c.store.limits h.marks h.queries c.store.last (map (told_to told) c.store.regions) new drops f.tables now.0
        (store-told c.schema told c.store.regions f.store tells) noticed-keeps now.1 f.last fitted in
        let still = fitted_fit_still c.schema c.store.limits c.store.last (map (told_to told) c.store.regions) new drops fitted in (
          told-some c.schema (tells_all c.schema told rows) (map (told_to told) c.store.regions) new still.some now,
          applies version told drops (ap (out_of h.meaning) out) (omega (arith, up)) met,
        ))

  pub takes-notice : Stands c → Takes c (Notice version told) (at_version c version new) (took.Applied version drops)
  takes-notice stands = takes-by c (at_version c version new) (Notice version told) (took.Applied version drops) (λ h f. record {
    outcome = Applied version drops;
    next = past_of (at_version c version new) (with_drops h drops);
    is = refl;
    link = refl;
    draws = omega arith;
    stands = (with_drops h drops, notice-facts h f, refl);
    over = notice-goes h f;
  }) notice-told stands

-- ---- a Lapse

module _ (c : Client) (version : ℕ) (out : c.out ≡ None) (fit : IsFit c (Lapse version)) where
  abbrev drops : List Mark
  drops = map (drop_of Lapsed) c.store.regions

  module _ (h : Hidden) (f : Facts c h) where
    lapse-facts : Facts (at_version c version []) (with_drops h (map (drop_of Lapsed) c.store.regions))
    lapse-facts =
        let laid = none-laid c h f out in
        record {
          tables = f.tables;
          tidy = subst (λ o. IsTidyWith c.schema (past_of (at_version c version []) (with_drops h (map (drop_of Lapsed) c.store.regions))) (out_of h.meaning o)) (sym out) laid;
          down = f.down;
          meant = f.meant;
          fit = subst (AreFit c.schema (out_of h.meaning c.out) version []) (sym laid) tt;
          store = none_store c.schema c.store.regions f.store;
          settled = λ is. none_settled c.schema;
          keeps = dropped_marks c.schema Lapsed h.marks (stamp h.queries) c.store.regions f.keeps;
          queries = f.queries;
          last = f.last;
          rows = omega arith;
          few = omega arith;
          from = f.from;
          short = f.short;
          ends = All-nil (λ (g : Region). EndWith c.schema (counted h.counted_from h.queries) g.table g.rects);
        }

    lapse-goes : (db : Database) → IsHere db c → Truly (on c db) (past_of c h) (Lapse version)
        → rules.TakeStep (basis_of (on c db) c.store.limits) (past_of c h) (Lapse version) (Forgot version (map (drop_of Lapsed) c.store.regions))
        (past_of (at_version c version []) (with_drops h (map (drop_of Lapsed) c.store.regions)))
        × StandsOver (on c db) (past_of (at_version c version []) (with_drops h (map (drop_of Lapsed) c.store.regions))) (at_version c version [])
    lapse-goes db here t =
        let walks = idle-walk (on c db) (past_of c h) (Lapse version) t (ap (out_of h.meaning) out) in
        let later = walks-later (on c db) None (forgot (mirror_of (past_of c h)) version) t.rest t.session walks.1 in
        let upto = t.is_open.upto in
        let below : version ≤ newest db = omega (arith, later, upto) in
        let up = walks.0 in (
          forgets version (map (drop_of Lapsed) c.store.regions) (ap (out_of h.meaning) out) (omega (arith, up))
              (drops_all c.schema h.marks h.queries Lapsed c.store.regions (have-first c.schema f.tables) f.store.each f.store.order f.keeps),
          stands-over (at_version c version []) (with_drops h (map (drop_of Lapsed) c.store.regions)) db lapse-facts (record {
            sound = here.sound;
            within = below;
            are_true = All-nil (IsTrueOf (told_of (tables_of db version)));
          }),
        )

    lapse-told : GoesByTold c (at_version c version []) (told_after c.schema (past_of c h) (Lapse version))
        (λ b. rules.TakeStep b (past_of c h) (Lapse version) (Forgot version (map (drop_of Lapsed) c.store.regions)) (past_of (at_version c version []) (with_drops h (map (drop_of Lapsed) c.store.regions))))
    lapse-told = by-told c (at_version c version []) (told_after c.schema (past_of c h) (Lapse version)) (λ told. nothing_told)
        (λ b. rules.TakeStep b (past_of c h) (Lapse version) (Forgot version (map (drop_of Lapsed) c.store.regions)) (past_of (at_version c version []) (with_drops h (map (drop_of Lapsed) c.store.regions))))
        (λ rows. ap (λ o. told_where c.schema o c.laid (Lapse version) rows) (ap (out_of h.meaning) out))
        (λ rows is.
        let up = lapse-later c.schema (out_of h.meaning c.out) c.laid c.version version (fit h.meaning) in (
          told-none c.schema nothing_told (nothing-is-told c.schema),
          forgets version (map (drop_of Lapsed) c.store.regions) (ap (out_of h.meaning) out) (omega (arith, up))
              (drops_all c.schema h.marks h.queries Lapsed c.store.regions (have-first c.schema f.tables) f.store.each f.store.order f.keeps),
        ))

  pub takes-lapse : Stands c → Takes c (Lapse version) (at_version c version []) (took.Forgot version (map (drop_of Lapsed) c.store.regions))
  takes-lapse stands = takes-by c (at_version c version []) (Lapse version) (took.Forgot version (map (drop_of Lapsed) c.store.regions)) (λ h f. record {
    outcome = Forgot version (map (drop_of Lapsed) c.store.regions);
    next = past_of (at_version c version []) (with_drops h (map (drop_of Lapsed) c.store.regions));
    is = refl;
    link = refl;
    draws = omega arith;
    stands = (with_drops h (map (drop_of Lapsed) c.store.regions), lapse-facts h f, refl);
    over = lapse-goes h f;
  }) lapse-told stands

-- ---- no other message

-- each other message would have been refused
pub rest-only : (c : Client) (m : Message) → c.out ≡ None → IsFit c m → ((version : ℕ) (told : List Tell) → m ≡ Notice version told → ⊥) → ((version : ℕ) → m ≡ Lapse version → ⊥) → (meaning : Query) → ⊥
rest-only c (Notice w told) out fit notice lapse meaning = notice w told refl
rest-only c (Lapse w) out fit notice lapse meaning = lapse w refl
rest-only c (Rows k part rows) out fit notice lapse meaning = absurd (let e = fit meaning in grind (arith, e, out))
rest-only c (Reply k w) out fit notice lapse meaning = absurd (let e = fit meaning in grind (arith, e, out))
rest-only c (Written k w) out fit notice lapse meaning = absurd (let e = fit meaning in grind (arith, e, out))
rest-only c (Refused k fault) out fit notice lapse meaning = absurd (let e = fit meaning in grind (arith, e, out))
rest-only c (Welcome k w kept) out fit notice lapse meaning = absurd (let e = fit meaning in grind (arith, e, out))
rest-only c (Hello wire client n) out fit notice lapse meaning = absurd (let e = fit meaning in cc)
rest-only c (Resume wire client n v holdings) out fit notice lapse meaning = absurd (let e = fit meaning in cc)
rest-only c (Ask n mode parts) out fit notice lapse meaning = absurd (let e = fit meaning in cc)
rest-only c (Write n sql) out fit notice lapse meaning = absurd (let e = fit meaning in cc)
