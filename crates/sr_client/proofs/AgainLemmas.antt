-- What a reply does behind a Lapse: the second ask.
use Rattle.std.proofs.Common.{◌≡◌, ℕ, ◌+◌, Bool, true, false, List, [], map, refl, sym, subst, arith, Some, None, ap}
use Rattle.std.proofs.lemmas.List.Elements.{All-nil}
use Rattle.sr_cell.specs.declared.cause.Cause.TheVariants.{Lapsed}
use Rattle.sr_message.specs.declared.message.AskPart.{AskPart}
use Rattle.sr_message.specs.declared.message.Message.{Message}
use Rattle.sr_message.specs.declared.message.Message.TheVariants.{Ask, Reply}
use Rattle.sr_history.specs.declared.mark.Mark.{Mark}
use Rattle.sr_history.specs.Marks.{is_held, with_marks, HoldsNothing}
use Rattle.sr_history.specs.Classes.{stamp}
use Rattle.sr_history.specs.Rests.{Asks}
use Rattle.sr_region.specs.declared.region.Region.{Region}
use Rattle.sr_store.specs.declared.store.Store.{Store}
use Rattle.sr_store.specs.Classes.{Keeps}
use Rattle.sr_store.specs.Brought.{nothing_told}
use Rattle.sr_store.specs.Told.{told_of, IsTrueOf}
use Rattle.sr_store.specs.Stores.{drop_of}
use Rattle.sr_store.proofs.Absorbing.{drops_all}
use Rattle.sr_store.proofs.Covering.{none_held}
use Rattle.sr_store.proofs.Fewer.{none_store, none_settled}
use Rattle.sr_store.proofs.Stepping.{dropped_marks}
use Rattle.sr_session.specs.Sessions.{Database, tables_of}
use Rattle.sr_session.specs.Clients.{asks_again}
use Rattle.sr_session.specs.Laws.{IsAnswerable}
use Rattle.sr_session.specs.Rules.{AskSent, asks_once_more, counted, is_given_up}
use Rattle.sr_session.specs.Rules as rules
use Rattle.sr_session.specs.Walks.{AskOut}
use Rattle.sr_session.proofs.DropLemmas.{asks-some}
use Rattle.sr_session.proofs.TakeLemmas.{replies-are-answerable}
use Rattle.sr_session.specs.Bases.{basis_of}
use Rattle.sr_session.specs.Brought.{told_after, told_basis, told_by_reply}
use Rattle.sr_client.specs.Asking.{whole_asks}
use Rattle.sr_client.specs.Cutting.{EndWith}
use Rattle.sr_client.specs.declared.client.AskOut as code
use Rattle.sr_client.specs.declared.client.Client.{Client}
use Rattle.sr_client.specs.declared.client.Request.TheVariants as request
use Rattle.sr_client.specs.declared.steps.Took.TheVariants as took
use Rattle.sr_client.specs.Laying.{asking}
use Rattle.sr_client.specs.Sends.{IsWellSent}
use Rattle.sr_client.specs.Stands.{Hidden, Facts, Stands, StandsOver, Truly, IsFit, past_of}
use Rattle.sr_client.specs.Steps.{Takes}
use Rattle.sr_client.proofs.AskLemmas.{asks-whole, whole-along}
use Rattle.sr_client.specs.ByTold.{GoesByTold}
use Rattle.sr_client.proofs.AskedLemmas.{is-out}
use Rattle.sr_client.proofs.ByToldLemmas.{by-told, nothing-is-told, reply-own, told-none}
use Rattle.sr_client.proofs.SuitLemmas.{reply-later}
use Rattle.sr_client.proofs.MeantLemmas.{are-sound}
use Rattle.sr_client.proofs.MoveLemmas.{takes-by}
use Rattle.sr_client.proofs.OverLemmas.{on, IsHere, stands-over}
use Rattle.sr_client.proofs.SendLemmas.{whole-rects}
use Rattle.sr_client.proofs.SendableLemmas.{ask-sent}
use Rattle.sr_client.proofs.TableLemmas.{have-first}

-- the second ask of the query
abbrev pub second : Client → code.AskOut → code.AskOut
second c o = record { number = c.next_request; query_number = o.query_number; query = o.query; fresh = true; parts = whole_asks o.query.parts }

-- the client once it is out
abbrev pub once_more : Client → code.AskOut → ℕ → Client
once_more c o version = record c { version = version; next_request = c.next_request + 1; out = Some (request.Ask (second c o)); laid = []; store = record c.store { regions = [] } }

module _ (c : Client) (o : code.AskOut) (number version : ℕ) (fit : IsFit (asking c o) (Reply number version)) (again : is_given_up o.fresh c.laid ≡ true) where
  abbrev drops : List Mark
  drops = map (drop_of Lapsed) c.store.regions

  abbrev whole : List AskPart
  whole = whole_asks o.query.parts

  module _ (h : Hidden) (f : Facts (asking c o) h) where
    abbrev later : Hidden
    later = record h { marks = with_marks h.marks drops }

    keeps : Keeps c.schema (is_held (with_marks h.marks (map (drop_of Lapsed) c.store.regions))) (stamp h.queries) []
    keeps = dropped_marks c.schema Lapsed h.marks (stamp h.queries) c.store.regions f.keeps

    none : HoldsNothing c.schema (with_marks h.marks (map (drop_of Lapsed) c.store.regions))
    none = none_held c.schema (with_marks h.marks (map (drop_of Lapsed) c.store.regions)) (stamp h.queries) keeps

    asks : Asks c.schema (with_marks h.marks (map (drop_of Lapsed) c.store.regions)) h.meaning.parts (whole_asks o.query.parts)
    asks =
        asks-whole c.schema o.query.parts (have-first c.schema f.tables) (with_marks h.marks (map (drop_of Lapsed) c.store.regions)) (stamp h.queries) h.meaning.parts keeps f.meant.0.query.parts
        (are-sound c.schema o.query h.meaning f.meant.0)

    some : whole_asks o.query.parts ≡ [] → ⊥
    some = asks-some c.schema h.marks (with_marks h.marks (map (drop_of Lapsed) c.store.regions)) none h.meaning.parts o.parts (whole_asks o.query.parts) (is-out c o h f).1.asks asks (is-out c o h f).1.some

    again-facts : Facts (once_more c o version) later
    again-facts = record {
      tables = f.tables;
      tidy = (
        (
          refl,
          record {
            asks = asks;
            some = some;
            fresh_where = (λ yes. none, λ no. refl);
            earlier = (is-out c o h f).1.earlier;
            newest = (is-out c o h f).1.newest;
            query_is = (is-out c o h f).1.query_is;
          },
        ),
        tt,
      );
      down = λ down. absurd (let wrong : Some (request.Ask o) ≡ None = f.down down in cc);
      meant = (
        f.meant.0,
        f.meant.1,
        whole-along c.schema o.query.parts (counted h.counted_from h.queries) (All-nil (λ (g : Region). EndWith c.schema (counted h.counted_from h.queries) g.table g.rects)) f.meant.1,
        whole-rects c.schema o.query h.meaning f.meant.0,
      );
      fit = tt;
      store = none_store c.schema c.store.regions f.store;
      settled = λ is. none_settled c.schema;
      keeps = keeps;
      queries = f.queries;
      last = f.last;
      rows = omega arith;
      few = omega arith;
      from = f.from;
      short = f.short;
      ends = All-nil (λ (g : Region). EndWith c.schema (counted h.counted_from h.queries) g.table g.rects);
    }

    again-up : c.cut ≡ false
    again-up = by c.cut refl
      where
        by : (cut : Bool) → c.cut ≡ cut → cut ≡ false
        by true down = absurd (let wrong : Some (request.Ask o) ≡ None = f.down down in cc)
        by false up = refl

    pub again-sent : IsWellSent c.schema c.id (Ask c.next_request true whole)
    again-sent =
        ask-sent c.schema c.id c.next_request true (with_marks h.marks (map (drop_of Lapsed) c.store.regions)) (counted h.counted_from h.queries) o.query h.meaning (whole_asks o.query.parts) f.tables f.meant.0 asks some
        f.short
        (whole-along c.schema o.query.parts (counted h.counted_from h.queries) (All-nil (λ (g : Region). EndWith c.schema (counted h.counted_from h.queries) g.table g.rects)) f.meant.1) (whole-rects c.schema o.query h.meaning f.meant.0)

    again-goes : (db : Database) → IsHere db (asking c o) → Truly (on c db) (past_of (asking c o) h) (Reply number version)
        → rules.TakeStep (basis_of (on c db) c.store.limits) (past_of (asking c o) h) (Reply number version) (AskSent drops c.next_request true whole)
        (asks_again (past_of (asking c o) h) version drops o.query_number h.meaning whole)
        × StandsOver (on c db) (asks_again (past_of (asking c o) h) version drops o.query_number h.meaning whole) (once_more c o version)
    again-goes db here t =
        let answerable : IsAnswerable (on c db) (past_of (asking c o) h) t.rest t.session o.number o.query_number h.meaning o.fresh o.parts number version =
        replies-are-answerable (on c db) (past_of (asking c o) h) t.connection t.session t.rest o.number o.query_number h.meaning o.fresh o.parts number version t.is_open refl t.first in (
          subst (λ k. rules.TakeStep (basis_of (on c db) c.store.limits) (past_of (asking c o) h) (Reply k version) (AskSent drops c.next_request true whole)
              (asks_again (past_of (asking c o) h) version drops o.query_number h.meaning whole)) (sym answerable.number_is)
              (asks_once_more o.number o.query_number h.meaning o.fresh o.parts version drops whole refl again answerable.later
              (drops_all c.schema h.marks h.queries Lapsed c.store.regions (have-first c.schema f.tables) f.store.each f.store.order f.keeps) asks
              (whole-rects c.schema o.query h.meaning f.meant.0)),
          stands-over (once_more c o version) later db again-facts (record {
            sound = here.sound;
            within = answerable.within;
            are_true = All-nil (IsTrueOf (told_of (tables_of db version)));
          }),
        )

    again-told : GoesByTold (asking c o) (once_more c o version) (told_after c.schema (past_of (asking c o) h) (Reply number version))
        (λ b. rules.TakeStep b (past_of (asking c o) h) (Reply number version) (AskSent drops c.next_request true whole) (asks_again (past_of (asking c o) h) version drops o.query_number h.meaning whole))
    again-told = by-told (asking c o) (once_more c o version) (told_after c.schema (past_of (asking c o) h) (Reply number version)) (λ told. nothing_told)
        (λ b. rules.TakeStep b (past_of (asking c o) h) (Reply number version) (AskSent drops c.next_request true whole) (asks_again (past_of (asking c o) h) version drops o.query_number h.meaning whole))
        (λ told. ap (λ b. told_by_reply b c.schema o.parts c.laid told) again)
        (λ told is. (
          told-none c.schema nothing_told (nothing-is-told c.schema),
          subst (λ k. rules.TakeStep (told_basis c.schema c.store.limits nothing_told) (past_of (asking c o) h) (Reply k version) (AskSent drops c.next_request true whole)
              (asks_again (past_of (asking c o) h) version drops o.query_number h.meaning whole))
              (sym (reply-own c.schema o.number o.query_number h.meaning o.fresh o.parts c.laid c.version number version (fit h.meaning)))
              (asks_once_more o.number o.query_number h.meaning o.fresh o.parts version drops whole refl again
              (reply-later c.schema (Some (AskOut o.number o.query_number h.meaning o.fresh o.parts)) c.laid c.version number version (fit h.meaning))
              (drops_all c.schema h.marks h.queries Lapsed c.store.regions (have-first c.schema f.tables) f.store.each f.store.order f.keeps) asks
              (whole-rects c.schema o.query h.meaning f.meant.0)),
        ))

  pub takes-again : Stands (asking c o) → Takes (asking c o) (Reply number version) (once_more c o version) (took.Asked c.next_request (Ask c.next_request true whole) drops)
  takes-again stands = takes-by (asking c o) (once_more c o version) (Reply number version) (took.Asked c.next_request (Ask c.next_request true whole) drops) (λ h f. record {
    outcome = AskSent drops c.next_request true whole;
    next = asks_again (past_of (asking c o) h) version drops o.query_number h.meaning whole;
    is = (true, whole, refl, refl);
    link = (again-up h f, again-up h f, λ none. absurd (let wrong : Some (AskOut c.next_request o.query_number h.meaning true whole) ≡ None = none in cc));
    draws = omega arith;
    stands = (later h f, again-facts h f, refl);
    over = again-goes h f;
  }) again-told stands

-- the same, of what calls gave
pub again-of : (c : Client) (o : code.AskOut) (number version : ℕ) → IsFit (asking c o) (Reply number version) → is_given_up o.fresh c.laid ≡ true
    → (drops : List Mark) (store : Store) (laid : List Message) (next : code.AskOut) (message : Message) (after : Client)
    → drops ≡ map (drop_of Lapsed) c.store.regions → store ≡ record c.store { regions = [] } → laid ≡ [] → next ≡ second c o → message ≡ Ask next.number next.fresh next.parts
    → after ≡ record c { next_request = next.number + 1; out = Some (request.Ask next); store = store } → Stands (asking c o)
    → Takes (asking c o) (Reply number version) (record after { version = version; laid = laid }) (took.Asked c.next_request message drops)
again-of c o number version fit again drops store laid next message after drops_are store_is laid_is next_is told after_is stands =
    rw (told, after_is, laid_is, store_is, drops_are, next_is) (takes-again c o number version fit again stands)
