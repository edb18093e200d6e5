-- What the reply of an ask does.
use Rattle.std.proofs.Common.{◌≡◌, ℕ, ◌-◌, true, false, List, [], ◌∷◌, length, refl, sym, ◌∙◌, ap, subst, arith, Some, None}
use Rattle.std.specs.List.{list_all}
use Rattle.sr_cell.specs.Cells.{Row}
use Rattle.sr_message.specs.declared.message.Message.TheVariants.{Reply}
use Rattle.sr_model.specs.Queries.{rows_of}
use Rattle.sr_history.specs.declared.mark.Mark.{Mark}
use Rattle.sr_history.specs.Marks.{with_marks}
use Rattle.sr_history.specs.Classes.{Numbered, stamp}
use Rattle.sr_store.specs.declared.store.Store.{Store}
use Rattle.sr_store.specs.Brought.{arrive_in}
use Rattle.sr_store.specs.Told.{Told}
use Rattle.sr_store.proofs.Bringing.{arrivals-are-told}
use Rattle.sr_session.specs.Sessions.{Database, tables_of}
use Rattle.sr_session.specs.Clients as session
use Rattle.sr_session.specs.Clients.{Counting, answered, mirror_of}
use Rattle.sr_session.specs.Laws.{IsAnswerable}
use Rattle.sr_session.specs.Regions.{AreAt, after_messages}
use Rattle.sr_session.specs.Rules.{AnswerStep, answers, answering_then, with_answered, is_given_up}
use Rattle.sr_session.specs.Rules as rules
use Rattle.sr_session.specs.Walks.{AskOut, walked}
use Rattle.sr_session.proofs.RowLemmas.{rows-are-asked}
use Rattle.sr_session.proofs.TakeLemmas.{replies-are-answerable}
use Rattle.sr_session.proofs.TruthLemmas.{laid-messages-keep-true}
use Rattle.sr_session.specs.Bases.{basis_of}
use Rattle.sr_session.specs.Brought.{told_by_all, told_by_reply, told_after, told_basis}
use Rattle.sr_client.specs.Arriving.{arrivals_of}
use Rattle.sr_client.specs.declared.client.AskOut as code
use Rattle.sr_client.specs.declared.client.Client.{Client}
use Rattle.sr_client.specs.declared.steps.Took.TheVariants as took
use Rattle.sr_client.specs.Laying.{asking}
use Rattle.sr_client.specs.Stands.{Hidden, Facts, Stands, StandsOver, Truly, IsFit, past_of}
use Rattle.sr_client.specs.Steps.{Takes}
use Rattle.sr_client.specs.Values.{has_values}
use Rattle.sr_client.specs.ByTold.{GoesByTold}
use Rattle.sr_client.proofs.AskedLemmas.{is-out, tells, laid-store, laid-keeps}
use Rattle.sr_client.proofs.ByToldLemmas.{by-told, laid-told, reply-own}
use Rattle.sr_client.proofs.SuitLemmas.{reply-later}
use Rattle.sr_client.proofs.Calls.{Answers, IsAfter}
use Rattle.sr_client.proofs.CameLemmas.{CameOf, all-came, there-all}
use Rattle.sr_client.proofs.CountLemmas.{set-length}
use Rattle.sr_client.proofs.FinishLemmas.{allows, apiece, came-right, answering}
use Rattle.sr_client.proofs.KeptLemmas.{IsAnswering, AreTrue, from_of, kept, kept-true, kept-told, kept-last, answer-step, told-step}
use Rattle.sr_client.proofs.MeantLemmas.{are-sound, is-joinable, tables-differ}
use Rattle.sr_client.proofs.MirrorLemmas.{at-mirror}
use Rattle.sr_client.proofs.MoveLemmas.{takes-by}
use Rattle.sr_client.proofs.OverLemmas.{on, IsHere}
use Rattle.sr_client.proofs.PartsLemmas.{EachFrom, each-at}

-- ---- the query is answered

-- the client once it is
abbrev pub replied : Client → ℕ → Store → Client
replied c version store = record c { version = version; out = None; laid = []; store = store }

module _ (c : Client) (o : code.AskOut) (number version : ℕ) (store : Store) (marks : List Mark) (rows : List Row) (fit : IsFit (asking c o) (Reply number version)) (whole : is_given_up o.fresh c.laid ≡ false)
    (values : list_all has_values c.laid ≡ true) (gives : Answers o.query (after_messages c.laid c.store.regions) (arrivals_of c.schema o.parts c.laid) rows)
    (made : IsAfter c.schema o.query_number o.query.parts (arrivals_of c.schema o.parts c.laid) (record c.store { regions = after_messages c.laid c.store.regions }) store marks) where
  module _ (h : Hidden) (f : Facts (asking c o) h) where
    abbrev past : session.Client
    past = past_of (asking c o) h

    abbrev queries : List Numbered
    queries = with_answered o.query_number h.meaning h.queries

    know : IsAnswering c.schema o.query_number o.query.parts (arrivals_of c.schema o.parts c.laid) (record c.store { regions = after_messages c.laid c.store.regions }) o.parts h.meaning
        (with_answered o.query_number h.meaning h.queries) (past_of (asking c o) h)
    know = answering c o h f values whole

    abbrev from : Counting
    from = from_of o.query_number h.counted_from made.answered

    abbrev later : Hidden
    later = record { marks = with_marks h.marks marks; queries = with_answered o.query_number h.meaning h.queries; counted_from = from; meaning = h.meaning }

    reply-facts : Facts (replied c version store) later
    reply-facts =
        let k = kept c.schema o.query_number o.query.parts (arrivals_of c.schema o.parts c.laid) (record c.store { regions = after_messages c.laid c.store.regions }) o.parts h.meaning
        (with_answered o.query_number h.meaning h.queries) (past_of (asking c o) h) know store marks made in
        let count : length (with_answered o.query_number h.meaning h.queries) ≡ length h.queries = set-length h.queries (o.query_number - 1) (record { query = h.meaning; answered = true }) in
        let number_is = (is-out c o h f).1.query_is in
        record {
          tables = f.tables;
          tidy = refl;
          down = λ down. refl;
          meant = tt;
          fit = tt;
          store = made.store;
          settled = λ is. made.settled;
          keeps = k.points;
          queries = count ∙ f.queries;
          last = kept-last c.schema o.query_number o.query.parts (arrivals_of c.schema o.parts c.laid) (record c.store { regions = after_messages c.laid c.store.regions }) o.parts h.meaning
              (with_answered o.query_number h.meaning h.queries) (past_of (asking c o) h) know store marks made;
          rows = k.rows;
          few = k.regions;
          from = let few = k.few in omega (arith, few, count, number_is);
          short = k.short;
          ends = k.ends;
        }

    module _ (db : Database) (here : IsHere db (asking c o)) (t : Truly (on c db) (past_of (asking c o) h) (Reply number version)) where
      answerable : IsAnswerable (on c db) (past_of (asking c o) h) t.rest t.session o.number o.query_number h.meaning o.fresh o.parts number version
      answerable =
          replies-are-answerable (on c db) (past_of (asking c o) h) t.connection t.session t.rest o.number o.query_number h.meaning o.fresh o.parts number version t.is_open refl t.first

      now : AreAt (on c db) (record (walked (mirror_of (past_of (asking c o) h)) c.laid) { version = version }) (after_messages c.laid c.store.regions)
      now =
          laid-messages-keep-true (on c db) (past_of (asking c o) h) t.rest t.session o.number o.query_number h.meaning o.fresh o.parts number version c.store.regions here.sound answerable
          (at-mirror (asking c o) h db f here)

      came : EachFrom (CameOf (tables_of db version) c.laid) 0 o.parts
      came =
          each-at (CameOf (tables_of db version) c.laid) o.parts
          (λ k ask at. rows-are-asked (on c db) (past_of (asking c o) h) t.rest t.session o.number o.query_number h.meaning o.fresh o.parts number version k ask answerable at)

      are-true : AreTrue c.schema (tables_of db version) (arrivals_of c.schema o.parts c.laid) (after_messages c.laid c.store.regions)
      are-true =
          let are = here.sound.tables version answerable.within in
          record {
            are_tables = are;
            are_true = now.are_true;
            arrived = all-came c.schema h.marks c.laid (tables_of db version) are 0 o.query.parts h.meaning.parts o.parts (is-out c o h f).1.asks f.meant.0.query.parts
                (are-sound c.schema o.query h.meaning f.meant.0) came;
          }

      -- the rows are the query's at that version
      rows-right : rows ≡ rows_of h.meaning (tables_of db version)
      rows-right =
          let are = here.sound.tables version answerable.within in
          gives c.schema (tables_of db version) h.meaning (is-joinable c.schema (tables_of db version) o.query h.meaning f.meant.0 are.ascending)
          (record { each = now.store.each; are_true = now.are_true })
          (there-all c.schema h.marks c.laid (tables_of db version) are 0 (stamp h.queries) (after_messages c.laid c.store.regions) o.query.parts h.meaning.parts o.parts (is-out c o h f).1.asks
          f.meant.0.query.parts (are-sound c.schema o.query h.meaning f.meant.0) f.meant.0.own (tables-differ c.schema o.query h.meaning f.meant.0) (laid-keeps c o h f values whole) (came-right c o h f values) came)

      reply-goes : rules.TakeStep (basis_of (on c db) c.store.limits) (past_of (asking c o) h) (Reply number version) (rules.Answered o.query_number version rows marks)
          (answered (past_of (asking c o) h) (with_answered o.query_number h.meaning h.queries) from version marks)
          × StandsOver (on c db) (answered (past_of (asking c o) h) (with_answered o.query_number h.meaning h.queries) from version marks) (replied c version store)
      reply-goes =
          let step : AnswerStep (basis_of (on c db) c.store.limits) (answering_then (past_of (asking c o) h) o.query_number h.meaning o.parts version) (past_of (asking c o) h) marks
          (answered (past_of (asking c o) h) (with_answered o.query_number h.meaning h.queries) from version marks) =
          answer-step c.schema o.query_number o.query.parts (arrivals_of c.schema o.parts c.laid) (record c.store { regions = after_messages c.laid c.store.regions }) o.parts h.meaning
          (with_answered o.query_number h.meaning h.queries) (past_of (asking c o) h) know store marks made db version are-true in (
            subst (λ k. rules.TakeStep (basis_of (on c db) c.store.limits) (past_of (asking c o) h) (Reply k version) (rules.Answered o.query_number version rows marks)
                (answered (past_of (asking c o) h) (with_answered o.query_number h.meaning h.queries) from version marks)) (sym answerable.number_is)
                (answers o.number o.query_number h.meaning o.fresh o.parts version rows marks (answered (past_of (asking c o) h) (with_answered o.query_number h.meaning h.queries) from version marks)
                refl whole answerable.later rows-right step),
            record {
              sound = here.sound;
              schema = refl;
              within = answerable.within;
              client = record {
                hidden = later;
                facts = reply-facts;
                same = refl;
                are_true = kept-true c.schema o.query_number o.query.parts (arrivals_of c.schema o.parts c.laid) (record c.store { regions = after_messages c.laid c.store.regions }) o.parts h.meaning
                    (with_answered o.query_number h.meaning h.queries) (past_of (asking c o) h) know store marks made (tables_of db version) are-true;
              };
            },
          )

    -- by the rows that the frames brought
    reply-told : GoesByTold (asking c o) (replied c version store) (told_after c.schema (past_of (asking c o) h) (Reply number version))
        (λ b. rules.TakeStep b (past_of (asking c o) h) (Reply number version) (rules.Answered o.query_number version rows marks)
        (answered (past_of (asking c o) h) (with_answered o.query_number h.meaning h.queries) from version marks))
    reply-told = by-told (asking c o) (replied c version store) (told_after c.schema (past_of (asking c o) h) (Reply number version))
        (λ told. arrive_in (arrivals_of c.schema o.parts c.laid) (told_by_all c.schema c.laid told))
        (λ b. rules.TakeStep b (past_of (asking c o) h) (Reply number version) (rules.Answered o.query_number version rows marks)
        (answered (past_of (asking c o) h) (with_answered o.query_number h.meaning h.queries) from version marks))
        (λ told. ap (λ b. told_by_reply b c.schema o.parts c.laid told) whole)
        (λ told is.
        let may = allows c o h f values whole in
        let brought = arrivals-are-told c.schema o.query.parts (after_messages c.laid c.store.regions) (arrivals_of c.schema o.parts c.laid) (told_by_all c.schema c.laid told)
        (laid-store c o h f values).each may.each may.apart (apiece c o h f values whole) (laid-told c.schema c.laid c.store.regions told f.store.each (tells c o h f values) is) in
        let next : Told = arrive_in (arrivals_of c.schema o.parts c.laid) (told_by_all c.schema c.laid told) in
        let step : AnswerStep (told_basis c.schema c.store.limits next) (answering_then (past_of (asking c o) h) o.query_number h.meaning o.parts version) (past_of (asking c o) h) marks
        (answered (past_of (asking c o) h) (with_answered o.query_number h.meaning h.queries) from version marks) =
        told-step c.schema o.query_number o.query.parts (arrivals_of c.schema o.parts c.laid) (record c.store { regions = after_messages c.laid c.store.regions }) o.parts h.meaning
        (with_answered o.query_number h.meaning h.queries) (past_of (asking c o) h) know store marks made next version brought.0 brought.1 in (
          kept-told c.schema o.query_number o.query.parts (arrivals_of c.schema o.parts c.laid) (record c.store { regions = after_messages c.laid c.store.regions }) o.parts h.meaning
              (with_answered o.query_number h.meaning h.queries) (past_of (asking c o) h) know store marks made next version brought.0 brought.1,
          subst (λ k. rules.TakeStep (told_basis c.schema c.store.limits next) (past_of (asking c o) h) (Reply k version) (rules.Answered o.query_number version rows marks)
              (answered (past_of (asking c o) h) (with_answered o.query_number h.meaning h.queries) from version marks))
              (sym (reply-own c.schema o.number o.query_number h.meaning o.fresh o.parts c.laid c.version number version (fit h.meaning)))
              (answers o.number o.query_number h.meaning o.fresh o.parts version rows marks (answered (past_of (asking c o) h) (with_answered o.query_number h.meaning h.queries) from version marks)
              refl whole (reply-later c.schema (Some (AskOut o.number o.query_number h.meaning o.fresh o.parts)) c.laid c.version number version (fit h.meaning)) tt step),
        ))

  pub takes-reply : Stands (asking c o) → Takes (asking c o) (Reply number version) (replied c version store) (took.Answered o.query_number version rows marks)
  takes-reply stands = takes-by (asking c o) (replied c version store) (Reply number version) (took.Answered o.query_number version rows marks) (λ h f. record {
    outcome = rules.Answered o.query_number version rows marks;
    next = answered (past_of (asking c o) h) (with_answered o.query_number h.meaning h.queries) (from h f) version marks;
    is = refl;
    link = refl;
    draws = omega arith;
    stands = (later h f, reply-facts h f, refl);
    over = λ db here t. reply-goes h f db here t;
  }) reply-told stands
