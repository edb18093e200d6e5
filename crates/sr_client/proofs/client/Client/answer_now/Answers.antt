use Rattle.std.proofs.Common.{[], sym, subst, refl, ◌+◌}
use Rattle.std.specs.List.{All}
use Rattle.std.proofs.lemmas.List.Elements.{All-nil}
use Rattle.sr_store.specs.Answered.{IsArrival}
use Rattle.sr_client.proofs.Calls.{Answers, IsAfter, after-of, answers-of}
use Rattle.sr_client.proofs.QueryLemmas.{answered-now}
use Rattle.sr_client.proofs.MeantLemmas.{Fit, Only, Named, parts-fit, parts-only, parts-named}
use Rattle.sr_client.proofs.client.Client.answer_now.Goals as goal

pub answered-requires-clause-settled : goal.answered-requires-clause-settled
answered-requires-clause-settled c = c.requires.stands.1.settled

pub answered-requires-clause-fit : goal.answered-requires-clause-fit
answered-requires-clause-fit c =
    subst (All (Fit c.args.self.now.schema)) (sym c.as_slice-2.ensures) (parts-fit c.args.self.now.schema c.args.query.now c.requires.meant.0 c.requires.meant.1)

pub answered-requires-clause-only : goal.answered-requires-clause-only
answered-requires-clause-only c =
    subst (All Only) (sym c.as_slice-2.ensures) (parts-only c.args.self.now.schema c.args.query.now c.requires.meant.0 c.requires.meant.1)

pub answered-requires-clause-named : goal.answered-requires-clause-named
answered-requires-clause-named c =
    subst (All (Named c.args.self.now.schema)) (sym c.as_slice-2.ensures) (parts-named c.args.self.now.schema c.args.query.now c.requires.meant.0 c.requires.meant.1)

pub answered-requires-clause-arrivals : goal.answered-requires-clause-arrivals
answered-requires-clause-arrivals c = subst (All (IsArrival c.args.self.now.schema c.as_slice-2.result.now)) (sym c.new.ensures) (All-nil _)

pub returns-clause-queries : goal.returns-clause-queries
returns-clause-queries c = λ meaning is.
    let old = c.args.self.now in
    let query = c.args.query.now in
    let gives : Answers query old.store.regions [] c.in_ok-rows.rows = answers-of query old.store.regions c.as_slice.result.now [] [] c.in_ok-rows.rows c.as_slice.ensures refl c.in_ok-rows.ensures in
    let after : IsAfter old.schema (old.queries + 1) query.parts [] old.store c.answered.new.self c.in_ok-marks.marks =
    after-of old.schema old.schema (old.queries + 1) query.parts c.as_slice-2.result.now [] c.new.result old.store c.answered.new.self c.in_ok-marks.marks refl c.as_slice-2.ensures c.new.ensures
    (record {
      answered = c.in_ok-marks.ensures.answered;
      cuts = c.in_ok-marks.ensures.cuts;
      store = c.in_ok-marks.ensures.store;
      settled = c.in_ok-marks.ensures.settled;
      true_still = c.in_ok-marks.ensures.true_still;
      last = c.in_ok-marks.ensures.last;
      limits = c.in_ok-marks.ensures.limits;
    }) in
    answered-now old query meaning c.answered.new.self c.in_ok-marks.marks c.in_ok-rows.rows c.requires.idle is c.requires.nothing gives after c.requires.stands
