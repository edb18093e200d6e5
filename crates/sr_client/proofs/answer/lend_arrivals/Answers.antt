use Rattle.std.proofs.Common.{rules, ◌≡◌, ◌∷◌, [], ◌++◌, sym, List, subst, take, arith}
use Rattle.std.specs.Prelude.{filter}
use Rattle.std.proofs.lemmas.Bool.Decides.{nat_tests}
use Rattle.sr_model.specs.Queries.{rows_at}
use Rattle.sr_region.specs.Regions.{is_in}
use Rattle.sr_store.specs.declared.store.Arrival.{Arrival}
use Rattle.sr_store.specs.Told.{told_of}
use Rattle.sr_join.specs.declared.runs.Run.{Run}
use Rattle.sr_client.specs.Answering.{is_new, LendsMore, Suits}
use Rattle.sr_client.proofs.Items.{take-item, take-end}
use Rattle.sr_client.proofs.LendLemmas.{lends-no_arrival, lent-arrival, passed-arrival}
use Rattle.sr_client.proofs.answer.lend_arrivals.Goals.{then-arrival-part+in_ok-lend, else-arrival-part}
use Rattle.sr_client.proofs.answer.lend_arrivals.Goals as goal

pub loop-arrival-init : goal.loop-arrival-init
loop-arrival-init c = λ schema tables o rows. lends-no_arrival c.args.number c.args.part.now (rows_at tables c.args.part.now.table) c.args.lending.now.runs

pub returns : goal.returns
returns c = λ schema tables o rows.
    let part = c.args.part.now in
    subst (λ rs. LendsMore c.args.number part.need (rows_at tables part.table) (is_new part rs) c.args.lending.now.runs c.loop-arrival.lending.runs)
    (take-end c.args.arrivals.now c.loop-arrival.arrival-index c.loop-arrival-test.false) (c.loop-arrival.invariant schema tables o rows)

pub loop-arrival-preserved : goal.loop-arrival-preserved
loop-arrival-preserved c = λ schema tables o rows.
    let i = c.loop-arrival.arrival-index in
    let number = c.args.number in
    let part = c.args.part.now in
    let r : Arrival = c.arrival-item.result in
    let before = c.loop-arrival.invariant schema tables o rows in
    let suits = subst (Suits schema part) (sym c.arrival-item.is) (rows.suit i r (search rules)) in
    let is_true = subst (λ (r : Arrival). r.rows ≡ filter (is_in r.attrs r.rects) (told_of tables r.table r.attrs)) (sym c.arrival-item.is) (rows.arrived i r (search rules)) in
    let items = take-item c.args.arrivals.now i r (search rules) c.arrival-item.is in
    let first : List Run = c.args.lending.now.runs in
    let old : List Run = c.loop-arrival.lending.runs in
    subst (λ rs. LendsMore number part.need (rows_at tables part.table) (is_new part rs) first c.if-arrival-part.lending.runs) (sym items)
    (elim c.if-arrival-part.branch [
      | then-arrival-part+in_ok-lend w ↦
          subst (λ l. LendsMore number part.need (rows_at tables part.table) (is_new part (take i c.args.arrivals.now ++ r ∷ [])) first l.runs) (sym w.lending-is)
          (subst (LendsMore number part.need (rows_at tables part.table) (is_new part (take i c.args.arrivals.now ++ r ∷ [])) first) (sym w.in_ok-lend.ensures.lent)
          (lent-arrival schema tables number part (take i c.args.arrivals.now) r w.arrived_in.result first old o suits is_true (let test = w.if-arrival-part.true in grind (arith, nat_tests, test)) w.arrived_in.ensures.attrs w.arrived_in.ensures.rows before))
      | else-arrival-part w ↦
          subst (λ l. LendsMore number part.need (rows_at tables part.table) (is_new part (take i c.args.arrivals.now ++ r ∷ [])) first l.runs) (sym w.lending-is)
          (passed-arrival schema tables number part (take i c.args.arrivals.now) r first old (let test = w.if-arrival-part.false in grind (arith, nat_tests, test)) before)
    ])
