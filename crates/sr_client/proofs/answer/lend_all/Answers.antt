use Rattle.std.proofs.Common.{rules, ◌≡◌, ◌<◌, ◌≤◌, List, length, get_or, subst, arith}
use Rattle.sr_model.specs.Queries.{rows_at}
use Rattle.sr_query.specs.declared.query.Part.{Part}
use Rattle.sr_join.specs.declared.runs.Run.{Run}
use Rattle.sr_client.specs.Answering.{is_new, IsPartOver, BringRows, LendsMore, IsThere}
use Rattle.sr_client.proofs.Items.{read-same}
use Rattle.sr_client.proofs.LendLemmas.{lent-part, lent-all}
use Rattle.sr_client.proofs.MeantLemmas.{zip-length}
use Rattle.sr_client.proofs.answer.lend_all.Goals as goal

pub loop-i-preserved : goal.loop-i-preserved
loop-i-preserved c = λ schema tables meaning joins have there.
    let query = c.args.query.now in
    let arrivals = c.args.arrivals.now in
    let i = c.loop-i.i in
    let part : Part = c.index-parts-i.result in
    let again : Part = c.index-parts-i-in-loop-i.result in
    let mid : List Run = c.lend_regions.new.lending.runs in
    let new : List Run = c.lend_arrivals.new.lending.runs in
    let listed : i < length c.as_slice-parts.result.now = search rules in
    let within : i < length query.parts = subst (λ ps. i < length ps) c.as_slice-parts.ensures listed in
    let is : part ≡ get_or query.parts i part = subst (λ ps. part ≡ get_or ps i part) c.as_slice-parts.ensures c.index-parts-i.is in
    let same : again ≡ part = read-same c.as_slice-parts.result.now i again part listed c.index-parts-i-in-loop-i.is c.index-parts-i.is in
    lent-part schema tables query meaning c.args.regions.now arrivals i part c.loop-i.lending.runs mid new joins there within is (λ over. c.in_ok-lend_regions.ensures schema tables over have)
    (subst (λ (p : Part). IsPartOver schema tables p → BringRows schema tables p arrivals → LendsMore i p.need (rows_at tables p.table) (is_new p arrivals) mid new) same (c.in_ok-lend_arrivals.ensures schema tables))
    (c.loop-i.invariant schema tables meaning joins have there)

pub returns : goal.returns
returns c = λ schema tables meaning joins have there.
    let query = c.args.query.now in
    let runs : List Run = c.loop-i.lending.runs in
    let listed : length c.as_slice-parts.result.now ≤ c.loop-i.i = search rules in
    let past : length query.parts ≤ c.loop-i.i = subst (λ ps. length ps ≤ c.loop-i.i) c.as_slice-parts.ensures listed in
    let many : length query.parts ≡ length meaning.parts = zip-length (IsThere schema tables c.args.regions.now c.args.arrivals.now) query.parts meaning.parts there in
    lent-all tables meaning.parts c.loop-i.i runs (omega (arith, past, many)) (c.loop-i.invariant schema tables meaning joins have there)
