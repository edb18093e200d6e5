use Rattle.std.proofs.Common.{◌≡◌, rules}
use Rattle.std.proofs.lemmas.Result.{IfOk-weaker}
use Rattle.sr_explained.proofs.FirstClient.{first-seat, few-regions, means-there, seat-there, stands, tells-text}
use Rattle.sr_explained.proofs.explain.text_of.Goals as goal

pub lines_for-requires-clause-stands : goal.lines_for-requires-clause-stands
lines_for-requires-clause-stands c =
    let w = c.args.world.now in
    let seat = c.index.result.now in
    stands c.requires.world.0 seat (first-seat w c.requires.world.0 seat c.requires.world.1 (seat-there w seat c.requires.first (search rules)))

pub lines_for-requires-clause-few : goal.lines_for-requires-clause-few
lines_for-requires-clause-few c =
    let w = c.args.world.now in
    let seat = c.index.result.now in
    few-regions c.requires.world.0 seat (first-seat w c.requires.world.0 seat c.requires.world.1 (seat-there w seat c.requires.first (search rules)))

pub lines_for-requires-clause-means : goal.lines_for-requires-clause-means
lines_for-requires-clause-means c =
    let w = c.args.world.now in
    let seat = c.index.result.now in
    let f = first-seat w c.requires.world.0 seat c.requires.world.1 (seat-there w seat c.requires.first (search rules)) in
    (c.requires.means.0, means-there w c.requires.world.0 seat c.args.query.now c.requires.means.0 c.requires.world.1 f c.requires.means.1)

pub returns : goal.returns
returns c = λ s meaning r means.
    let w = c.args.world.now in
    let seat = c.index.result.now in
    let f = first-seat w s seat r (seat-there w seat c.requires.first (search rules)) in
    let tell = c.in_ok-lines.ensures meaning (means-there w s seat c.args.query.now meaning r f means) in
    let known : c.as_slice.result.now ≡ w.server.tables.schema = search rules in
    let listed : c.as_slice-2.result.now ≡ c.in_ok-lines.lines = search rules in
    IfOk-weaker c.lines_text.result _ _ (λ text told. tells-text w s seat meaning c.as_slice.result.now c.in_ok-lines.lines c.as_slice-2.result.now _ r f tell known listed told) c.lines_text.ensures.text
