use Rattle.std.proofs.Common.{◌≡◌}
use Rattle.sr_model.specs.Queries.{rows_of}
use Rattle.sr_join.specs.Lent.{LendFrom, IsJoinable}
use Rattle.sr_client.proofs.Results.{if_each, of_ok}
use Rattle.sr_client.proofs.answer.answer.Goals as goal

pub returns : goal.returns
returns c = λ schema tables meaning.
    if_each _ c.answer.result (λ rows is joins have there.
    let query = c.args.query.now in
    let runs = c.lend_all.new.lending.runs in
    of_ok (λ answer. IsJoinable schema tables query meaning → LendFrom 0 tables meaning.parts runs → answer ≡ rows_of meaning tables) c.answer.result rows is (c.answer.ensures schema tables meaning) joins
    (c.in_ok-lend_all.ensures schema tables meaning joins have there))
