use Rattle.std.proofs.Common.{◌≡◌, List, [], ◌∷◌, Ok, Err, ap, subst, ◌∙◌, rules}
use Rattle.std.specs.Prelude.{Result}
use Rattle.sr_cell.specs.declared.fault.Fault.{Fault}
use Rattle.sr_client.specs.declared.client.Client.{Client}
use Rattle.sr_explain.specs.Explained.{refused}
use Rattle.sr_model.specs.Queries.{Query}
use Rattle.sr_reader.specs.Read.{Means}
use Rattle.sr_script.specs.declared.line.TraceLine.{TraceLine}
use Rattle.sr_script.specs.declared.line.TraceLine.TheVariants.{ExplainSql}
use Rattle.sr_explained.specs.After.{AreLinesFor}
use Rattle.sr_explained.proofs.explain.lines_for.Goals as goal

-- a fault is told alone
tells_fault : (c : Client) (fault : Fault) (lines : List TraceLine) → lines ≡ ExplainSql 1 fault ∷ [] → (meaning : Result Query Fault) → Means c.schema (Err fault) meaning → AreLinesFor c meaning lines
tells_fault c fault lines told (Ok q) means = absurd means
tells_fault c fault lines told (Err same) means = λ db past stands. (Err same, refused same, told ∙ ap (λ f. ExplainSql 1 f ∷ []) means)

pub returns-in_ok-push-in-Err : goal.returns-in_ok-push-in-Err
returns-in_ok-push-in-Err c = λ meaning means.
    let told : c.push.new.self ≡ ExplainSql 1 c.in-Err.fault ∷ [] = search rules in
    tells_fault c.args.client.now c.in-Err.fault c.push.new.self told meaning (subst (λ q. Means c.args.client.now.schema q meaning) c.in-Err.is means)
