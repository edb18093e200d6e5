use Rattle.std.proofs.Common.{◌∙◌, subst}
use Rattle.std.proofs.lemmas.Result.{IfOk-weaker}
use Rattle.sr_lines.specs.Script.{AsksOf}
use Rattle.sr_reader.specs.Read.{Means}
use Rattle.sr_explained.proofs.explain.text_over.Goals as goal

pub returns : goal.returns
returns c = λ s r.
    let (meaning, asks, means) = c.in_ok-query.ensures in
    let known = c.schema.ensures in
    IfOk-weaker c.text_of.result _ _
    (λ text tells. record {
      query = meaning;
      asks = subst (λ tables. AsksOf tables c.args.sql.now meaning) (known ∙ r.server.knows.schema) asks;
      tells = tells;
    })
    (c.text_of.ensures s meaning r (subst (λ tables. Means tables c.in_ok-query.query meaning) known means))
