use Rattle.std.proofs.Common.{◌≡◌, ◌∙◌, ap, arith, sym, subst, refl}
use Rattle.sr_message.specs.declared.message.Message.{Message}
use Rattle.sr_message.specs.declared.message.Message.TheVariants.{Ask}
use Rattle.sr_client.specs.declared.client.AskOut.{AskOut}
use Rattle.sr_client.specs.declared.client.Client.{Client}
use Rattle.sr_client.specs.declared.steps.QueryStep.TheVariants.{Asked}
use Rattle.sr_client.specs.Sending.{next_ask, with_out, IsSent}
use Rattle.sr_client.proofs.client.Client.send_ask.Goals as goal

pub put_out-requires : goal.put_out-requires
put_out-requires c = let number : c.ask_out-out.result.number ≡ c.args.self.now.next_request = ap (λ (o : AskOut). o.number) c.ask_out-out.ensures in omega (arith, number)

pub returns-clause-sent : goal.returns-clause-sent
returns-clause-sent c =
    let old = c.args.self.now in
    let q = c.args.query in
    let asks = c.args.asks in
    let drops = c.args.drops in
    let out = c.ask_out-out.result in
    let out_is : out ≡ next_ask old q asks = c.ask_out-out.ensures in
    let told : c.in_ok-message.message ≡ Ask (next_ask old q asks).number (next_ask old q asks).fresh (next_ask old q asks).parts = c.in_ok-message.ensures.message ∙ ap (λ (o : AskOut). Ask o.number o.fresh o.parts) out_is in
    subst (λ (after : Client). IsSent old q asks drops (record after { queries = out.query_number }) (Asked out.query_number out.number c.in_ok-message.message drops)) (sym c.in_ok-message.ensures.out)
    (subst (λ (o : AskOut). IsSent old q asks drops (with_out old o) (Asked o.query_number o.number c.in_ok-message.message drops)) (sym out_is)
    (record { out = refl; told = ap (λ (m : Message). Asked (next_ask old q asks).query_number (next_ask old q asks).number m drops) told }))
