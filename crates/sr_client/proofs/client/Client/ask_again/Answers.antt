use Rattle.std.proofs.Common.{◌≡◌, ◌∙◌, ap, arith, sym, subst}
use Rattle.sr_message.specs.declared.message.Message.TheVariants.{Ask}
use Rattle.sr_client.specs.declared.client.AskOut.{AskOut}
use Rattle.sr_client.specs.Laying.{asking}
use Rattle.sr_client.specs.Sends.{IsWellSent}
use Rattle.sr_client.specs.Stands.{out_of}
use Rattle.sr_client.proofs.AgainLemmas.{again-of, again-sent}
use Rattle.sr_client.proofs.SuitLemmas.{reply-later}
use Rattle.sr_client.proofs.client.Client.ask_again.Goals as goal

pub put_out-requires : goal.put_out-requires
put_out-requires c = let number : c.in_ok-second.second.number ≡ c.args.self.now.next_request = ap (λ (o : AskOut). o.number) c.in_ok-second.ensures in omega (arith, number)

pub returns-clause-takes : goal.returns-clause-takes
returns-clause-takes c =
    again-of c.args.self.now c.args.out c.args.number c.args.version c.requires.fit c.requires.again c.in-Ok.marks c.drop_all.new.self c.new.result c.in_ok-second.second c.in_ok-message.message c.put_out.new.self
    c.in-Ok.ensures.marks c.drop_all.ensures.nothing_left c.new.ensures c.in_ok-second.ensures c.in_ok-message.ensures.message c.in_ok-message.ensures.out c.requires.stands

pub returns-clause-version : goal.returns-clause-version
returns-clause-version c =
    let asked = asking c.args.self.now c.args.out in
    let meaning = c.requires.stands.0.meaning in
    reply-later asked.schema (out_of meaning asked.out) asked.laid asked.version c.args.number c.args.version (c.requires.fit meaning)

pub returns-clause-sends : goal.returns-clause-sends
returns-clause-sends c =
    let old = c.args.self.now in
    let told = c.in_ok-message.ensures.message ∙ ap (λ (o : AskOut). Ask o.number o.fresh o.parts) c.in_ok-second.ensures in
    subst (IsWellSent old.schema old.id) (sym told) (again-sent old c.args.out c.args.number c.args.version c.requires.fit c.requires.again c.requires.stands.0 c.requires.stands.1)
