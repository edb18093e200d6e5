use Rattle.std.proofs.Common.{rules, ◌≡◌, ◌∙◌, sym, ap, subst, Option, Some}
use Rattle.sr_message.specs.declared.message.Message.TheVariants.{Reply}
use Rattle.std.specs.Prelude.{IfOk}
use Rattle.sr_session.specs.Rules.{is_given_up}
use Rattle.sr_client.specs.declared.client.Client.{Client}
use Rattle.sr_client.specs.declared.client.Request.{Request}
use Rattle.sr_client.specs.declared.client.Request.TheVariants.{Ask}
use Rattle.sr_client.specs.Stands.{Stands, IsFit}
use Rattle.sr_client.specs.Steps.{Takes}
use Rattle.sr_client.proofs.client.Client.reply.Goals as goal

abbrev with_out : Client → Option Request → Client
with_out c out = record c { out = out }

pub finish-took-requires : goal.finish-took-requires
finish-took-requires c =
    let old = c.args.self.now in
    let out_is : old.out ≡ Some (Ask c.in-Some-Ask.out) = search rules in
    record {
      stands = subst (λ o. Stands (with_out old o)) out_is c.requires.stands;
      fit = subst (λ o. IsFit (with_out old o) (Reply c.args.number c.args.version)) out_is c.requires.fit;
      taken = c.take.ensures.after;
      whole = ap (is_given_up c.in-Some-Ask.out.fresh) (sym c.as_slice.ensures) ∙ sym c.if-is_given_up.ensures;
    }

pub ask_again-requires : goal.ask_again-requires
ask_again-requires c =
    let old = c.args.self.now in
    let out_is : old.out ≡ Some (Ask c.in-Some-Ask.out) = search rules in
    record {
      stands = subst (λ o. Stands (with_out old o)) out_is c.requires.stands;
      fit = subst (λ o. IsFit (with_out old o) (Reply c.args.number c.args.version)) out_is c.requires.fit;
      again = ap (is_given_up c.in-Some-Ask.out.fresh) (sym c.as_slice.ensures) ∙ sym c.if-is_given_up.ensures;
      room = c.requires.room;
    }

pub returns-then-is_given_up-clause-takes : goal.returns-then-is_given_up-clause-takes
returns-then-is_given_up-clause-takes c =
    let old = c.args.self.now in
    let out_is : old.out ≡ Some (Ask c.in-Some-Ask.out) = search rules in
    subst (λ o. IfOk c.ask_again.result (Takes (with_out old o) (Reply c.args.number c.args.version) c.ask_again.new.self)) (sym out_is) c.ask_again.ensures.takes

pub returns-else-is_given_up-clause-takes : goal.returns-else-is_given_up-clause-takes
returns-else-is_given_up-clause-takes c =
    let old = c.args.self.now in
    let out_is : old.out ≡ Some (Ask c.in-Some-Ask.out) = search rules in
    subst (λ o. IfOk c.finish-took.result (Takes (with_out old o) (Reply c.args.number c.args.version) c.finish-took.new.self)) (sym out_is) c.finish-took.ensures.takes
