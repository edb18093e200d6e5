-- What a client does with a message.
use Rattle.std.proofs.Common.{◌≡◌, Bool, false, refl, sym, ◌∙◌, subst, Option, Some, None}
use Rattle.std.specs.Prelude.{option_to_list}
use Rattle.std.specs.List.{All}
use Rattle.sr_message.specs.declared.message.Message.{Message}
use Rattle.sr_model.specs.Queries.{Query}
use Rattle.sr_session.specs.Sessions.{Database}
use Rattle.sr_session.specs.Clients as session
use Rattle.sr_session.specs.Misfits.{misfit}
use Rattle.sr_session.specs.Rules as rules
use Rattle.sr_session.specs.Rules.{Outcome}
use Rattle.sr_session.specs.Bases.{basis_of}
use Rattle.sr_wire.specs.Limits.{IsSendable}
use Rattle.sr_wire.specs.declared.bad_frame.BadFrame.{BadFrame}
use Rattle.sr_runs.specs.Lines.{taken_line}
use Rattle.sr_links.specs.Steps.{ComesTruly}
use Rattle.sr_links.specs.Steps as links
use Rattle.sr_client.specs.declared.client.Client.{Client}
use Rattle.sr_client.specs.declared.steps.Took.{Took}
use Rattle.sr_client.specs.declared.steps.Took.TheVariants as took
use Rattle.sr_client.specs.Sends.{TookSendsWell}
use Rattle.sr_client.specs.Stands as client
use Rattle.sr_client.specs.Stands.{StandsFor, Stays, Truly, out_of, past_of}
use Rattle.sr_client.specs.Steps.{SaysTook, Takes, is_bad}
use Rattle.sr_world.specs.declared.lines.Told as world
use Rattle.sr_world.proofs.ClientLemmas.{IsToldOf, took-each}
use Rattle.sr_world.proofs.Sent.{took-asks-few}
use Rattle.sr_world.specs.Told.{TookAsksFew}
use Rattle.sr_dial.specs.Following.{answer_of}
use Rattle.sr_dial.specs.declared.parts.Answer.{Answer}
use Rattle.sr_calls.specs.ClientEnds.{Did, done_of}
use Rattle.sr_calls.specs.declared.calls.Done.{Done}
use Rattle.sr_calls.proofs.Makes.{IsPlainOutcome, makes, plain_from, plain_link}
use Rattle.sr_calls.proofs.StepLemmas.{told_sendable}

-- what was not refused
pub good_took : (step : Took) → ((why : BadFrame) → step ≡ took.Bad why → ⊥) → is_bad step ≡ false
good_took took.Laid good = refl
good_took (took.Applied version marks) good = refl
good_took (took.Forgot version marks) good = refl
good_took (took.Answered q version rows marks) good = refl
good_took (took.Asked request message marks) good = refl
good_took (took.Written request version marks) good = refl
good_took (took.Refused request fault marks) good = refl
good_took (took.Welcomed version kept marks) good = refl
good_took (took.Bad why) good = absurd (good why refl)

took_plain : (step : Took) (o : Outcome) → SaysTook step o → IsPlainOutcome o
took_plain took.Laid o says = subst IsPlainOutcome (sym says) tt
took_plain (took.Applied version marks) o says = subst IsPlainOutcome (sym says) tt
took_plain (took.Forgot version marks) o says = subst IsPlainOutcome (sym says) tt
took_plain (took.Answered q version rows marks) o says = subst IsPlainOutcome (sym says) tt
took_plain (took.Asked request message marks) o says = subst IsPlainOutcome (sym says.3) tt
took_plain (took.Written request version marks) o says = subst IsPlainOutcome (sym says) tt
took_plain (took.Refused request fault marks) o says = subst IsPlainOutcome (sym says) tt
took_plain (took.Welcomed version kept marks) o says = subst IsPlainOutcome (sym says) tt
took_plain (took.Bad why) o says = absurd says

-- a message that comes first is truly promised
truly : (db : Database) (past : session.Client) (m : Message) → ComesTruly db past m → Truly db past m
truly db past m come = record { connection = come.connection; session = come.session; is_open = come.is_open; rest = come.queue; first = come.first }

module _ (keeps : Bool) (old new : Client) (message : Message) (step : Took) (told : world.Told) (answer : Option Answer) (done : Done) (does : Takes old message new step) (good : is_bad step ≡ false) (stays : Stays old new)
    (tells : (o : Outcome) → SaysTook step o → IsToldOf old.id taken_line o told) (answers : (o : Outcome) → SaysTook step o → answer ≡ answer_of keeps o) (is : done ≡ done_of told answer) where
  pub take_makes : (past : session.Client) → StandsFor past old → Did keeps old new past (links.Took message) done
  take_makes past stands =
      let m = does.moves past stands good in
      let said = tells m.outcome m.is in
      subst (Did keeps old new past (links.Took message)) (sym is)
      (makes keeps old new past (links.Took message) (SaysTook step) (λ db. Truly db past message) (λ db. rules.TakeStep (basis_of db old.store.limits) past message) m
      (plain_from old.id m.outcome (took_plain step m.outcome m.is)) (λ db o next rule. rule) (λ db come. truly db past message come) stays (does.ruled past stands good)
      answer told.lines (option_to_list told.sent) (answers m.outcome m.is) said.lines said.sent (plain_link past m.next m.outcome (took_plain step m.outcome m.is) m.link))

  pub take_sendable : client.Stands old → TookSendsWell old.schema old.id step → All IsSendable done.told.sent
  take_sendable some sends =
      let m = does.moves (past_of old some.0) (some.0, some.1, refl) good in
      let said = tells m.outcome m.is in
      subst (λ (d : Done). All IsSendable d.told.sent) (sym is)
      (told_sendable told.sent (λ one is_one. took-each old.schema old.id step m.outcome sends m.is one (sym said.sent ∙ is_one)))

-- what goes out with a message is an ask of few parts
pub take_few : (old new : Client) (m : Message) (step : Took) → Takes old m new step → is_bad step ≡ false → client.Stands old → TookSendsWell old.schema old.id step → TookAsksFew step
take_few old new m step does good some sends =
    let did = does.moves (past_of old some.0) (some.0, some.1, refl) good in
    took-asks-few old.schema old.id step did.outcome sends did.is

-- one that was taken need not be refused, whatever the past
pub fits_message : (old : Client) (m : Message) (step : Took)
    → ((why : BadFrame) (meaning : Query) → misfit old.schema (out_of meaning old.out) old.laid old.version m ≡ Some why → step ≡ took.Bad why) → ((why : BadFrame) → step ≡ took.Bad why → ⊥)
    → (past : session.Client) → StandsFor past old → misfit old.schema past.out past.laid past.version m ≡ None
fits_message old m step bad good past stands =
    subst (λ (p : session.Client). misfit old.schema p.out p.laid p.version m ≡ None) (sym stands.2) (by (misfit old.schema (out_of stands.0.meaning old.out) old.laid old.version m) refl)
  where
    by : (o : Option BadFrame) → misfit old.schema (out_of stands.0.meaning old.out) old.laid old.version m ≡ o → o ≡ None
    by None is = refl
    by (Some why) is = absurd (good why (bad why stands.0.meaning is))

-- a message that is refused is refused whatever the past
pub refuses_message : (old : Client) (m : Message) (why : BadFrame) → ((meaning : Query) → misfit old.schema (out_of meaning old.out) old.laid old.version m ≡ Some why)
    → (past : session.Client) → StandsFor past old → misfit old.schema past.out past.laid past.version m ≡ Some why
refuses_message old m why each past stands = subst (λ (p : session.Client). misfit old.schema p.out p.laid p.version m ≡ Some why) (sym stands.2) (each stands.0.meaning)
