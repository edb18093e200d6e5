-- What a step sends: an ask of few parts, or a message that opens a session.
use Rattle.std.proofs.Common.{◌≡◌, ℕ, Bool, true, false, List, [], ◌∷◌, refl, sym, subst}
use Rattle.sr_cell.specs.declared.table.Table.{Table}
use Rattle.sr_message.specs.declared.message.AskPart.{AskPart}
use Rattle.sr_message.specs.declared.message.Holding.{Holding}
use Rattle.sr_message.specs.declared.message.Message.{Message}
use Rattle.sr_message.specs.declared.message.Message.TheVariants.{Hello, Resume, Ask, Write, Welcome, Notice, Rows, Reply, Written, Refused, Lapse}
use Rattle.sr_region.specs.declared.region.Region.{Region}
use Rattle.sr_session.specs.Clients as session
use Rattle.sr_session.specs.Refusals.{has_few_parts}
use Rattle.sr_session.specs.Rules.{Outcome}
use Rattle.sr_client.specs.declared.client.Client.{Client}
use Rattle.sr_client.specs.declared.steps.QueryStep.{QueryStep}
use Rattle.sr_client.specs.declared.steps.QueryStep.TheVariants as query
use Rattle.sr_client.specs.declared.steps.ResumeStep.{ResumeStep}
use Rattle.sr_client.specs.declared.steps.ResumeStep.TheVariants as resume
use Rattle.sr_client.specs.declared.steps.Took.{Took}
use Rattle.sr_client.specs.declared.steps.Took.TheVariants as took
use Rattle.sr_client.specs.Sends.{IsWellSent, QuerySendsWell, SendsFirst, TookSendsWell, first_of}
use Rattle.sr_client.specs.Steps.{SaysQuery, SaysTook, is_bad}
use Rattle.sr_world.specs.Told.{QueryAsksFew, ResumeOpens, TookAsksFew, is_few_ask, opens}
use Rattle.sr_world.proofs.Requests.{request-parts}

-- ---- no other message is one

pub no-other-ask : (m : Message) → is_few_ask m ≡ true → ((request : ℕ) (fresh : Bool) (parts : List AskPart) → m ≡ Ask request fresh parts → ⊥) → ⊥
no-other-ask (Hello wire client request) is ask = cc
no-other-ask (Resume wire client request version holdings) is ask = cc
no-other-ask (Ask request fresh parts) is ask = ask request fresh parts refl
no-other-ask (Write request sql) is ask = cc
no-other-ask (Welcome request version kept) is ask = cc
no-other-ask (Notice version told) is ask = cc
no-other-ask (Rows request part rows) is ask = cc
no-other-ask (Reply request version) is ask = cc
no-other-ask (Written request version) is ask = cc
no-other-ask (Refused request fault) is ask = cc
no-other-ask (Lapse version) is ask = cc

pub no-other-opening : (m : Message) → opens m ≡ true → ((wire client request : ℕ) → m ≡ Hello wire client request → ⊥)
    → ((wire client request version : ℕ) (holdings : List Holding) → m ≡ Resume wire client request version holdings → ⊥) → ⊥
no-other-opening (Hello wire client request) is hello resume = hello wire client request refl
no-other-opening (Resume wire client request version holdings) is hello resume = resume wire client request version holdings refl
no-other-opening (Ask request fresh parts) is hello resume = cc
no-other-opening (Write request sql) is hello resume = cc
no-other-opening (Welcome request version kept) is hello resume = cc
no-other-opening (Notice version told) is hello resume = cc
no-other-opening (Rows request part rows) is hello resume = cc
no-other-opening (Reply request version) is hello resume = cc
no-other-opening (Written request version) is hello resume = cc
no-other-opening (Refused request fault) is hello resume = cc
no-other-opening (Lapse version) is hello resume = cc

-- ---- what a client sends is one

few-ask : (schema : List Table) (client request : ℕ) (fresh : Bool) (parts : List AskPart) (m : Message) → m ≡ Ask request fresh parts → IsWellSent schema client m → is_few_ask m ≡ true
few-ask schema client request fresh parts m is sends =
    subst (λ (m : Message). has_few_parts m ≡ true → is_few_ask m ≡ true) (sym is) (λ few. few) (request-parts schema client m sends.request).parts

pub query-asks-few : (schema : List Table) (client : ℕ) (past : session.Client) (step : QueryStep) (o : Outcome) → QuerySendsWell schema client step → SaysQuery past step o → QueryAsksFew step
query-asks-few schema client past (query.Answered number version rows marks) o sends says = tt
query-asks-few schema client past (query.Asked number request message marks) o sends says = few-ask schema client request says.1 says.2 message says.3 sends
query-asks-few schema client past (query.Busy request) o sends says = tt
query-asks-few schema client past (query.Down cut) o sends says = tt

pub took-asks-few : (schema : List Table) (client : ℕ) (step : Took) (o : Outcome) → TookSendsWell schema client step → SaysTook step o → TookAsksFew step
took-asks-few schema client took.Laid o sends says = tt
took-asks-few schema client (took.Applied version marks) o sends says = tt
took-asks-few schema client (took.Forgot version marks) o sends says = tt
took-asks-few schema client (took.Answered number version rows marks) o sends says = tt
took-asks-few schema client (took.Asked request message marks) o sends says = few-ask schema client request says.0 says.1 message says.2 sends
took-asks-few schema client (took.Written request version marks) o sends says = tt
took-asks-few schema client (took.Refused request fault marks) o sends says = tt
took-asks-few schema client (took.Welcomed version kept marks) o sends says = tt
took-asks-few schema client (took.Bad why) o sends says = tt

pub first-opens : (c : Client) (step : ResumeStep) → SendsFirst c step → ResumeOpens step
first-opens c (resume.Sent request message) first = subst (λ (m : Message). opens m ≡ true) (sym first) (by c.store.regions)
  where
    by : (regions : List Region) → opens (first_of c regions) ≡ true
    by [] = refl
    by (region ∷ regions) = refl
first-opens c resume.Up first = tt

-- a step that is told refused nothing
pub taken-well : (step : Took) (o : Outcome) → SaysTook step o → is_bad step ≡ false
taken-well took.Laid o says = refl
taken-well (took.Applied version marks) o says = refl
taken-well (took.Forgot version marks) o says = refl
taken-well (took.Answered number version rows marks) o says = refl
taken-well (took.Asked request message marks) o says = refl
taken-well (took.Written request version marks) o says = refl
taken-well (took.Refused request fault marks) o says = refl
taken-well (took.Welcomed version kept marks) o says = refl
taken-well (took.Bad why) o says = absurd says
