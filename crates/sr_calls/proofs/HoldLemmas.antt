-- Each call leaves a client that holds short texts alone.
use Rattle.std.proofs.Common.{◌≡◌, ℕ, Bool, true, false, [], refl, sym, ◌∙◌, ap, subst, Some}
use Rattle.std.specs.Prelude.{◌↔◌}
use Rattle.sr_message.specs.declared.message.Message.{Message}
use Rattle.sr_model.specs.Queries.{Query}
use Rattle.sr_store.specs.Brought.{IsToldOf}
use Rattle.sr_store.specs.Told.{Told}
use Rattle.sr_wire.specs.declared.bad_frame.BadFrame.{BadFrame}
use Rattle.sr_session.specs.Brought.{told_after}
use Rattle.sr_session.specs.Misfits.{misfit}
use Rattle.sr_client.specs.declared.client.Client.{Client}
use Rattle.sr_client.specs.declared.steps.EvictStep.{EvictStep}
use Rattle.sr_client.specs.declared.steps.QueryStep.{QueryStep}
use Rattle.sr_client.specs.declared.steps.Took.{Took}
use Rattle.sr_client.specs.declared.steps.Took.TheVariants as took
use Rattle.sr_client.specs.Stands as client
use Rattle.sr_client.specs.Stands.{Stays, StandsFor, cuts_down, given_up, out_of, past_of}
use Rattle.sr_client.specs.Steps.{Evicts, Queries, Takes, is_bad}
use Rattle.sr_calls.specs.ClientEnds.{IsReady}
use Rattle.sr_calls.specs.Short.{HoldsShort, TellsShort}
use Rattle.sr_calls.proofs.Kept.{format_stays}
use Rattle.sr_calls.proofs.ShortLemmas.{fit-short, laid-short, none_held, where-short}
use Rattle.sr_calls.proofs.TakeLemmas.{fits_message}

-- ---- what is held

given_held : (old new : Client) → new ≡ given_up old (cuts_down old) → HoldsShort new
given_held old new is = none_held new (ap (λ (c : Client). c.store.regions) is)

-- the same
same_held : (old new : Client) → new.store ≡ old.store → new.schema ≡ old.schema → HoldsShort old → HoldsShort new
same_held old new store schema h = record {
  told = h.told;
  is = subst (λ s. IsToldOf s h.told new.store.regions) (sym schema) (subst (λ s. IsToldOf old.schema h.told s.regions) (sym store) h.is);
  short = h.short;
}

-- the rows of a next telling
next_held : (old new : Client) (next : Told → Told) → ((told : Told) → IsToldOf old.schema told old.store.regions → IsToldOf old.schema (next told) new.store.regions)
    → ((told : Told) → TellsShort told → TellsShort (next told)) → new.schema ≡ old.schema → HoldsShort old → HoldsShort new
next_held old new next goes short schema h = record {
  told = next h.told;
  is = subst (λ s. IsToldOf s (next h.told) new.store.regions) (sym schema) (goes h.told h.is);
  short = short h.told h.short;
}

-- ---- calls

own_past : (c : Client) (some : client.Stands c) → StandsFor (past_of c some.0) c
own_past c some = (some.0, some.1, refl)

query_held : (old new : Client) (meaning : Query) (step : QueryStep) → client.Stands old → Queries old meaning new step → new.schema ≡ old.schema → HoldsShort old → HoldsShort new
query_held old new meaning step some does schema h =
    next_held old new (λ told. told) (λ told is. (does.ruled (past_of old some.0) (own_past old some) told is).0) (λ told short. short) schema h

took_held : (old new : Client) (step : Took) (m : Message) → client.Stands old
    → ((why : BadFrame) (meaning : Query) → step ≡ took.Bad why ↔ misfit old.schema (out_of meaning old.out) old.laid old.version m ≡ Some why) → Takes old m new step
    → (is_bad step ≡ true → new ≡ given_up old (cuts_down old)) → Stays old new → HoldsShort old → HoldsShort new
took_held old new step m some bad does left stays h = by (is_bad step) refl
  where
    by : (b : Bool) → is_bad step ≡ b → HoldsShort new
    by true is = given_held old new (left is)
    by false is =
        let fit = fits_message old m step (λ why meaning. (bad why meaning).1) (λ why e. let wrong : true ≡ false = ap is_bad (sym e) ∙ is in cc) (past_of old some.0) (own_past old some) in
        next_held old new (told_after old.schema (past_of old some.0) m) (λ told own. (does.ruled (past_of old some.0) (own_past old some) is told own).0)
        (λ told short. where-short old.schema (out_of some.0.meaning old.out) old.laid m told
        (laid-short old.schema (out_of some.0.meaning old.out) old.version [] old.laid some.1.fit) (fit-short old.schema (out_of some.0.meaning old.out) old.laid old.version m fit) short) stays.schema h

evict_held : (old new : Client) (place : ℕ) (step : EvictStep) → client.Stands old → Evicts old place new step → new.schema ≡ old.schema → HoldsShort old → HoldsShort new
evict_held old new place step some does schema h =
    next_held old new (λ told. told) (λ told is. (does.ruled (past_of old some.0) (own_past old some) told is).0) (λ told short. short) schema h

-- ---- readiness

pub query_ready : (old new : Client) (meaning : Query) (step : QueryStep) → IsReady old → Queries old meaning new step → Stays old new → IsReady new
query_ready old new meaning step ready does stays = (does.stands, format_stays old new stays ready.1, query_held old new meaning step ready.0 does stays.schema ready.2)

pub took_ready : (old new : Client) (step : Took) (m : Message) → IsReady old
    → ((why : BadFrame) (meaning : Query) → step ≡ took.Bad why ↔ misfit old.schema (out_of meaning old.out) old.laid old.version m ≡ Some why) → Takes old m new step
    → (is_bad step ≡ true → new ≡ given_up old (cuts_down old)) → Stays old new → IsReady new
took_ready old new step m ready bad does left stays =
    (does.stands, format_stays old new stays ready.1, took_held old new step m ready.0 bad does left stays ready.2)

pub given_ready : (old new : Client) → IsReady old → new ≡ given_up old (cuts_down old) → client.Stands new → Stays old new → IsReady new
given_ready old new ready is stands stays = (stands, format_stays old new stays ready.1, given_held old new is)

pub evict_ready : (old new : Client) (place : ℕ) (step : EvictStep) → IsReady old → Evicts old place new step
    → new ≡ record old { store = record old.store { regions = new.store.regions } } → IsReady new
evict_ready old new place step ready does rest =
    let schema = ap (λ (c : Client). c.schema) rest in
    let stays : Stays old new = record { id = ap (λ (c : Client). c.id) rest; schema = schema; limits = ap (λ (c : Client). c.store.limits) rest } in
    (does.stands, format_stays old new stays ready.1, evict_held old new place step ready.0 does schema ready.2)

-- what is held stays
pub same_ready : (old new : Client) → IsReady old → new.store ≡ old.store → client.Stands new → Stays old new → IsReady new
same_ready old new ready store stands stays = (stands, format_stays old new stays ready.1, same_held old new store stays.schema ready.2)
