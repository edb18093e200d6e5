-- What the rules of a client say of what it sends.
use Rattle.std.proofs.Common.{◌≡◌, ℕ, true, false, List, [], ◌∷◌, refl, sym, ◌∙◌, inl, inr, Some, None}
use Rattle.std.specs.Prelude.{◌⊎◌, Result}
use Rattle.sr_cell.specs.declared.fault.Fault.{Fault}
use Rattle.sr_message.specs.declared.message.Message.{Message}
use Rattle.sr_message.specs.declared.message.Message.TheVariants.{Hello, Resume, Welcome}
use Rattle.sr_model.specs.Queries.{Query}
use Rattle.sr_history.specs.declared.mark.Mark.{Mark}
use Rattle.sr_session.specs.Clients.{Client}
use Rattle.sr_session.specs.Rules.{Basis, Outcome, sent_of, Answering, AnswerStep, renewed, given_up, Before, as_it_is, emptied, QueryStep, query_refused, query_busy, query_answered, query_down, query_asks, TakeStep, lays, applies, forgets, answers, asks_once_more, written, refused_write, is_welcomed, EvictStep, evict_busy, evicts_none, evicts, WriteStep, write_busy, write_down, write_sends, already_cut, cuts, already_up, resumes}
use Rattle.sr_session.specs.Walks.{AskOut, WriteOut, ResumeOut}
use Rattle.sr_links.specs.Steps.{Deed, Queried, Wrote, Evicted, Took, WasCut, Resumed, too_long, writes, Does, IsAwaited, StaysOn}

-- ---- kinds of messages

-- the first message of a session
abbrev pub IsGreeting : Message → Type 0
IsGreeting (Hello wire client number) = Unit {0}
IsGreeting (Resume wire client number version holdings) = Unit {0}
IsGreeting m = ⊥

abbrev pub IsOther : Message → Type 0
IsOther (Hello wire client number) = ⊥
IsOther (Resume wire client number version holdings) = ⊥
IsOther m = Unit {0}

abbrev pub AreOthers : List Message → Type 0
AreOthers [] = Unit {0}
AreOthers (m ∷ ms) = IsOther m × AreOthers ms

abbrev pub IsNoWelcome : Message → Type 0
IsNoWelcome (Welcome k w kept) = ⊥
IsNoWelcome m = Unit {0}

abbrev pub AreNoWelcome : List Message → Type 0
AreNoWelcome [] = Unit {0}
AreNoWelcome (m ∷ ms) = IsNoWelcome m × AreNoWelcome ms

-- ---- a client that is on a connection sends no greeting

plain-query : (b : Basis) (c : Client) (text : Result Query Fault) (o : Outcome) (new : Client) → QueryStep b c text o new → AreOthers (sent_of o)
plain-query b c text o new (query_refused fault) = tt
plain-query b c text o new (query_busy q request out) = tt
plain-query b c text o new (query_answered q rows marks after out asks are step) = tt
plain-query b c text o new (query_down q out down left) = tt
plain-query b c text o new (query_asks q drops old ask others fresh out before up asks few mode) = (tt, tt)

plain-take : (b : Basis) (c : Client) (m : Message) (o : Outcome) (new : Client) → TakeStep b c m o new → AreOthers (sent_of o)
plain-take b c m o new (lays request x out laid for) = tt
plain-take b c m o new (applies version told drops out later meets) = tt
plain-take b c m o new (forgets version drops out later all) = tt
plain-take b c m o new (answers number query q fresh parts version rows marks after out whole later are step) = tt
plain-take b c m o new (asks_once_more number query q fresh parts version drops asked out again later all asks few) = (tt, tt)
plain-take b c m o new (written number version drops out later all) = tt
plain-take b c m o new (refused_write number fault drops out later all) = tt
plain-take b c m o new (is_welcomed number version kept drops out later all) = tt

plain-evict : (b : Basis) (place : ℕ) (c : Client) (o : Outcome) (new : Client) → EvictStep b place c o new → AreOthers (sent_of o)
plain-evict b place c o new (evict_busy request out) = tt
plain-evict b place c o new (evicts_none classes out are few) = tt
plain-evict b place c o new (evicts classes chosen d out are at drop) = tt

plain-write : (sql : List ℕ) (c : Client) (o : Outcome) (new : Client) → WriteStep sql c o new → AreOthers (sent_of o)
plain-write sql c o new (write_busy request out) = tt
plain-write sql c o new (write_down out down) = tt
plain-write sql c o new (write_sends out up) = (tt, tt)

pub plain : (b : Basis) (deed : Deed) (c : Client) (o : Outcome) (new : Client) → StaysOn c deed → Does b deed c o new → AreOthers (sent_of o)
plain b (Queried text) c o new on does = plain-query b c text o new does
plain b (Wrote sql) c o new on (too_long is) = tt
plain b (Wrote sql) c o new on (writes did after short does) = plain-write sql c o new does
plain b (Evicted place) c o new on does = plain-evict b place c o new does
plain b (Took m) c o new on does = plain-take b c m o new does
plain b WasCut c o new on (already_cut is) = tt
plain b WasCut c o new on (cuts up) = tt
plain b Resumed c o new on (already_up up) = tt
plain b Resumed c o new on (resumes m down is) = absurd (let wrong : true ≡ false = sym down ∙ on in cc)

-- ---- over a cut link nothing is sent

pub record IsMute (c : Client) : Type 0 where
  pub cut : c.cut ≡ true
  pub out : c.out ≡ None

pub record StaysMute (o : Outcome) (new : Client) : Type 0 where
  pub silent : sent_of o ≡ []
  pub mute : IsMute new

still-mute : (o : Outcome) (new : Client) → sent_of o ≡ [] → new.cut ≡ true → new.out ≡ None → StaysMute o new
still-mute o new silent cut out = record { silent = silent; mute = record { cut = cut; out = out } }

mute-answer : (b : Basis) (a : Answering) (c : Client) (o : Outcome) (marks : List Mark) (new : Client) → sent_of o ≡ [] → c.cut ≡ true → AnswerStep b a c marks new → StaysMute o new
mute-answer b a c o marks new silent cut (renewed ms renews) = still-mute o new silent cut refl
mute-answer b a c o marks new silent cut (given_up ms gives) = still-mute o new silent cut refl

mute-before : (b : Basis) (q : Query) (c : Client) (drops : List Mark) (old : Client) → Before b q c drops old → IsMute c → IsMute old
mute-before b q c drops old as_it_is h = h
mute-before b q c drops old (emptied ds drop) h = record { cut = h.cut; out = h.out }

mute-query : (b : Basis) (c : Client) (text : Result Query Fault) (o : Outcome) (new : Client) → IsMute c → QueryStep b c text o new → StaysMute o new
mute-query b c text o new h (query_refused fault) = still-mute o new refl h.cut h.out
mute-query b c text o new h (query_busy q request out) = still-mute o new refl h.cut h.out
mute-query b c text o new h (query_answered q rows marks after out asks are step) = mute-answer b _ c o marks new refl h.cut step
mute-query b c text o new h (query_down q out down left) = still-mute o new refl h.cut h.out
mute-query b c text o new h (query_asks q drops old ask others fresh out before up asks few mode) =
    let m : IsMute old = mute-before b q c drops old before h in absurd (let wrong : true ≡ false = sym m.cut ∙ up in cc)

mute-evict : (b : Basis) (place : ℕ) (c : Client) (o : Outcome) (new : Client) → IsMute c → EvictStep b place c o new → StaysMute o new
mute-evict b place c o new h (evict_busy request out) = still-mute o new refl h.cut h.out
mute-evict b place c o new h (evicts_none classes out are few) = still-mute o new refl h.cut h.out
mute-evict b place c o new h (evicts classes chosen d out are at drop) = still-mute o new refl h.cut h.out

mute-write : (sql : List ℕ) (c : Client) (o : Outcome) (new : Client) → IsMute c → WriteStep sql c o new → StaysMute o new
mute-write sql c o new h (write_busy request out) = still-mute o new refl h.cut h.out
mute-write sql c o new h (write_down out down) = still-mute o new refl h.cut h.out
mute-write sql c o new h (write_sends out up) = absurd (let wrong : true ≡ false = sym h.cut ∙ up in cc)

pub mute-step : (b : Basis) (deed : Deed) (c : Client) (o : Outcome) (new : Client) → IsMute c → IsAwaited c deed → StaysOn c deed → Does b deed c o new → StaysMute o new
mute-step b (Queried text) c o new h awaited on does = mute-query b c text o new h does
mute-step b (Wrote sql) c o new h awaited on (too_long is) = still-mute o new refl h.cut h.out
mute-step b (Wrote sql) c o new h awaited on (writes did after short does) = mute-write sql c o new h does
mute-step b (Evicted place) c o new h awaited on does = mute-evict b place c o new h does
mute-step b (Took m) c o new h awaited on does = absurd (awaited h.out)
mute-step b WasCut c o new h awaited on (already_cut is) = still-mute o new refl h.cut h.out
mute-step b WasCut c o new h awaited on (cuts up) = absurd (let wrong : true ≡ false = sym h.cut ∙ up in cc)
mute-step b Resumed c o new h awaited on does = absurd (let wrong : true ≡ false = sym h.cut ∙ on in cc)

-- ---- while a resume is out nothing is sent, until it is welcomed

pub record IsResumed (c : Client) : Type 0 where
  pub number : ℕ
  pub out : c.out ≡ Some (ResumeOut number)

-- the resume is out still, or the link was cut
pub record StaysUnheard (o : Outcome) (new : Client) : Type 0 where
  pub silent : sent_of o ≡ []
  pub then_is : IsResumed new ⊎ IsMute new

same-out : (o : Outcome) (c new : Client) → IsResumed c → sent_of o ≡ [] → new.out ≡ c.out → StaysUnheard o new
same-out o c new h silent same = record { silent = silent; then_is = inl (record { number = h.number; out = same ∙ h.out }) }

is-busy : (c : Client) → IsResumed c → c.out ≡ None → ⊥
is-busy c h out = let wrong : None ≡ Some (ResumeOut h.number) = sym out ∙ h.out in cc

unheard-query : (b : Basis) (c : Client) (text : Result Query Fault) (o : Outcome) (new : Client) → IsResumed c → QueryStep b c text o new → StaysUnheard o new
unheard-query b c text o new h (query_refused fault) = same-out o c new h refl refl
unheard-query b c text o new h (query_busy q request out) = same-out o c new h refl refl
unheard-query b c text o new h (query_answered q rows marks after out asks are step) = absurd (is-busy c h out)
unheard-query b c text o new h (query_down q out down left) = absurd (is-busy c h out)
unheard-query b c text o new h (query_asks q drops old ask others fresh out before up asks few mode) = absurd (is-busy c h out)

unheard-take : (b : Basis) (c : Client) (m : Message) (o : Outcome) (new : Client) → IsResumed c → IsNoWelcome m → TakeStep b c m o new → StaysUnheard o new
unheard-take b c m o new h unwelcome (lays request x out laid for) = same-out o c new h refl refl
unheard-take b c m o new h unwelcome (applies version told drops out later meets) = absurd (is-busy c h out)
unheard-take b c m o new h unwelcome (forgets version drops out later all) = absurd (is-busy c h out)
unheard-take b c m o new h unwelcome (answers number query q fresh parts version rows marks after out whole later are step) =
    absurd (let wrong : Some (AskOut number query q fresh parts) ≡ Some (ResumeOut h.number) = sym out ∙ h.out in cc)
unheard-take b c m o new h unwelcome (asks_once_more number query q fresh parts version drops asked out again later all asks few) =
    absurd (let wrong : Some (AskOut number query q fresh parts) ≡ Some (ResumeOut h.number) = sym out ∙ h.out in cc)
unheard-take b c m o new h unwelcome (written number version drops out later all) = absurd (let wrong : Some (WriteOut number) ≡ Some (ResumeOut h.number) = sym out ∙ h.out in cc)
unheard-take b c m o new h unwelcome (refused_write number fault drops out later all) = absurd (let wrong : Some (WriteOut number) ≡ Some (ResumeOut h.number) = sym out ∙ h.out in cc)
unheard-take b c m o new h unwelcome (is_welcomed number version kept drops out later all) = absurd unwelcome

unheard-evict : (b : Basis) (place : ℕ) (c : Client) (o : Outcome) (new : Client) → IsResumed c → EvictStep b place c o new → StaysUnheard o new
unheard-evict b place c o new h (evict_busy request out) = same-out o c new h refl refl
unheard-evict b place c o new h (evicts_none classes out are few) = absurd (is-busy c h out)
unheard-evict b place c o new h (evicts classes chosen d out are at drop) = absurd (is-busy c h out)

unheard-write : (sql : List ℕ) (c : Client) (o : Outcome) (new : Client) → IsResumed c → WriteStep sql c o new → StaysUnheard o new
unheard-write sql c o new h (write_busy request out) = same-out o c new h refl refl
unheard-write sql c o new h (write_down out down) = absurd (is-busy c h out)
unheard-write sql c o new h (write_sends out up) = absurd (is-busy c h out)

abbrev pub HeardIf : Deed → Type 0
HeardIf (Took m) = IsNoWelcome m
HeardIf other = Unit {0}

pub unheard-step : (b : Basis) (deed : Deed) (c : Client) (o : Outcome) (new : Client) → IsResumed c → HeardIf deed → StaysOn c deed → Does b deed c o new → StaysUnheard o new
unheard-step b (Queried text) c o new h unwelcome on does = unheard-query b c text o new h does
unheard-step b (Wrote sql) c o new h unwelcome on (too_long is) = same-out o c new h refl refl
unheard-step b (Wrote sql) c o new h unwelcome on (writes did after short does) = unheard-write sql c o new h does
unheard-step b (Evicted place) c o new h unwelcome on does = unheard-evict b place c o new h does
unheard-step b (Took m) c o new h unwelcome on does = unheard-take b c m o new h unwelcome does
unheard-step b WasCut c o new h unwelcome on (already_cut is) = same-out o c new h refl refl
unheard-step b WasCut c o new h unwelcome on (cuts up) = record { silent = refl; then_is = inr (record { cut = refl; out = refl }) }
unheard-step b Resumed c o new h unwelcome on (already_up up) = same-out o c new h refl refl
unheard-step b Resumed c o new h unwelcome on (resumes m down is) = absurd (let wrong : true ≡ false = sym down ∙ on in cc)
