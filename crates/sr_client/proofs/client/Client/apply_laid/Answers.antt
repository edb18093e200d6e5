use Rattle.std.proofs.Common.{◌≡◌, List, ◌∷◌, sym, ◌∙◌, ap, subst}
use Rattle.std.specs.List.{All}
use Rattle.std.proofs.lemmas.List.Elements.{All-head, All-tail}
use Rattle.sr_message.specs.declared.message.Message.{Message}
use Rattle.sr_region.specs.declared.region.Region.{Region}
use Rattle.sr_session.specs.Regions.{after_message, after_messages}
use Rattle.sr_client.specs.Arriving.{with_messages}
use Rattle.sr_client.specs.declared.client.Client.{Client}
use Rattle.sr_client.specs.Laying.{TellsRows}
use Rattle.sr_client.proofs.client.Client.apply_laid.Goals as goal

-- a client with other regions
abbrev with_regions : List Region → Client → Client
with_regions gs c = record c { store = record c.store { regions = gs } }

pub loop-message-preserved : goal.loop-message-preserved
loop-message-preserved c =
    let before = c.loop-message in
    let m = c.in-Some.message in
    let left : List Message = c.next.new.self.rest.items in
    let done = c.in_ok-apply_one.ensures in
    let rest : before.message-iterator.rest.items ≡ m ∷ left = c.in-Some.ensures.steps.0 in
    let regions : c.apply_one.new.self.store.regions ≡ after_message m before.self.store.regions = done.applied in
    record {
      same = done.rest ∙ ap (with_regions c.apply_one.new.self.store.regions) before.invariant.same;
      applied = ap (after_messages left) regions ∙ (ap (λ ms. after_messages ms before.self.store.regions) (sym rest) ∙ before.invariant.applied);
      arrivals = ap (with_messages left) done.arrivals ∙ (ap (λ ms. with_messages ms before.arrivals) (sym rest) ∙ before.invariant.arrivals);
      store = λ schema store tells.
          let now = before.invariant.store schema store tells in
          let more : All (TellsRows schema) (m ∷ left) = subst (All (TellsRows schema)) rest now.1 in
          (done.store schema now.0 (All-head (TellsRows schema) m left more), All-tail (TellsRows schema) m left more);
    }

pub apply_one-requires : goal.apply_one-requires
apply_one-requires c =
    let schema = c.requires.0 in
    let m = c.in-Some.message in
    let left : List Message = c.next.new.self.rest.items in
    let rest : c.loop-message.message-iterator.rest.items ≡ m ∷ left = c.in-Some.ensures.steps.0 in
    let now = c.loop-message.invariant.store schema c.requires.1 c.requires.2 in
    (schema, now.0, All-head (TellsRows schema) m left (subst (All (TellsRows schema)) rest now.1))
