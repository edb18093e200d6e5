use Rattle.std.proofs.Common.{◌≡◌, [], ap, sym, ◌∙◌, subst}
use Rattle.std.specs.Prelude.{IfNone, option_to_list}
use Rattle.std.specs.Option.{option_map}
use Rattle.sr_bytes.specs.Reading.{items}
use Rattle.sr_wire.specs.Reading.{a_holding}
use Rattle.sr_wire.specs.Views.{holding_of}
use Rattle.sr_wire.proofs.Holdings.{later_wire, left_of}
use Rattle.sr_wire.proofs.views.HoldingsView.next.Goals as goal

pub returns-then-self-eq-FIRST_WIRE-clause-first : goal.returns-then-self-eq-FIRST_WIRE-clause-first
returns-then-self-eq-FIRST_WIRE-clause-first c =
    let s = c.self.inside in
    left_of s.wire (a_holding 1) s.holdings c.next_whole.new.left s.bytes c.next_whole.new.bytes c.args.self.now (option_to_list (option_map holding_of c.next_whole.result)) c.self.view_is
    (ap a_holding c.if-self-eq-FIRST_WIRE.true) c.next_whole.ensures.first

pub returns-then-self-eq-FIRST_WIRE-clause-end : goal.returns-then-self-eq-FIRST_WIRE-clause-end
returns-then-self-eq-FIRST_WIRE-clause-end c =
    let s = c.self.inside in
    subst (λ held. IfNone c.next_whole.result (held ≡ []))
    (ap (λ w. items (a_holding w) s.holdings s.bytes) (sym c.if-self-eq-FIRST_WIRE.true) ∙ c.self.view_is) c.next_whole.ensures.end

pub returns-else-self-eq-FIRST_WIRE-clause-first : goal.returns-else-self-eq-FIRST_WIRE-clause-first
returns-else-self-eq-FIRST_WIRE-clause-first c =
    let s = c.self.inside in
    left_of s.wire (a_holding 2) s.holdings c.next_item.new.left s.bytes c.next_item.new.bytes c.args.self.now (option_to_list (option_map holding_of c.next_item.result)) c.self.view_is
    (later_wire s.wire c.if-self-eq-FIRST_WIRE.false) c.next_item.ensures.first

pub returns-else-self-eq-FIRST_WIRE-clause-end : goal.returns-else-self-eq-FIRST_WIRE-clause-end
returns-else-self-eq-FIRST_WIRE-clause-end c =
    let s = c.self.inside in
    subst (λ held. IfNone c.next_item.result (held ≡ []))
    (ap (λ r. items r s.holdings s.bytes) (sym (later_wire s.wire c.if-self-eq-FIRST_WIRE.false)) ∙ c.self.view_is) c.next_item.ensures.end
