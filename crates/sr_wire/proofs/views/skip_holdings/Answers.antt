use Rattle.std.proofs.Common.{◌≡◌, ap, sym, subst}
use Rattle.sr_bytes.specs.Reading.{many, items}
use Rattle.sr_bytes.specs.Views.{Reads}
use Rattle.sr_wire.specs.Reading.{a_holding}
use Rattle.sr_wire.proofs.Holdings.{later_wire}
use Rattle.sr_wire.proofs.views.skip_holdings.Goals as goal

pub returns-then-wire-eq-FIRST_WIRE : goal.returns-then-wire-eq-FIRST_WIRE
returns-then-wire-eq-FIRST_WIRE c =
    subst (λ r. Reads (λ _. items r c.args.count c.args.bytes.now) c.skip_items.result c.skip_items.new.bytes (many r c.args.count c.args.bytes.now))
    (ap a_holding (sym c.if-wire-eq-FIRST_WIRE.true)) c.skip_items.ensures

pub returns-else-wire-eq-FIRST_WIRE : goal.returns-else-wire-eq-FIRST_WIRE
returns-else-wire-eq-FIRST_WIRE c =
    let skipped = c.skip_items-else-wire-eq-FIRST_WIRE in
    subst (λ r. Reads (λ _. items r c.args.count c.args.bytes.now) skipped.result skipped.new.bytes (many r c.args.count c.args.bytes.now))
    (sym (later_wire c.args.wire c.if-wire-eq-FIRST_WIRE.false)) skipped.ensures
