use Rattle.std.proofs.Common.{◌∙◌}
use Rattle.std.specs.Option.{option_copied}
use Rattle.sr_keyed.specs.Keyed.{is_between}
use Rattle.sr_keyed.specs.Places.{is_indexed}
use Rattle.sr_keyed.proofs.PlaceOrder.{place_order}
use Rattle.sr_keyed.proofs.Found.{all-met, rows-found, IfSome-from_ok}
use Rattle.sr_keyed.proofs.keyed.KeyedRows.near.Goals as goal

pub returns-in-Some : goal.returns-in-Some
returns-in-Some c =
    let self = c.self.inside in
    let p = is_between c.args.column (option_copied c.args.low) (option_copied c.args.high) in
    let met = all-met (is_indexed place_order self.index self.key) p self.key self.kind c.in-Some.keys.keys self.rows.entries c.self.invariant.0 c.self.invariant.3
    (c.in-Some.ensures self.key) in
    IfSome-from_ok c.ok.result c.rows_at.result _ _ c.ok.ensures.value
    (λ rows is. rw (← c.self.view_is) (is ∙ rows-found p self.rows.entries c.in-Some.keys.keys c.self.invariant.1 c.rows_at.ensures.ordered met)) c.rows_at.ensures.found
