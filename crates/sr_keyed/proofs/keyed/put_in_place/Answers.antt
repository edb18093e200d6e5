use Rattle.std.proofs.Common.{◌≡◌, sym, ap, ◌∙◌}
use Rattle.std.specs.Prelude.{None}
use Rattle.std.specs.Map.{lookup}
use Rattle.std.specs.Option.{option_copied_mut}
use Rattle.std.specs.BTreeMap.{is_at}
use Rattle.sr_keyed.proofs.Order.{order}
use Rattle.sr_keyed.proofs.Replaced.{set_value-none}
use Rattle.sr_keyed.proofs.keyed.put_in_place.Goals as goal

pub returns-in-Some-clause-replaced : goal.returns-in-Some-clause-replaced
returns-in-Some-clause-replaced c =
    rw (← c.key_at.ensures) (c.get_mut.follows.holds c.args.row).0

pub returns-in-None-clause-replaced : goal.returns-in-None-clause-replaced
returns-in-None-clause-replaced c =
    let none : lookup (is_at (order c.key_at.result.now)) c.args.rows.now.entries ≡ None = sym c.get_mut.ensures.value ∙ ap option_copied_mut c.in-None.is in
    rw (← c.key_at.ensures) (ap (λ m. m.entries) c.get_mut.follows.holds-at-none ∙ set_value-none (is_at (order c.key_at.result.now)) c.args.rows.now.entries c.args.row none)
