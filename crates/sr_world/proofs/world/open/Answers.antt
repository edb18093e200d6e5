use Rattle.std.proofs.Common.{◌≡◌, ◌∙◌, sym, Err, None, Some, rules}
use Rattle.sr_cell.specs.declared.list.No.TheVariants.{Refused}
use Rattle.sr_world.proofs.NewLemmas.{hello-fits}
use Rattle.sr_world.proofs.world.open.Goals as goal

pub unreachable-requires : goal.unreachable-requires
unreachable-requires c =
    let refused : c.take-taken.result ≡ Err (Refused c.in-Err-Refused.field-0-0) = search rules in
    let bad = (c.take-taken.ensures.bad c.in-Err-Refused.field-0-0).0 refused in
    absurd (let wrong : None ≡ Some c.in-Err-Refused.field-0-0 = sym (hello-fits c.args.server.now.tables.schema c.args.server.now.sessions c.args.client c.requires.closed) ∙ bad in cc)
