use Rattle.std.proofs.Common.{◌∙◌, ◌++◌, ◌∷◌, [], ap}
use Rattle.sr_outbox.specs.declared.item.Item.TheVariants.{Refused}
use Rattle.sr_outbox.specs.Left.{messages}
use Rattle.sr_server.specs.declared.outbox.Outbox.{Outbox}
use Rattle.sr_server.specs.Outboxes.{left_on}
use Rattle.sr_server.proofs.server.Server.refused.Goals as goal

pub returns-clause-sent : goal.returns-clause-sent
returns-clause-sent c =
    let self = c.args.self.now in
    ap (λ (o : Outbox). left_on o self) c.outbox_of.ensures
    ∙ ap (messages self.tables self.log) (c.in_ok-push.ensures.pushed ∙ ap (λ items. items ++ Refused c.args.number c.args.fault ∷ []) c.new-sent.ensures)
