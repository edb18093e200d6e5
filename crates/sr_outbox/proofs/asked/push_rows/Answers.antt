use Rattle.std.proofs.Common.{◌++◌, ◌∙◌, ap}
use Rattle.std.proofs.lemmas.List.{map-append}
use Rattle.std.proofs.lemmas.Result.{on_ok_weaker}
use Rattle.sr_outbox.specs.Items.{row_items}
use Rattle.sr_outbox.specs.Left.{message_of, messages}
use Rattle.sr_outbox.proofs.Found.{rows-made}
use Rattle.sr_outbox.proofs.asked.push_rows.Goals as goal

pub returns : goal.returns
returns c log =
    on_ok_weaker c.push_parts.result
    (λ is. ap (messages c.args.tables.now log) is
    ∙ (map-append (message_of c.args.tables.now log) c.args.items.now (row_items c.args.tables.now c.args.number 0 c.args.parts.now)
    ∙ ap (λ ms. messages c.args.tables.now log c.args.items.now ++ ms) (rows-made c.args.tables.now log c.args.number 0 c.args.parts.now c.know_stored.ensures.rows)))
    c.push_parts.ensures
