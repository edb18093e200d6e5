use Rattle.std.proofs.Common.{◌∙◌, ap, sym}
use Rattle.std.proofs.lemmas.Result.{IfOk-weaker}
use Rattle.sr_outbox.specs.Items.{notice_items}
use Rattle.sr_outbox.specs.Left.{messages}
use Rattle.sr_outbox.specs.Noticed.{noticed}
use Rattle.sr_outbox.proofs.Notices.{notices-made}
use Rattle.sr_outbox.proofs.told.notices_of.Goals as goal

pub returns : goal.returns
returns c tables log are there =
    IfOk-weaker c.items_of.result _ _
    (λ items is. ap (messages tables log) is
    ∙ (ap (λ es. messages tables log (notice_items c.args.subs.now c.args.version es)) are
    ∙ (notices-made tables log c.args.subs.now c.args.version there ∙ ap (noticed c.args.subs.now) (sym are))))
    c.items_of.ensures
