use Rattle.std.proofs.Common.{◌∙◌, sym}
use Rattle.sr_store.proofs.Sharing.{none-shared}
use Rattle.sr_store.proofs.give_way.remove_keys.Goals as goal

pub returns-else-share_key : goal.returns-else-share_key
returns-else-share_key c = none-shared c.args.place c.args.others.now c.args.rows.now (sym c.share_key.ensures ∙ c.if-share_key.false)
