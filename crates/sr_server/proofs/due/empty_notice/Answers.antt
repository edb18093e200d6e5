use Rattle.std.proofs.Common.{◌∙◌, [], map, ap}
use Rattle.sr_message.specs.declared.message.Message.TheVariants.{Notice}
use Rattle.sr_message.specs.Tells.{tell_of}
use Rattle.sr_outbox.specs.Left.{changes_after, picked}
use Rattle.sr_server.proofs.due.empty_notice.Goals as goal

pub returns : goal.returns
returns c tables =
    let version = c.version-version.result in
    ap (λ places. Notice version (map tell_of (picked places (changes_after version c.args.log.now)))) c.new.ensures ∙ ap (λ v. Notice v []) c.version-version.ensures
