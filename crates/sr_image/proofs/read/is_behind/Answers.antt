use Rattle.std.proofs.Common.{◌≡◌, ◌∙◌, sym, ap}
use Rattle.sr_image.specs.declared.image.Head.{Head}
use Rattle.sr_image.specs.Reading.{is_before}
use Rattle.sr_image.proofs.Alike.{behind-last}
use Rattle.sr_image.proofs.read.is_behind.Goals as goal

pub returns-in-len1-up : goal.returns-in-len1-up
returns-in-len1-up c =
    c.is_before.ensures ∙ (ap (λ (h : Head). is_before h c.args.head.now) c.head_of.ensures ∙ sym (behind-last c.args.before.now c.args.head.now c.last-item.result c.in-len1-up.len_at_least c.last-item.is))
