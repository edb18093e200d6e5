use Rattle.std.proofs.Common.{[], ap, map, true, ◌≡◌, ◌∙◌}
use Rattle.std.specs.Prelude.{fold}
use Rattle.clap.specs.Walk.{rule_of}
use Rattle.clap.specs.Simple.{app_of, app_of_fields, on_top, with_rule}
use Rattle.sr_words.specs.Forms.{form}
use Rattle.sr_words.proofs.Forms.{added, formed}
use Rattle.sr_words.proofs.form.command.Goals as goal

pub returns : goal.returns
returns c =
    let bare : app_of c.disable_help_flag-bare.result ≡ form c.args.name.now [] =
    ap app_of_fields c.disable_help_flag-bare.ensures ∙ ap (on_top (λ s. record s { disable_help_flag = true })) c.new.ensures.app in
    added c.disable_help_flag-bare.result c.in_ok-args.field-0 c.args.args.items c.in_ok-args.ensures c.requires
    ∙ ap (λ app. fold with_rule app (map rule_of c.args.args.items)) bare
    ∙ formed c.args.name.now [] (map rule_of c.args.args.items)
