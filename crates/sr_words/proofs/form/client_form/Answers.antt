use Rattle.std.proofs.Common.{ap, map, refl, ◌∙◌}
use Rattle.std.proofs.lemmas.Result.{IfOk-weaker}
use Rattle.clap.specs.Walk.{rule_of}
use Rattle.sr_words.specs.Forms.{form, client_form}
use Rattle.sr_words.proofs.form.client_form.Goals as goal

pub returns : goal.returns
unfolding client_form
returns c =
    let items = c.in_ok-args.ensures.items in
    IfOk-weaker c.command.result _ _ (λ made is. is ∙ ap (λ args. form c.args.name.now (map rule_of args)) items ∙ ap (form c.args.name.now) (rw (c.option.ensures.rule, c.option-2.ensures.rule, c.option-3.ensures.rule, c.needed.ensures.rule, c.needed-2.ensures.rule, c.word.ensures.rule, c.word-2.ensures.rule) refl)) c.command.ensures
