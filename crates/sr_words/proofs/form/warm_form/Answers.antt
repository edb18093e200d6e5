use Rattle.std.proofs.Common.{ap, codes, map, ◌∙◌}
use Rattle.std.proofs.lemmas.Result.{IfOk-weaker}
use Rattle.clap.specs.Walk.{rule_of}
use Rattle.sr_words.specs.Forms.{form, warm_form}
use Rattle.sr_words.proofs.form.warm_form.Goals as goal

pub returns : goal.returns
unfolding warm_form
returns c =
    let items = c.in_ok-args.ensures.items in
    IfOk-weaker c.command.result _ _ (λ made is. is ∙ ap (λ args. form (codes "warm") (map rule_of args)) items ∙ ap (form (codes "warm")) (cc (c.option.ensures.rule, c.option-2.ensures.rule, c.option-3.ensures.rule, c.needed.ensures.rule, c.needed-2.ensures.rule, c.word.ensures.rule, c.word-2.ensures.rule, c.word-3.ensures.rule))) c.command.ensures
