use Rattle.std.proofs.Common.{ap, codes, map, ◌∙◌}
use Rattle.std.proofs.lemmas.Result.{IfOk-weaker}
use Rattle.clap.specs.Walk.{rule_of}
use Rattle.sr_words.specs.Forms.{form, generate_form}
use Rattle.sr_words.proofs.form.generate_form.Goals as goal

pub returns : goal.returns
unfolding generate_form
returns c =
    let items = c.in_ok-args.ensures.items in
    IfOk-weaker c.command.result _ _ (λ made is. is ∙ ap (λ args. form (codes "generate") (map rule_of args)) items ∙ ap (form (codes "generate")) (cc (c.flag.ensures.rule, c.word.ensures.rule, c.word-2.ensures.rule))) c.command.ensures
