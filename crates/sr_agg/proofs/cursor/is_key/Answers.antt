use Rattle.std.proofs.Common.{◌≡◌, rules, ap, ◌∙◌, sym}
use Rattle.sr_token.specs.declared.token.TokenKind.{TokenKind}
use Rattle.sr_token.specs.declared.token.TokenKind.TheVariants as code
use Rattle.sr_grammar.specs.Tokens.{Key, is, upper, seen}
use Rattle.sr_grammar.proofs.Cases.{is-key}
use Rattle.sr_agg.proofs.cursor.is_key.Goals as goal

pub returns-then-eq : goal.returns-then-eq
returns-then-eq c =
    let token = c.args.token in
    let word : token.kind ≡ code.Word = search rules in
    is-key c.eq_ignore_ascii_case.result token.text.now c.args.word.now token.place c.requires c.eq_ignore_ascii_case.ensures.test
    ∙ ap (λ (z : TokenKind). is Key (upper c.args.word.now) (seen z token.place token.text.now)) (sym word)
