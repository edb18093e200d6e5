use Rattle.std.proofs.Common.{◌≡◌, rules, refl, ap, ◌∙◌, sym}
use Rattle.std.specs.Prelude.{codes}
use Rattle.sr_token.specs.declared.token.TokenKind.{TokenKind}
use Rattle.sr_token.specs.declared.token.TokenKind.TheVariants as code
use Rattle.sr_grammar.specs.Tokens.{Key, is, seen}
use Rattle.sr_grammar.proofs.Cases.{is-key}
use Rattle.sr_reader.proofs.line.is_create.Goals as goal

pub returns-then-eq : goal.returns-then-eq
returns-then-eq c =
    let word : c.args.token.kind ≡ code.Word = search rules in
    is-key c.eq_ignore_ascii_case.result c.args.token.text.now (codes "CREATE") c.args.token.from refl c.eq_ignore_ascii_case.ensures.test
    ∙ ap (λ (z : TokenKind). is Key (codes "CREATE") (seen z c.args.token.from c.args.token.text.now)) (sym word)
