use Rattle.std.proofs.Common.{◌≡◌, rules, ap, ◌∙◌, sym}
use Rattle.sr_token.specs.declared.token.TokenKind.{TokenKind}
use Rattle.sr_token.specs.declared.token.TokenKind.TheVariants as code
use Rattle.sr_grammar.specs.Tokens.{Key, is, upper, seen}
use Rattle.sr_grammar.proofs.Cases.{is-key}
use Rattle.sr_sql.proofs.cursor.is_key.Goals as goal

pub returns-then-eq : goal.returns-then-eq
returns-then-eq c =
    let item = c.args.item in
    let word : item.kind ≡ code.Word = search rules in
    is-key c.eq_ignore_ascii_case.result item.text.now c.args.word.now item.place c.requires c.eq_ignore_ascii_case.ensures.test
    ∙ ap (λ (z : TokenKind). is Key (upper c.args.word.now) (seen z item.place item.text.now)) (sym word)
