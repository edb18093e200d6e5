use Rattle.std.proofs.Common.{◌≡◌, false, true, length, sym, ◌∙◌, arith}
use Rattle.std.proofs.lemmas.Bool.Decides.{nat_tests}
use Rattle.sr_grammar.specs.Seen.{statement_seen}
use Rattle.sr_semi.proofs.Sided.{few-parts, parts-within, same-count}
use Rattle.sr_semi.proofs.starts.sides_in.Goals as goal

pub overflow_cast-result : goal.overflow_cast-result
overflow_cast-result c =
    let m = c.in-Ok.ensures.bound in
    let few = few-parts c.args.schema.now (statement_seen c.args.statement.now) c.in-Ok.query m.0 m.1 m.2 in
    omega (arith, few, c.len-tables.ensures)

pub returns-then-tables-ne2-clause-not_two : goal.returns-then-tables-ne2-clause-not_two
returns-then-tables-ne2-clause-not_two c sql tables says e =
    let m = c.in-Ok.ensures.bound in
    let same : c.len-tables.result ≡ tables = cc e in
    let count = same-count c.args.schema.now c.in-Ok.query.parts m.0.parts m.2.parts in (
      statement_seen c.args.statement.now,
      m.0,
      record { says = says; bound = m.1 },
      sym same ∙ (c.len-tables.ensures ∙ count),
      λ two. let wrong : false ≡ true = grind (arith, nat_tests, c.if-tables-ne2.true, same, two) in cc wrong,
    )

pub both-requires-clause-within : goal.both-requires-clause-within
both-requires-clause-within c =
    let m = c.in-Ok.ensures.bound in
    parts-within c.args.schema.now (statement_seen c.args.statement.now) c.in-Ok.query m.0 m.1 m.2

pub returns-clause-sides : goal.returns-clause-sides
returns-clause-sides c sql says =
    let m = c.in-Ok.ensures.bound in
    let count = same-count c.args.schema.now c.in-Ok.query.parts m.0.parts m.2.parts in
    let two : length m.0.parts ≡ 2 = grind (arith, nat_tests, c.if-tables-ne2.false, count, c.len-tables.ensures) in (
      statement_seen c.args.statement.now,
      m.0,
      record { asks = record { says = says; bound = m.1 }; two = two; sides_are = c.in_ok-both.ensures m.0 m.2 },
    )
