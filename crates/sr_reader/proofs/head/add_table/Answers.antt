use Rattle.std.proofs.Common.{◌∙◌, sym, subst, ap, inl, inr, Ok, Err}
use Rattle.std.proofs.lemmas.Result.{err_from_is_err_and}
use Rattle.sr_cell.specs.declared.list.No.TheVariants.{Refused}
use Rattle.sr_reader.proofs.Fronts.{says_only, added_by, on_err, same_err}
use Rattle.sr_grammar.specs.Says.{Says}
use Rattle.sr_grammar.specs.Trees.{Create}
use Rattle.sr_grammar.specs.Seen.{statement_seen}
use Rattle.sr_reader.proofs.head.add_table.Goals as goal

pub returns-in_err-table-clause-added : goal.returns-in_err-table-clause-added
returns-in_err-table-clause-added c =
    let same = err_from_is_err_and c.from_residual.result c.from_residual.ensures.1 in
    on_err _ c.from_residual.result same.0 same.1

pub returns-in_err-table-clause-refused : goal.returns-in_err-table-clause-refused
returns-in_err-table-clause-refused c fault is =
    let same = err_from_is_err_and c.from_residual.result c.from_residual.ensures.1 in
    inl (c.in_err-table.ensures.refused fault (ap (λ z. Err z) (sym same.2 ∙ same_err c.from_residual.result same.0 (Refused fault) same.1 is)))

pub unreachable-requires : goal.unreachable-requires
unreachable-requires c = says_only c.args.sql.now c.in_ok-table.field-0 c.requires c.in_ok-table.ensures.found c.in_default.not-Create

pub returns-clause-added : goal.returns-clause-added
returns-clause-added c =
    let says : Says c.args.sql.now (Ok (Create c.in-Create.table)) = subst (λ z. Says c.args.sql.now (Ok (statement_seen z))) c.in-Create.is c.in_ok-table.ensures.found in
    added_by c.args.schema.now c.add_nullable.new.self c.args.sql.now c.in-Create.table c.add_nullable.result says c.add_nullable.ensures.added c.add_nullable.ensures.faultless

pub returns-clause-refused : goal.returns-clause-refused
returns-clause-refused c fault is =
    let says : Says c.args.sql.now (Ok (Create c.in-Create.table)) = subst (λ z. Says c.args.sql.now (Ok (statement_seen z))) c.in-Create.is c.in_ok-table.ensures.found in
    inr (c.in-Create.table, says, c.add_nullable.ensures.refused fault is)
