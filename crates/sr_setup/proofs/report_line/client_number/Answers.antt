use Rattle.std.proofs.Common.{◌∙◌, sym, arith}
use Rattle.sr_cell.specs.Clients.{most_clients}
use Rattle.sr_reader.proofs.Numbers.{client_err, client_ok, client_some, client_none}
use Rattle.sr_setup.proofs.report_line.client_number.Goals as goal

pub returns-in_default : goal.returns-in_default
returns-in_default c =
    client_err most_clients c.args.part.now c.parse.result c.in_default.field-0 (omega arith) (sym c.are_digits.ensures ∙ c.if-not-are_digits.false) c.parse.ensures.value.0 c.in_default.is

pub returns-then-is_client : goal.returns-then-is_client
returns-then-is_client c =
    let are = sym c.are_digits.ensures ∙ c.if-not-are_digits.false in
    let same = client_ok c.args.part.now c.parse.result c.in-Ok.number are c.parse.ensures.value.0 c.in-Ok.is in
    client_some most_clients c.args.part.now c.in-Ok.number are same (sym c.is_client.ensures ∙ c.if-is_client.true)

pub returns-else-is_client : goal.returns-else-is_client
returns-else-is_client c =
    let are = sym c.are_digits.ensures ∙ c.if-not-are_digits.false in
    let same = client_ok c.args.part.now c.parse.result c.in-Ok.number are c.parse.ensures.value.0 c.in-Ok.is in
    client_none most_clients c.args.part.now c.in-Ok.number same (sym c.is_client.ensures ∙ c.if-is_client.false)
