use Rattle.std.proofs.Common.{◌≡◌, Some, None, arith}
use Rattle.std.specs.Prelude.{slice_get}
use Rattle.sr_semi.proofs.Sided.{first-column, no-column}
use Rattle.sr_semi.proofs.starts.joined_column.Goals as goal

pub returns-in-Some : goal.returns-in-Some
returns-in-Some c schema q is =
    let some : slice_get c.args.query.now.joins 0 ≡ Some c.in-Some.join.now = grind (arith, c.get.ensures, c.in-Some.is, c.in-Some.join-is) in
    first-column c.args.query.now.joins q.joins c.in-Some.join.now _ is.joins some

pub returns-in-None : goal.returns-in-None
returns-in-None c schema q is =
    let none : slice_get c.args.query.now.joins 0 ≡ None = grind (arith, c.get.ensures, c.in-None.is) in
    no-column c.args.query.now.joins q.joins _ is.joins none
