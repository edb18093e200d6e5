use Rattle.std.proofs.Common.{◌≡◌, false, map, sym, arith}
use Rattle.std.proofs.lemmas.Grind.{common_steps}
use Rattle.sr_query.specs.Written.{place_of, condition_of}
use Rattle.sr_model.specs.Statements.{meets}
use Rattle.sr_tables.proofs.Placing.{unmet-left}
use Rattle.sr_tables.proofs.update.changed_row.Goals as goal

pub returns-then-not-meets : goal.returns-then-not-meets
returns-then-not-meets c =
    let unmet : meets (condition_of c.args.filter.now.condition) c.args.row.now ≡ false = grind (arith, common_steps) in
    sym (unmet-left (map place_of c.args.sets.now) (condition_of c.args.filter.now.condition) c.args.row.now unmet)
