use Rattle.std.proofs.Common.{[], refl, arith}
use Rattle.std.proofs.lemmas.Bool.Decides.{nat_tests}
use Rattle.sr_store.proofs.fit.are_within.Goals as goal

pub returns-then-not-are_many_rows : goal.returns-then-not-are_many_rows
returns-then-not-are_many_rows c = λ schema last few.
    let rows = c.are_many_rows.ensures in
    let is = c.if-not-are_many_rows.true in
    let regions = c.are_many.ensures in
    record {
      mid = c.args.regions.now;
      rows = [];
      regions = [];
      for_rows = (grind (arith, nat_tests, rows, is), refl);
      for_regions = (grind (arith, nat_tests, regions, few), refl);
      all = refl;
    }
