use Rattle.std.proofs.Common.{◌≡◌, ℕ, ◌<◌, ◌≤◌, ◌^◌, ◌/◌, true, refl, arith}
use Rattle.std.specs.Prelude.{◌==◌}
use Rattle.std.proofs.Math.Nat.{div-eq_of_lt}
use Rattle.std.proofs.Math.Pow.{pow_mono}
use Rattle.std.proofs.lemmas.Bool.Decides.{nat_tests}
use Rattle.sr_server.proofs.misfit.are_columns.Goals as goal

beyond : (attrs count : ℕ) → attrs < 2 ^ 16 → 16 ≤ count → (attrs / 2 ^ count == 0) ≡ true
beyond attrs count small le =
    let more = pow_mono le in
    let large : attrs < 2 ^ count = omega (arith, small, more) in
    rw (div-eq_of_lt large) refl

pub returns-then-count-ge16 : goal.returns-then-count-ge16
returns-then-count-ge16 c =
    let small : c.args.attrs < 2 ^ 16 = omega arith in
    let none = beyond c.args.attrs c.args.count small c.if-count-ge16.true in
    grind (arith, nat_tests, none)
