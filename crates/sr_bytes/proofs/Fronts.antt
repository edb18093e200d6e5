-- What stands in front stays there.
use Rattle.std.proofs.Common.{◌≡◌, ℕ, ◌≤◌, List, ◌++◌, length, take, refl, sym, ap, ◌∙◌, arith}
use Rattle.std.proofs.lemmas.List.{length-take, take_at, take-take}
use Rattle.std.proofs.Math.Seq.{take-length}
use Rattle.sr_bytes.specs.Writing.{IsBehind}

pub stays : (old : List ℕ) → IsBehind old old
stays old = take-length old

pub stays_behind : (old more : List ℕ) → IsBehind old (old ++ more)
stays_behind old more = take_at old more (length old) refl

-- what was written behind it, and what then failed, left it there
pub stays_on : (old more new later : List ℕ) → new ≡ old ++ more → IsBehind new later → IsBehind old later
stays_on old more new later e h =
    let front : take (length old) new ≡ old = ap (take (length old)) e ∙ stays_behind old more in
    let few : length old ≤ length new = omega (arith, ap length front, length-take (length old) new) in
    sym (take-take (length old) (length new) later few) ∙ ap (take (length old)) h ∙ front
