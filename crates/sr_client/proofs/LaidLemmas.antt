-- What stands beside the messages that wait: their greatest version, and the place of the last one that brings rows.
use Rattle.std.proofs.Common.{◌≡◌, ℕ, ◌<◌, suc, zero, true, false, List, [], ◌∷◌, ◌++◌, length, refl, sym, ap, ◌∙◌, arith, Option, Some, None}
use Rattle.std.specs.Prelude.{max, slice_get}
use Rattle.std.proofs.lemmas.Bool.Decides.{nat_tests}
use Rattle.sr_cell.specs.Cells.{Row}
use Rattle.sr_message.specs.declared.message.Message.{Message}
use Rattle.sr_message.specs.declared.message.Message.TheVariants.{Hello, Resume, Ask, Write, Welcome, Notice, Rows, Reply, Written, Refused, Lapse}
use Rattle.sr_session.specs.Misfits.{known, last_came, version_of}
use Rattle.sr_client.specs.Shapes.{IsLastRows, brings_rows}
use Rattle.sr_session.proofs.ShapeLemmas.{came-append}

-- ---- versions

pub known-max : (v : ℕ) (ms : List Message) → known v ms ≡ max v (known 0 ms)
known-max v [] = omega arith
known-max v (Notice u told ∷ ms) = omega (arith, known-max (max v u) ms, known-max (max 0 u) ms)
known-max v (Lapse u ∷ ms) = omega (arith, known-max (max v u) ms, known-max (max 0 u) ms)
known-max v (Rows k part rows ∷ ms) = known-max v ms
known-max v (Reply k u ∷ ms) = known-max v ms
known-max v (Written k u ∷ ms) = known-max v ms
known-max v (Refused k fault ∷ ms) = known-max v ms
known-max v (Welcome k u kept ∷ ms) = known-max v ms
known-max v (Hello wire client number ∷ ms) = known-max v ms
known-max v (Resume wire client number version holdings ∷ ms) = known-max v ms
known-max v (Ask number fresh parts ∷ ms) = known-max v ms
known-max v (Write number sql ∷ ms) = known-max v ms

pub known-append : (v : ℕ) (ms : List Message) (m : Message) → known v (ms ++ m ∷ []) ≡ version_of m (known v ms)
known-append v [] m = refl
known-append v (Notice u told ∷ ms) m = known-append (max v u) ms m
known-append v (Lapse u ∷ ms) m = known-append (max v u) ms m
known-append v (Rows k part rows ∷ ms) m = known-append v ms m
known-append v (Reply k u ∷ ms) m = known-append v ms m
known-append v (Written k u ∷ ms) m = known-append v ms m
known-append v (Refused k fault ∷ ms) m = known-append v ms m
known-append v (Welcome k u kept ∷ ms) m = known-append v ms m
known-append v (Hello wire client number ∷ ms) m = known-append v ms m
known-append v (Resume wire client number version holdings ∷ ms) m = known-append v ms m
known-append v (Ask number fresh parts ∷ ms) m = known-append v ms m
known-append v (Write number sql ∷ ms) m = known-append v ms m

-- ---- rows

-- a message that brings no rows leaves the last one
other-kind : (last : Option (ℕ × Row)) (m : Message) → brings_rows m ≡ false → last_came last (m ∷ []) ≡ last
other-kind last (Rows k part []) none = refl
other-kind last (Rows k part (r ∷ rows)) none = absurd (grind (arith, nat_tests, none))
other-kind last (Notice w told) none = refl
other-kind last (Lapse w) none = refl
other-kind last (Reply k w) none = refl
other-kind last (Written k w) none = refl
other-kind last (Refused k fault) none = refl
other-kind last (Welcome k w kept) none = refl
other-kind last (Hello wire client n) none = refl
other-kind last (Resume wire client n v holdings) none = refl
other-kind last (Ask n mode parts) none = refl
other-kind last (Write n sql) none = refl

-- one that brings some has the last one
own-kind : (last : Option (ℕ × Row)) (m : Message) → brings_rows m ≡ true → last_came last (m ∷ []) ≡ last_came None (m ∷ [])
own-kind last (Rows k part []) some = absurd (grind (arith, nat_tests, some))
own-kind last (Rows k part (r ∷ rows)) some = refl
own-kind last (Notice w told) some = absurd (cc)
own-kind last (Lapse w) some = absurd (cc)
own-kind last (Reply k w) some = absurd (cc)
own-kind last (Written k w) some = absurd (cc)
own-kind last (Refused k fault) some = absurd (cc)
own-kind last (Welcome k w kept) some = absurd (cc)
own-kind last (Hello wire client n) some = absurd (cc)
own-kind last (Resume wire client n v holdings) some = absurd (cc)
own-kind last (Ask n mode parts) some = absurd (cc)
own-kind last (Write n sql) some = absurd (cc)

get-last : (xs : List Message) (m : Message) → slice_get (xs ++ m ∷ []) (length xs) ≡ Some m
get-last [] m = refl
get-last (x ∷ xs) m = get-last xs m

get-before : (xs : List Message) (i : ℕ) (x m : Message) → slice_get xs i ≡ Some x → slice_get (xs ++ m ∷ []) i ≡ Some x
get-before [] i x m is = absurd (cc)
get-before (y ∷ xs) zero x m is = is
get-before (y ∷ xs) (suc i) x m is = get-before xs i x m is

pub rows-same : (messages : List Message) (last : Option ℕ) (m : Message) → brings_rows m ≡ false → IsLastRows messages last → IsLastRows (messages ++ m ∷ []) last
rows-same messages None m none before = came-append None messages (m ∷ []) ∙ (other-kind (last_came None messages) m none ∙ before)
rows-same messages (Some place) m none before =
    (before.0, get-before messages place before.0 m before.1, before.2 ∙ sym (came-append None messages (m ∷ []) ∙ other-kind (last_came None messages) m none))

pub rows-now : (messages : List Message) (m : Message) → brings_rows m ≡ true → IsLastRows (messages ++ m ∷ []) (Some (length messages))
rows-now messages m some =
    (m, get-last messages m, sym (came-append None messages (m ∷ []) ∙ own-kind (last_came None messages) m some))
