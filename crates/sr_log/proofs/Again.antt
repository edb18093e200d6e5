-- What is kept of the kept versions and one more is what is kept of all.
use Rattle.std.proofs.Common.{◌≡◌, ℕ, ◌+◌, ◌<◌, List, [], ◌∷◌, ◌++◌, length, drop, sym, ap, subst, arith, inl, inr, append_assoc, ◌∙◌}
use Rattle.std.proofs.lemmas.Bool.{cases_lt}
use Rattle.std.proofs.lemmas.List.{drop-append-le, drop-drop, append-nil}
use Rattle.std.proofs.lemmas.List.Sums.{sum_by-append}
use Rattle.sr_cell.specs.declared.change.Change.{Change}
use Rattle.sr_log.specs.Kept.{total, floor, kept}
use Rattle.sr_log.specs.Held.{Held, ArePushed, KeepsNewest, PushKeepsNewest, PushesKeepNewest}
use Rattle.sr_log.proofs.Least.{floor-few, floor-many, floor-within}

still_many : (limit : ℕ) (all more : List (List Change)) → limit < total all → limit < total (all ++ more)
still_many limit all more many = omega (arith, many, sum_by-append length all more)

floor-again : (limit : ℕ) (all : List (List Change)) (c : List Change) → floor limit (all ++ c ∷ []) ≡ floor limit all + floor limit (kept limit all ++ c ∷ [])
floor-again limit [] c = omega arith
floor-again limit (x ∷ later) c = elim (cases_lt limit (total (x ∷ later))) [
  | inl many ↦ rw (floor-many limit x (later ++ c ∷ []) (still_many limit (x ∷ later) (c ∷ []) many), floor-many limit x later many) (omega (arith, floor-again limit later c))
  | inr few ↦ rw (floor-few limit x later few) (omega arith)
]

kept-again : (limit : ℕ) (all : List (List Change)) (c : List Change) → kept limit (all ++ c ∷ []) ≡ kept limit (kept limit all ++ c ∷ [])
kept-again limit all c =
    rw (floor-again limit all c)
    (sym (drop-drop (floor limit (kept limit all ++ c ∷ [])) (floor limit all) (all ++ c ∷ []))
    ∙ ap (λ rest. drop (floor limit (kept limit all ++ c ∷ [])) rest) (drop-append-le (floor limit all) all (c ∷ []) (floor-within limit all)))

pub push_keeps_newest : PushKeepsNewest
push_keeps_newest limit all c old new before pushed = (
  pushed.0 ∙ before.0,
  pushed.1 ∙ rw (before.0, before.1) (sym (kept-again limit all c)),
  pushed.2 ∙ rw (before.0, before.1, before.2) (sym (floor-again limit all c)),
)

from_there : (limit : ℕ) (before all : List (List Change)) (first last : Held) → KeepsNewest limit before first → ArePushed first all last → KeepsNewest limit (before ++ all) last
from_there limit before [] first last now pushed = rw (append-nil before, ← pushed) now
from_there limit before (c ∷ later) first last now pushed =
    subst (λ (all : List (List Change)). KeepsNewest limit all last) (append_assoc before (c ∷ []) later)
    (from_there limit (before ++ c ∷ []) later pushed.0 last (push_keeps_newest limit before c first pushed.0 now pushed.1) pushed.2)

pub pushes_keep_newest : PushesKeepNewest
pushes_keep_newest limit all first last now pushed = from_there limit [] all first last now pushed
