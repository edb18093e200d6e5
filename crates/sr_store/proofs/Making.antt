-- A list made for another, item by item: what is made for the rest, behind what is made so far, is one for the whole.
use Rattle.std.proofs.Common.{◌≡◌, List, [], ◌∷◌, ◌++◌, sym, ap, subst, ◌∙◌}
use Rattle.std.proofs.lemmas.List.{append_assoc, append-nil}

abbrev pub Completes : {X Y : Type 0} → (List X → List Y → Type 0) → List X → List Y → List X → Type 0
Completes {X} {Y} R all made rest = (more : List Y) → R rest more → R all (made ++ more)

pub completes_more : {X Y : Type 0} (R : List X → List Y → Type 0) (all : List X) (made new next : List Y) (x : X) (rest left : List X) → rest ≡ x ∷ left → next ≡ made ++ new
    → ((more : List Y) → R left more → R (x ∷ left) (new ++ more)) → Completes R all made rest → Completes R all next left
completes_more R all made new next x rest left first is step whole = λ more h.
    subst (R all) (sym (append_assoc made new more) ∙ sym (ap (λ ys. ys ++ more) is)) (whole (new ++ more) (subst (λ xs. R xs (new ++ more)) (sym first) (step more h)))

pub completes_all : {X Y : Type 0} (R : List X → List Y → Type 0) (all : List X) (made : List Y) (rest : List X) → rest ≡ [] → R [] [] → Completes R all made rest → R all made
completes_all R all made rest none nil whole = subst (R all) (append-nil made) (whole [] (subst (λ xs. R xs []) (sym none) nil))
