use Rattle.std.proofs.Common.{◌≡◌, ℕ, List, [], ◌++◌, length, take, ◌∙◌, ap, sym}
use Rattle.std.proofs.lemmas.List.{append-nil, take-append-drop}
use Rattle.sr_io.proofs.laws.no_piece_is_left_out.Goals as goal

pub returns-clause-taken : goal.returns-clause-taken
returns-clause-taken c link piece brought over =
    let filled : piece ≡ take (length piece) link.coming ++ [] = sym (append-nil piece) ∙ ap (λ (front : List ℕ). front ++ []) (sym brought) in
    let split = ap (λ (rest : List ℕ). take (length piece) link.coming ++ rest) (sym over) in
    filled ∙ split ∙ take-append-drop (length piece) link.coming
