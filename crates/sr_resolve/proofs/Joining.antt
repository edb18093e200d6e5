-- The joins of a query, one more.
use Rattle.std.proofs.Common.{◌≡◌, ℕ, ◌<◌, ◌+◌, List, [], ◌∷◌, ◌++◌, map, take, drop, get_or, length, add-one, append_assoc, drop-cons, refl, sym, ap, ◌∙◌, Result, Ok, Err}
use Rattle.std.proofs.lemmas.List.{map_push}
use Rattle.sr_cell.specs.declared.fault.Fault.{Fault}
use Rattle.sr_cell.specs.declared.table.Table.{Table}
use Rattle.sr_grammar.specs.declared.statement.JoinOn.{JoinOn}
use Rattle.sr_model.specs.Queries.{Join, Output}
use Rattle.sr_query.specs.Binding.{joins_from, key_join, resolved, ◌>>=◌}
use Rattle.sr_query.specs.declared.query.KeyJoin.{KeyJoin}
use Rattle.sr_resolve.specs.Joined.{join_of}
use Rattle.sr_resolve.specs.Steps.{behind, one_join}

-- what comes behind two answers comes behind the first, and then the second
nested : {A B : Type 0} (l r : Result Output Fault) (k : Output → Output → Result A Fault) (g : A → Result B Fault)
    → ((l >>= λ left. r >>= λ right. k left right) >>= g) ≡ (l >>= λ left. r >>= λ right. k left right >>= g)
nested (Err fault) r k g = refl
nested (Ok left) (Err fault) k g = refl
nested (Ok left) (Ok right) k g = refl

-- the joins from a place on: that one, and those behind it
joins_there : (schema : List Table) (tables : List ℕ) (part i : ℕ) (joins : List JoinOn) (join : JoinOn) → i < length joins → join ≡ get_or joins i join
    → joins_from schema tables part (drop i joins) ≡ (one_join schema tables part join >>= λ j. joins_from schema tables (part + 1) (drop (i + 1) joins) >>= λ others. Ok (j ∷ others))
joins_there schema tables part i joins join within is =
    let front : drop i joins ≡ join ∷ drop (i + 1) joins = drop-cons joins i join within ∙ ap (λ k. get_or joins i join ∷ drop k joins) (sym (add-one i)) ∙ ap (λ x. x ∷ drop (i + 1) joins) (sym is) in
    ap (joins_from schema tables part) front
    ∙ sym (nested (resolved schema (take (part + 1) tables) join.left) (resolved schema (take (part + 1) tables) join.right) (key_join schema tables part join.place) _)

regroup : (done : List Join) (j : Join) (others : Result (List Join) Fault) → behind (done ++ j ∷ []) others ≡ behind done (others >>= λ more. Ok (j ∷ more))
regroup done j (Ok more) = ap (λ z. Ok z) (append_assoc done (j ∷ []) more)
regroup done j (Err fault) = refl

pub join_more : (schema : List Table) (tables : List ℕ) (i : ℕ) (joins : List JoinOn) (join : JoinOn) (found : KeyJoin) (before after : List KeyJoin) (all : Result (List Join) Fault)
    → i < length joins → join ≡ get_or joins i join → one_join schema tables (i + 1) join ≡ Ok (join_of schema tables found) → after ≡ before ++ found ∷ []
    → behind (map (join_of schema tables) before) (joins_from schema tables (i + 1) (drop i joins)) ≡ all
    → behind (map (join_of schema tables) after) (joins_from schema tables (i + 1 + 1) (drop (i + 1) joins)) ≡ all
join_more schema tables i joins join found before after all within is one pushed so =
    let f = join_of schema tables in
    let rest = joins_from schema tables (i + 1 + 1) (drop (i + 1) joins) in
    ap (λ z. behind (map f z) rest) pushed ∙ ap (λ z. behind z rest) (map_push f before found) ∙ regroup (map f before) (f found) rest
    ∙ ap (behind (map f before)) (sym (joins_there schema tables (i + 1) i joins join within is ∙ ap (λ r. r >>= λ j. rest >>= λ others. Ok (j ∷ others)) one)) ∙ so

pub join_refused : (schema : List Table) (tables : List ℕ) (i : ℕ) (joins : List JoinOn) (join : JoinOn) (fault : Fault) (before : List KeyJoin) (all : Result (List Join) Fault)
    → i < length joins → join ≡ get_or joins i join → one_join schema tables (i + 1) join ≡ Err fault
    → behind (map (join_of schema tables) before) (joins_from schema tables (i + 1) (drop i joins)) ≡ all
    → all ≡ Err fault
join_refused schema tables i joins join fault before all within is one so =
    let rest = joins_from schema tables (i + 1 + 1) (drop (i + 1) joins) in
    sym so ∙ ap (behind (map (join_of schema tables) before)) (joins_there schema tables (i + 1) i joins join within is ∙ ap (λ r. r >>= λ j. rest >>= λ others. Ok (j ∷ others)) one)
