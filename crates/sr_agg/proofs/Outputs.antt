-- The columns of a query's list, as the code knows them.
use Rattle.std.proofs.Common.{◌≡◌, ℕ, zero, suc, List, [], ◌∷◌, take, map, refl, sym, ap, ◌∙◌}
use Rattle.std.specs.Prelude.{Some, None, slice_get}
use Rattle.std.specs.Option.{option_map}
use Rattle.sr_query.specs.declared.condition.Output.{Output}
use Rattle.sr_query.specs.Bound.{output_of}
use Rattle.sr_agg.specs.Starting.{same_among, same_as}

map-take : {A B : Type 0} (f : A → B) (n : ℕ) (xs : List A) → map f (take n xs) ≡ take n (map f xs)
map-take f zero xs = refl
map-take f (suc n) [] = refl
map-take f (suc n) (x ∷ xs) = ap (λ ys. f x ∷ ys) (map-take f n xs)

get-map : {A B : Type 0} (f : A → B) (xs : List A) (i : ℕ) → slice_get (map f xs) i ≡ option_map f (slice_get xs i)
get-map f [] zero = refl
get-map f [] (suc i) = refl
get-map f (x ∷ xs) zero = refl
get-map f (x ∷ xs) (suc i) = get-map f xs i

pub group-found : (outputs : List Output) (g place : ℕ) (o : Output) → slice_get outputs place ≡ Some o
    → same_as (take g (map output_of outputs)) (slice_get (map output_of outputs) place) ≡ same_among 0 (output_of o) (map output_of (take g outputs))
group-found outputs g place o h =
    ap (same_as (take g (map output_of outputs))) (get-map output_of outputs place ∙ ap (option_map output_of) h)
    ∙ ap (same_among 0 (output_of o)) (sym (map-take output_of g outputs))

pub group-none : (outputs : List Output) (g place : ℕ) → slice_get outputs place ≡ None → None ≡ same_as (take g (map output_of outputs)) (slice_get (map output_of outputs) place)
group-none outputs g place h = sym (ap (same_as (take g (map output_of outputs))) (get-map output_of outputs place ∙ ap (option_map output_of) h))
