-- Members of conditions, as lists.
use Rattle.std.proofs.Common.{◌≡◌, ℕ, ◌+◌, ◌<◌, ◌≤◌, Bool, List, [], ◌∷◌, ◌++◌, length, get_or, drop, map, refl, sym, ap, ◌∙◌, drop-cons, add-one}
use Rattle.std.specs.Prelude.{Result, Ok, Err, ◌&&◌, IsTrue}
use Rattle.std.specs.List.{list_all}
use Rattle.std.proofs.lemmas.List.{drop_all}
use Rattle.std.proofs.lemmas.List.Folds.{list_all-append}
use Rattle.sr_cell.specs.declared.fault.Fault.{Fault}
use Rattle.sr_cell.specs.declared.table.Table.{Table}
use Rattle.sr_grammar.specs.declared.statement.Cond.{Cond}
use Rattle.sr_grammar.specs.Trees.{conds_of}
use Rattle.sr_grammar.specs.Seen.{cond_seen}
use Rattle.sr_query.specs.Binding.{◌>>=◌, Bound, Bounds, no_more, one_more, bound, bound_all}
use Rattle.sr_query.specs.Meant.{bounds_of}
use Rattle.sr_bind.specs.AreBound.{are_bound, all_are_bound}

-- members behind others
abbrev pub behind : List Bound → Bounds → Bounds
behind [] more = more
behind (b ∷ bs) more = one_more b (behind bs more)

one_behind : (bs : List Bound) (b : Bound) (more : Bounds) → behind (bs ++ b ∷ []) more ≡ behind bs (one_more b more)
one_behind [] b more = refl
one_behind (a ∷ bs) b more = ap (one_more a) (one_behind bs b more)

pub none_behind : (bs : List Bound) → behind bs no_more ≡ bounds_of bs
none_behind [] = refl
none_behind (b ∷ bs) = ap (one_more b) (none_behind bs)

-- the members of the conditions of a list
abbrev pub bound_list : List Table → List ℕ → List Cond → Result Bounds Fault
bound_list schema tables conds = bound_all schema tables (conds_of (map cond_seen conds))

front : (conds : List Cond) (i : ℕ) (cond : Cond) → i < length conds → cond ≡ get_or conds i cond → drop i conds ≡ cond ∷ drop (i + 1) conds
front conds i cond within is =
    drop-cons conds i cond within ∙ ap (λ k. get_or conds i cond ∷ drop k conds) (sym (add-one i)) ∙ ap (λ x. x ∷ drop (i + 1) conds) (sym is)

-- one condition more is bound
pub one_more_bound : (schema : List Table) (tables : List ℕ) (conds : List Cond) (i : ℕ) (cond : Cond) (bs all : List Bound) (b : Bound) (whole : Result Bounds Fault)
    → i < length conds → cond ≡ get_or conds i cond → bound schema tables (cond_seen cond) ≡ Ok b → all ≡ bs ++ b ∷ []
    → whole ≡ (bound_list schema tables (drop i conds) >>= λ more. Ok (behind bs more))
    → whole ≡ (bound_list schema tables (drop (i + 1) conds) >>= λ more. Ok (behind all more))
one_more_bound schema tables conds i cond bs all b whole within is e pushed h =
    let f = front conds i cond within is in
    h ∙ rw (f, e, pushed) (go (bound_list schema tables (drop (i + 1) conds)))
  where
    go : (r : Result Bounds Fault) → ((r >>= λ more. Ok (one_more b more)) >>= λ more. Ok (behind bs more)) ≡ (r >>= λ more. Ok (behind (bs ++ b ∷ []) more))
    go (Ok more) = ap (λ x. Ok x) (sym (one_behind bs b more))
    go (Err fault) = refl

pub members_are_bound : (schema : List Table) (tables : List ℕ) (bs : List Bound) → all_are_bound schema tables (bounds_of bs) ≡ list_all (are_bound schema tables) bs
members_are_bound schema tables [] = refl
members_are_bound schema tables (b ∷ bs) = ap (λ x. are_bound schema tables b && x) (members_are_bound schema tables bs)

pub none_more_bound : (schema : List Table) (tables : List ℕ) (conds : List Cond) (i : ℕ) (bs : List Bound) (whole : Result Bounds Fault)
    → length conds ≤ i → whole ≡ (bound_list schema tables (drop i conds) >>= λ more. Ok (behind bs more)) → whole ≡ Ok (bounds_of bs)
none_more_bound schema tables conds i bs whole past h = h ∙ rw (drop_all i conds past) (ap (λ x. Ok x) (none_behind bs))

pub one_more_suits : (p : Bound → Bool) (bs all : List Bound) (b : Bound) → all ≡ bs ++ b ∷ [] → IsTrue (list_all p bs) → IsTrue (p b) → IsTrue (list_all p all)
one_more_suits p bs all b e suit one = rw (e, list_all-append p bs (b ∷ []), suit, one) refl
