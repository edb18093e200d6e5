-- Parts are made one by one.
use Rattle.std.proofs.Common.{◌≡◌, ℕ, ◌+◌, ◌<◌, List, [], ◌∷◌, ◌++◌, length, drop, refl, sym, ap, subst, ◌∙◌, append_assoc, drop-cons, add-one}
use Rattle.std.specs.Prelude.{Result, Ok, Err, filter, slice_index_or}
use Rattle.std.specs.List.{AllZip}
use Rattle.sr_cell.specs.declared.fault.Fault.{Fault}
use Rattle.sr_cell.specs.declared.list.No.{No}
use Rattle.sr_cell.specs.declared.list.No.TheVariants.{Refused, NoMemory}
use Rattle.sr_cell.specs.declared.table.Table.{Table}
use Rattle.sr_cell.proofs.Lists.{AllZip-push}
use Rattle.sr_model.specs.Conditions.{And}
use Rattle.sr_model.specs.Queries as model
use Rattle.sr_query.specs.declared.query.Part.{Part}
use Rattle.sr_query.specs.Binding.{◌>>=◌, Bound, each, narrow, list_conds, parts_from}
use Rattle.sr_query.specs.Bound.{IsPart}
use Rattle.sr_bind.specs.Narrow.{part_with, IsNarrow, AreNarrow}
use Rattle.sr_bind.specs.OneTable.{is_on}

-- these parts are made of all, and the rest is left
pub record Going (schema : List Table) (parts : List Part) (all rest : List model.Part) : Type 0 where
  pub made : List model.Part
  pub whole : all ≡ made ++ rest
  pub narrow : each narrow all ≡ (each narrow rest >>= λ more. Ok (made ++ more))
  pub are : AllZip (IsPart schema) parts made

pub one_made : (schema : List Table) (parts longer : List Part) (all rest : List model.Part) (p : Part) (m : model.Part) → longer ≡ parts ++ p ∷ [] → narrow m ≡ Ok m → IsPart schema p m
    → Going schema parts all (m ∷ rest) → Going schema longer all rest
one_made schema parts longer all rest p m pushed fits is g = record {
  made = g.made ++ m ∷ [];
  whole = g.whole ∙ sym (append_assoc g.made (m ∷ []) rest);
  narrow = g.narrow ∙ rw fits (go (each narrow rest));
  are = rw pushed (AllZip-push (IsPart schema) parts g.made p m g.are is);
}
  where
    go : (r : Result (List model.Part) Fault) → ((r >>= λ more. Ok (m ∷ more)) >>= λ more. Ok (g.made ++ more)) ≡ (r >>= λ more. Ok ((g.made ++ m ∷ []) ++ more))
    go (Ok ms) = ap (λ x. Ok x) (sym (append_assoc g.made (m ∷ []) ms))
    go (Err fault) = refl

pub one_not_made : (schema : List Table) (parts : List Part) (all rest : List model.Part) (m : model.Part) (no : No Fault) → IsNarrow schema (Err no) m
    → Going schema parts all (m ∷ rest) → AreNarrow schema (Err no) all
one_not_made schema parts all rest m (Refused fault) wide g = g.narrow ∙ rw wide refl
one_not_made schema parts all rest m NoMemory wide g = tt

-- the next part, by the conjuncts on it
next_part : (schema : List Table) (tables : List ℕ) (columns : List model.Output) (bs own : List Bound) (i : ℕ) → i < length tables → own ≡ filter (is_on i) bs
    → parts_from schema i (drop i tables) columns bs
    ≡ part_with schema i (slice_index_or tables i 0) columns (And (list_conds own)) ∷ parts_from schema (i + 1) (drop (i + 1) tables) columns bs
next_part schema tables columns bs own i within e =
    let front : drop i tables ≡ slice_index_or tables i 0 ∷ drop (i + 1) tables = drop-cons tables i 0 within ∙ ap (λ k. slice_index_or tables i 0 ∷ drop k tables) (sym (add-one i)) in
    rw (front, e) refl

-- what is left begins with the next part
pub goes_on : (schema : List Table) (tables : List ℕ) (columns : List model.Output) (bs own : List Bound) (parts : List Part) (all : List model.Part) (i : ℕ) → i < length tables → own ≡ filter (is_on i) bs
    → Going schema parts all (parts_from schema i (drop i tables) columns bs)
    → Going schema parts all (part_with schema i (slice_index_or tables i 0) columns (And (list_conds own)) ∷ parts_from schema (i + 1) (drop (i + 1) tables) columns bs)
goes_on schema tables columns bs own parts all i within e going = subst (Going schema parts all) (next_part schema tables columns bs own i within e) going
