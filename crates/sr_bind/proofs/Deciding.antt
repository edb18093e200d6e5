-- What a test of two ends, or of a prefix, says.
use Rattle.std.proofs.Common.{◌≡◌, Bool, true, false, inl, inr, ap}
use Rattle.std.specs.Prelude.{Result, Ok, Err, ◌⊎◌}
use Rattle.sr_cell.specs.declared.list.No.{No}
use Rattle.sr_cell.specs.declared.list.No.TheVariants.{Refused, NoMemory}
use Rattle.sr_cell.specs.declared.cell.Cell.{Cell}
use Rattle.sr_cell.specs.declared.fault.Fault.{Fault}
use Rattle.sr_cell.specs.declared.table.Kind.{Kind}
use Rattle.sr_grammar.specs.declared.statement.Atom.{Atom}
use Rattle.sr_grammar.specs.declared.statement.Atom.TheVariants as atoms
use Rattle.sr_grammar.specs.declared.statement.Literal.{Literal}
use Rattle.sr_model.specs.Conditions.{Test, Between, Prefix}
use Rattle.sr_query.specs.declared.condition.Test.{Test as Tested}
use Rattle.sr_query.specs.Binding.{◌>>=◌, value_of, text_of, test_of}
use Rattle.sr_query.specs.Decided.{Decides}
use Rattle.sr_query.specs.Meant.{test_meant, holds}
use Rattle.sr_bind.specs.TestsOf.{between_of, prefix_of}

abbrev Says : Bool → Result Tested (No Fault) → Result (Bool × Test) Fault → Type 0
Says p r d = Decides {A = Tested} {B = Bool × Test} (λ t. (p, test_meant t)) r d

abbrev Marks : Bool → Result Test Fault → Result (Bool × Test) Fault
Marks p d = d >>= λ t. Ok (p, t)

marked : (p : Bool) (r : Result Tested (No Fault)) (d : Result Test Fault) → Decides test_meant r d → Says p r (Marks p d)
marked p (Ok t) d h = ap (Marks p) h
marked p (Err (Refused f)) d h = ap (Marks p) h
marked p (Err NoMemory) d h = tt

between_marked : (p : Bool) (kind : Kind) (low high : Literal) (r : Result Tested (No Fault)) → Decides test_meant r (between_of kind low high)
    → Says p r (value_of kind low >>= λ a. value_of kind high >>= λ b. Ok (p, Between a b))
between_marked p kind low high r h =
    go (value_of kind low) (value_of kind high) h
  where
    go : (x y : Result Cell Fault) → Decides test_meant r (x >>= λ a. y >>= λ b. Ok (Between a b)) → Says p r (x >>= λ a. y >>= λ b. Ok (p, Between a b))
    go (Ok a) (Ok b) h = marked p r (Ok (Between a b)) h
    go (Ok a) (Err e) h = marked p r (Err e) h
    go (Err e) y h = marked p r (Err e) h

prefix_marked : (p : Bool) (kind : Kind) (text : Literal) (r : Result Tested (No Fault)) → Decides test_meant r (prefix_of kind text)
    → Says p r (value_of kind text >>= λ v. Ok (p, Prefix (text_of v)))
prefix_marked p kind text r h =
    go (value_of kind text) h
  where
    go : (x : Result Cell Fault) → Decides test_meant r (x >>= λ v. Ok (Prefix (text_of v))) → Says p r (x >>= λ v. Ok (p, Prefix (text_of v)))
    go (Ok v) h = marked p r (Ok (Prefix (text_of v))) h
    go (Err e) h = marked p r (Err e) h

pub between_says : (kind : Kind) (atom : Atom) (low high : Literal) (r : Result Tested (No Fault)) → (atom ≡ atoms.Between low high) ⊎ (atom ≡ atoms.NotBetween low high)
    → Decides test_meant r (between_of kind low high) → Says (holds atom) r (test_of kind atom)
between_says kind atom low high r (inl e) h = rw e (between_marked true kind low high r h)
between_says kind atom low high r (inr e) h = rw e (between_marked false kind low high r h)

pub prefix_says : (kind : Kind) (atom : Atom) (text : Literal) (r : Result Tested (No Fault)) → (atom ≡ atoms.Prefix text) ⊎ (atom ≡ atoms.NotPrefix text)
    → Decides test_meant r (prefix_of kind text) → Says (holds atom) r (test_of kind atom)
prefix_says kind atom text r (inl e) h = rw e (prefix_marked true kind text r h)
prefix_says kind atom text r (inr e) h = rw e (prefix_marked false kind text r h)
