-- What calls answer.
use Rattle.std.proofs.Common.{◌≡◌, refl, sym, subst, Ok, Err}
use Rattle.std.specs.Prelude.{IfOk, Result}

-- what holds of the value that a call answers holds of its answer
pub if_ok : {T E : Type 0} (P : T → Type 0) (r : Result T E) (value : T) → IfOk r (λ x. x ≡ value) → P value → IfOk r P
if_ok P (Ok x) value is p = subst P (sym is) p
if_ok P (Err e) value is p = tt

pub if_each : {T E : Type 0} (P : T → Type 0) (r : Result T E) → ((x : T) → r ≡ Ok x → P x) → IfOk r P
if_each P (Ok x) each = each x refl
if_each P (Err e) each = tt

pub of_ok : {T E : Type 0} (P : T → Type 0) (r : Result T E) (x : T) → r ≡ Ok x → IfOk r P → P x
of_ok P r x is h = subst (λ r. IfOk r P) is h
