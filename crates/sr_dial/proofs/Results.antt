-- What an answer says.
use Rattle.std.specs.Prelude.{Result, Ok, Err, IfOk, OnErr}

-- what is so of each value is so, changed, of a result
pub if-ok : {A E : Type 0} (P Q : A → Type 0) (r : Result A E) → ((a : A) → P a → Q a) → IfOk r P → IfOk r Q
if-ok {A} {E} P Q (Ok a) each h = each a h
if-ok {A} {E} P Q (Err e) each h = tt

-- and where more is so of each under a premise
pub if-ok-also : {A E : Type 0} (Z : Type 0) (P Q R : A → Type 0) (r : Result A E) → ((a : A) → P a → (Z → R a) → Q a) → IfOk r P → (Z → IfOk r R) → IfOk r Q
if-ok-also {A} {E} Z P Q R (Ok a) each h more = each a h more
if-ok-also {A} {E} Z P Q R (Err e) each h more = tt

-- what is so where there is an error is so, changed
pub on-err : {A E : Type 0} (P Q : Type 0) (r : Result A E) → (P → Q) → OnErr r P → OnErr r Q
on-err {A} {E} P Q (Ok a) each h = tt
on-err {A} {E} P Q (Err e) each h = each h
