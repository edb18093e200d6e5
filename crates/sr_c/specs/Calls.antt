-- What the calls of a caller in C tell.
use Rattle.std.specs.Prelude.{ℕ, ◌≡◌, ◌⊎◌, List, ◌++◌, Result, Ok, Err, IfOk}
use Rattle.sr_handle.specs.declared.handle.Handle.{Handle}
use Rattle.sr_handle.specs.declared.open.Closed.{Closed}
use Rattle.sr_handle.specs.declared.open.Setting.{Setting}
use Rattle.sr_handle.specs.declared.said.Said.{Said}
use Rattle.sr_handle.specs.declared.said.Stop.{Stop}
use Rattle.sr_handle.specs.declared.told.Told.{Told}
use Rattle.sr_handle.specs.Opening.{Opens, told_of_closed}
use Rattle.sr_handle.specs.Packed.{packed_rows}
use Rattle.sr_handle.specs.Told.{bare, outcome_of}

-- What was said is so, and is told as numbers, the first of which is answered too.
pub record Tells (IsSo : Said → Type 0) (tells : Told) (number : ℕ) : Type 0 where
  pub made : Result Said Stop
  pub is : IfOk made IsSo
  pub told : tells ≡ outcome_of made
  pub outcome : number ≡ tells.outcome

-- a handle is opened and goes out, or why none is
abbrev pub Hands : List ℕ → Setting → Result (Unit {0}) Closed → Type 0
Hands schema setting (Ok done) = (handle : Handle) × Opens schema setting (Ok handle)
Hands schema setting (Err why) = Opens schema setting (Err why)

abbrev pub told_of_opening : Result (Unit {0}) Closed → Told
told_of_opening (Ok done) = bare 0
told_of_opening (Err why) = told_of_closed why

pub record TellsOpening (schema : List ℕ) (setting : Setting) (tells : Told) (number : ℕ) : Type 0 where
  pub made : Result (Unit {0}) Closed
  pub hands : Hands schema setting made
  pub told : tells ≡ told_of_opening made
  pub outcome : number ≡ tells.outcome

-- the bytes stand behind those that came; or memory was refused, and nothing changes
abbrev pub Feeds : Handle → List ℕ → Handle → ℕ → Type 0
Feeds old bytes new number = ((number ≡ 0) × (new ≡ record old { feed = old.feed ++ bytes })) ⊎ ((number ≡ 21) × (new ≡ old))

abbrev pub Packs : Handle → Handle → ℕ → Type 0
Packs old new number = ((number ≡ 0) × (new ≡ record old { text = packed_rows old.rows })) ⊎ ((number ≡ 21) × (new ≡ old))
