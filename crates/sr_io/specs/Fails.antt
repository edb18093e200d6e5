-- A list of the numbers of the calls that are to fail. The first call is number 1.
use Rattle.std.specs.Prelude.{ℕ, ◌+◌, ◌-◌, ◌^◌, ◌≤◌, ◌==◌, ◌&&◌, min, nat_lt, Bool, List, All}
use Rattle.std.specs.List.{list_any}

-- no number is above the calls made so far: no call fails from now on
abbrev pub NoneAbove : List ℕ → ℕ → Type 0
NoneAbove numbers calls = All (λ k. k ≤ calls) numbers

-- the call after these fails: its number is in the list (past the last number of a u64 no call does)
abbrev pub fails_after : List ℕ → ℕ → Bool
fails_after numbers calls = nat_lt calls (2 ^ 64 - 1) && list_any (λ k. k == calls + 1) numbers

-- what a form in memory tells of its calls: the numbers of those that are to fail, how many were made so far, and how many bytes
-- one moves at most
pub record Plan : Type 0 where
  pub numbers : List ℕ
  pub calls : ℕ
  pub piece : ℕ

-- the next call is to fail
abbrev pub fails_next : Plan → Bool
fails_next plan = fails_after plan.numbers plan.calls

-- before the first call
abbrev pub planned : List ℕ → ℕ → Plan
planned numbers piece = record { numbers = numbers; calls = 0; piece = piece }

-- after one more call; the count stops at 2^64 - 1
abbrev pub counted : Plan → Plan
counted plan = record { numbers = plan.numbers; calls = min (plan.calls + 1) (2 ^ 64 - 1); piece = plan.piece }
