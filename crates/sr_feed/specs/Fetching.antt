-- What one piece of a stream that comes over a link changes.
use Rattle.std.specs.Prelude.{◌≡◌, ℕ, ◌<◌, ◌≤◌, List, ◌++◌, length}
use Rattle.sr_io.specs.Causes.{Rose}
use Rattle.sr_io.specs.Told.{Linking, OnlyFaults, Brings, IsOver, taken_from}
use Rattle.sr_feed.specs.declared.fetched.Fetched.{Fetched}
use Rattle.sr_feed.specs.declared.fetched.Fetched.TheVariants.{More, End, LinkFault}

-- some bytes, the first to come, were taken from the link, and stand behind those that were there
pub record FetchesMore (count : ℕ) (old new : Linking) (before after : List ℕ) : Type 0 where
  pub bytes : List ℕ
  pub size : length bytes ≡ count
  pub some : 0 < count
  pub within : count ≤ 65536
  pub brought : Brings old.present bytes
  pub taken : new ≡ taken_from bytes old
  pub fed : after ≡ before ++ bytes

-- nothing more comes
pub record FetchesNone (left : ℕ) (old new : Linking) (before after : List ℕ) : Type 0 where
  pub over : IsOver old.present
  pub same : new ≡ old
  pub kept : after ≡ before
  pub left_is : left ≡ length before

-- a fault was counted
pub record FetchesFault (old new : Linking) (before after : List ℕ) : Type 0 where
  pub counted : Rose old.faults new.faults
  pub unchanged : OnlyFaults old new
  pub kept : after ≡ before

abbrev pub Fetches : Fetched → Linking → Linking → List ℕ → List ℕ → Type 0
Fetches (More count) old new before after = FetchesMore count old new before after
Fetches (End left) old new before after = FetchesNone left old new before after
Fetches LinkFault old new before after = FetchesFault old new before after
