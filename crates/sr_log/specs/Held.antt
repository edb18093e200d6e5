-- What contracts see of a log.
use Rattle.std.specs.Prelude.{◌≡◌, ℕ, ◌+◌, nat_lt, List, [], ◌∷◌, ◌++◌, length, map, filter}
use Rattle.sr_cell.specs.declared.change.Change.{Change}
use Rattle.sr_log.specs.declared.entry.Entry.{Entry}
use Rattle.sr_log.specs.Kept.{floor, kept}

-- the limit, how many versions were dropped, the changes of the later ones, and how many pushes take no memory
pub record Held : Type 0 where
  pub limit : ℕ
  pub floor : ℕ
  pub kept : List (List Change)
  pub room : ℕ

-- the version of the last push
abbrev pub newest : Held → ℕ
newest log = log.floor + length log.kept

-- the changes of each entry
abbrev pub changes_of : List Entry → List (List Change)
changes_of entries = map (λ (entry : Entry). entry.changes) entries

-- the versions that follow version `last`
abbrev pub numbered : ℕ → List (List Change) → List Entry
numbered last [] = []
numbered last (changes ∷ later) = record { version = last + 1; changes = changes } ∷ numbered (last + 1) later

-- the kept versions above `version`
abbrev pub entries_above : ℕ → Held → List Entry
entries_above version log = filter (λ entry. nat_lt version entry.version) (numbered log.floor log.kept)

-- with one version more
abbrev pub IsPushed : Held → List Change → Held → Type 0
IsPushed old changes new =
    (new.limit ≡ old.limit)
    × (new.kept ≡ kept old.limit (old.kept ++ changes ∷ []))
    × (new.floor ≡ old.floor + floor old.limit (old.kept ++ changes ∷ []))

-- with all these versions, pushed one by one
abbrev pub ArePushed : Held → List (List Change) → Held → Type 0
ArePushed old [] new = old ≡ new
ArePushed old (changes ∷ later) new = (next : Held) × IsPushed old changes next × ArePushed next later new

-- Of all versions it keeps what is to be kept.
abbrev pub KeepsNewest : ℕ → List (List Change) → Held → Type 0
KeepsNewest limit all log = (log.limit ≡ limit) × (log.kept ≡ kept limit all) × (log.floor ≡ floor limit all)

-- So does a log into which one version more is pushed,
abbrev pub PushKeepsNewest : Type 0
PushKeepsNewest =
    (limit : ℕ) (all : List (List Change)) (changes : List Change) (old new : Held) →
    KeepsNewest limit all old → IsPushed old changes new → KeepsNewest limit (all ++ changes ∷ []) new

-- and one into which all were pushed one by one, from a log with no version.
abbrev pub PushesKeepNewest : Type 0
PushesKeepNewest =
    (limit : ℕ) (all : List (List Change)) (first last : Held) →
    KeepsNewest limit [] first → ArePushed first all last → KeepsNewest limit all last
