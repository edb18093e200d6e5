-- Files that are read.
use Rattle.std.specs.Prelude.{◌≡◌, ℕ, ◌<◌, ◌≤◌, ◌⊎◌, List, [], ◌∷◌, map, length, Option, Some, IfSome}
use Rattle.sr_io.specs.Pieces.{Lost}
use Rattle.sr_load.specs.declared.fill.Load.{Load}
use Rattle.sr_words.specs.declared.command.LoadWord.{LoadWord}

-- the names of the files for the tables
abbrev pub names_of : List LoadWord → List (List ℕ)
names_of loads = map (λ load. load.file) loads

-- what was read is what is held under the name, where that is told, and it is not too long
pub record IsWhatIsHeld (held : Option (List ℕ)) (read : List ℕ) : Type 0 where
  pub told : IfSome held (λ bytes. read ≡ bytes)
  pub within_limit : length read ≤ 67108864

pub record IsLoad (held : List ℕ → Option (List ℕ)) (word : LoadWord) (load : Load) : Type 0 where
  pub table : load.table ≡ word.table
  pub read : IsWhatIsHeld (held word.file) load.bytes

-- one byte more than the limit was read
abbrev pub IsTooLong : Option (List ℕ) → Option (List ℕ) → Type 0
IsTooLong held left = Lost held left (λ bytes. length bytes ≡ 67108865)

-- one of the files is too long, and those before it were read
abbrev pub SomeTooLong : (List ℕ → Option (List ℕ)) → Option (List ℕ) → List (List ℕ) → Type 0
SomeTooLong held left [] = ⊥
SomeTooLong held left (name ∷ names) = IsTooLong (held name) left ⊎ ((read : List ℕ) × IsWhatIsHeld (held name) read × SomeTooLong held left names)

-- ---- a host without faults

pub record IsHeldLoad (held : List ℕ → Option (List ℕ)) (word : LoadWord) (load : Load) : Type 0 where
  pub table : load.table ≡ word.table
  pub bytes : held word.file ≡ Some load.bytes

-- the file has more bytes than the limit
abbrev pub IsLong : List ℕ → Type 0
IsLong bytes = 67108864 < length bytes

-- one of the files has
abbrev pub SomeLong : List Load → Type 0
SomeLong [] = ⊥
SomeLong (load ∷ loads) = IsLong load.bytes ⊎ SomeLong loads
