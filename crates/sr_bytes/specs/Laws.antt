-- Reading and spelling belong together.
use Rattle.std.specs.Prelude.{◌≡◌, ℕ, Bool, List, ◌++◌, IsTrue}
use Rattle.sr_cell.specs.Columns.{are_bytes}
use Rattle.sr_bytes.specs.Reading.{Reader, Got}

-- Whatever has a spelling is read from it, whatever stands behind it. What is read has a spelling, which stood at the front.
pub record IsExact {A : Type 0} (r : Reader A) (bytes_of : A → List ℕ) (has : A → Bool) : Type 0 where
  pub again : (x : A) (rest : List ℕ) → IsTrue (has x) → r (bytes_of x ++ rest) ≡ Got x rest
  pub spelled : (bytes : List ℕ) (x : A) (rest : List ℕ) → IsTrue (are_bytes bytes) → r bytes ≡ Got x rest → (bytes ≡ bytes_of x ++ rest) × IsTrue (has x)
