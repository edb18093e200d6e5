-- Reading values from the front of bytes, field by field. What is at fault is told by the bytes from its first one on.
use Rattle.std.specs.Prelude.{ℕ, zero, suc, ℤ, int_le, Bool, true, not, nat_lt, List, [], ◌∷◌, length, take, drop, Some, None, if◌then◌else◌}
use Rattle.std.specs.Int.{Width, w16, w32, w64, byte_len, from_be_bytes, cast_signed}
use Rattle.std.specs.Str.{is_utf8}
use Rattle.sr_cell.specs.declared.cell.Cell.{Cell}
use Rattle.sr_cell.specs.declared.cell.Cell.TheVariants.{Num, Str, Null as NullCell}
use Rattle.sr_cell.specs.Cells.{Row, text_le}
use Rattle.sr_box.specs.declared.span.Span.{Span}
use Rattle.sr_box.specs.declared.span.Span.TheVariants.{Full, Nums, Strs, Null}
use Rattle.sr_box.specs.Points.{Rect}
use Rattle.sr_bytes.specs.Spelling.{is_from_to}

-- a value and the bytes behind it, or the bytes from the first one at fault on
pub data Reading (A : Type 0) : Type 0 where
  Got : A → (rest : List ℕ) → Reading A
  Bad : (rest : List ℕ) → Reading A

abbrev pub Reader : Type 0 → Type 0
Reader A = List ℕ → Reading A

abbrev pub read_on : {A B : Type 0} → Reading A → (A → Reader B) → Reading B
read_on (Got x rest) f = f x rest
read_on (Bad rest) f = Bad rest

infixl 10 ◌>>=◌
abbrev pub ◌>>=◌ : {A B : Type 0} → Reader A → (A → Reader B) → Reader B
(r >>= f) bytes = read_on (r bytes) f

abbrev pub give : {A : Type 0} → A → Reader A
give x bytes = Got x bytes

-- a value that fails the test is at fault from its first byte on
abbrev pub tested : {A : Type 0} → (A → Bool) → List ℕ → Reading A → Reading A
tested test bytes (Got x rest) = if test x then Got x rest else Bad bytes
tested test bytes (Bad rest) = Bad rest

abbrev pub passing : {A : Type 0} → (A → Bool) → Reader A → Reader A
passing test r bytes = tested test bytes (r bytes)

-- so many values, one behind the other
abbrev pub many : {A : Type 0} → Reader A → ℕ → Reader (List A)
many r zero = give []
many r (suc n) = do
  first ← r
  others ← many r n
  give (first ∷ others)

abbrev pub a_byte : Reader ℕ
a_byte [] = Bad []
a_byte (b ∷ rest) = Got b rest

-- a number of that width, the highest byte first
abbrev pub a_number : Width → Reader ℕ
a_number w bytes = if nat_lt (length bytes) (byte_len w) then Bad bytes else Got (from_be_bytes w (take (byte_len w) bytes)) (drop (byte_len w) bytes)

-- so many bytes, which pass the test
abbrev pub bytes_that : (List ℕ → Bool) → ℕ → Reader (List ℕ)
bytes_that test n bytes =
    if nat_lt (length bytes) n then Bad bytes
    else if test (take n bytes) then Got (take n bytes) (drop n bytes) else Bad bytes

abbrev pub a_signed : Reader ℤ
a_signed = do
  n ← a_number w64
  give (cast_signed w64 n)

-- a byte of length in that range, and that many bytes, which pass the test
abbrev pub a_text : ℕ → ℕ → (List ℕ → Bool) → Reader (List ℕ)
a_text low high test = do
  n ← passing (is_from_to low high) a_byte
  bytes_that test n

abbrev pub a_key_of : ℕ → Reader Cell
a_key_of zero = do
  n ← a_signed
  give (Num n)
a_key_of (suc kind) = do
  text ← a_text 0 120 is_utf8
  give (Str text)

-- a key is never Null
abbrev pub a_key : Reader Cell
a_key = do
  kind ← passing (is_from_to 0 1) a_byte
  a_key_of kind

abbrev pub a_cell_of : ℕ → Reader Cell
a_cell_of zero = a_key_of 0
a_cell_of (suc zero) = a_key_of 1
a_cell_of (suc (suc kind)) = give NullCell

abbrev pub a_cell : Reader Cell
a_cell = do
  kind ← passing (is_from_to 0 2) a_byte
  a_cell_of kind

abbrev pub a_row : Reader Row
a_row = do
  n ← passing (is_from_to 1 12) a_byte
  many a_cell n

abbrev pub some_rows : Reader (List Row)
some_rows = do
  n ← passing (is_from_to 1 256) (a_number w16)
  many a_row n

abbrev pub any_bytes : List ℕ → Bool
any_bytes bytes = true

abbrev pub a_span_of : ℕ → Reader Span
a_span_of zero = give Full
a_span_of (suc zero) = do
  lo ← a_signed
  hi ← passing (int_le lo) a_signed
  give (Nums lo hi)
a_span_of (suc (suc zero)) = do
  lo ← a_text 0 121 any_bytes
  hi ← passing (λ hi. not (text_le hi lo)) (a_text 0 121 any_bytes)
  give (Strs lo (Some hi))
a_span_of (suc (suc (suc zero))) = do
  lo ← a_text 0 121 any_bytes
  give (Strs lo None)
a_span_of (suc (suc (suc (suc kind)))) = give Null

abbrev pub a_span : Reader Span
a_span = do
  kind ← passing (is_from_to 0 4) a_byte
  a_span_of kind

abbrev pub a_rect : Reader Rect
a_rect = do
  n ← passing (is_from_to 1 12) a_byte
  many a_span n

abbrev pub some_rects : Reader (List Rect)
some_rects = do
  n ← passing (is_from_to 1 16384) (a_number w32)
  many a_rect n

-- what many would read, up to the first one at fault

abbrev pub item_and : {A : Type 0} → Reading A → (List ℕ → List A) → List A
item_and (Got x rest) more = x ∷ more rest
item_and (Bad rest) more = []

abbrev pub items : {A : Type 0} → Reader A → ℕ → List ℕ → List A
items r zero bytes = []
items r (suc n) bytes = item_and (r bytes) (items r n)
