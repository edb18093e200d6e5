-- Printed numbers and texts.
use Rattle.std.specs.Prelude.{ℕ, ℤ, pos, negsuc, Bool, ◌&&◌, ◌==◌, nat_le, List, [], ◌∷◌, ◌++◌, ◌+◌, ◌/◌, ◌%◌, flat_map, decimal, codes, if◌then◌else◌}
use Rattle.std.specs.List.{list_all}
use Rattle.sr_cell.specs.declared.cell.Cell.{Cell}
use Rattle.sr_cell.specs.declared.cell.Cell.TheVariants.{Num, Str, Null}

-- the texts, with a separator between two
abbrev pub joined : List ℕ → List (List ℕ) → List ℕ
joined separator [] = []
joined separator (t ∷ []) = t
joined separator (t ∷ u ∷ ts) = t ++ (separator ++ joined separator (u ∷ ts))

-- one blank between two words
abbrev pub words : List (List ℕ) → List ℕ
words ts = joined (codes " ") ts

-- a number is decimal, with a minus where it is negative
abbrev pub number_text : ℤ → List ℕ
number_text (pos n) = decimal n
number_text (negsuc n) = codes "-" ++ decimal (n + 1)

abbrev pub hex_digit : ℕ → ℕ
hex_digit d = if nat_le d 9 then 48 + d else 87 + d

-- a quote inside is doubled
abbrev pub quoted_byte : ℕ → List ℕ
quoted_byte b = if b == 39 then codes "''" else b ∷ []

abbrev pub quoted : List ℕ → List ℕ
quoted s = codes "'" ++ (flat_map quoted_byte s ++ codes "'")

-- two digits a byte
abbrev pub hex_byte : ℕ → List ℕ
hex_byte b = hex_digit (b / 16) ∷ hex_digit (b % 16) ∷ []

abbrev pub hexadecimal : List ℕ → List ℕ
hexadecimal s = codes "x'" ++ (flat_map hex_byte s ++ codes "'")

abbrev pub is_printable : ℕ → Bool
is_printable b = nat_le 32 b && nat_le b 126

-- printable bytes stand in quotes, others in hexadecimal
abbrev pub bytes_text : List ℕ → List ℕ
bytes_text s = if list_all is_printable s then quoted s else hexadecimal s

abbrev pub cell_text : Cell → List ℕ
cell_text (Num n) = number_text n
cell_text (Str s) = bytes_text s
cell_text Null = codes "null"
