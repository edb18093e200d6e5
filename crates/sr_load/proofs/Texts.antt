-- The bytes of a field as a text.
use Rattle.std.specs.Prelude.{IsUtf8}
use Rattle.std.specs.Str.{is_utf8}
use Rattle.std.proofs.Common.{◌≡◌, ℕ, List, Option, Some, None, refl, inl, inr}
use Rattle.std.proofs.lemmas.Bool.{cases_Bool}
use Rattle.std.proofs.lemmas.Str.{IsUtf8-from_is_utf8, is_utf8-from_IsUtf8}
use Rattle.sr_cell.specs.declared.cell.Cell.{Cell}
use Rattle.sr_cell.specs.declared.cell.Cell.TheVariants.{Str}
use Rattle.sr_load.specs.Loading.{text_of}

pub is_text : (bytes text cell : List ℕ) → cell ≡ text → text ≡ bytes → IsUtf8 bytes → Some (Str cell) ≡ text_of bytes
is_text bytes text cell copied same are =
    let holds = is_utf8-from_IsUtf8 bytes are in
    rw (copied, same, holds) refl

pub is_no_text : (bytes : List ℕ) → (IsUtf8 bytes → ⊥) → ◌≡◌ {A = Option Cell} None (text_of bytes)
is_no_text bytes other = elim (cases_Bool (is_utf8 bytes)) [
  | inl holds ↦ absurd (other (IsUtf8-from_is_utf8 bytes holds))
  | inr fails ↦ rw fails refl
]
