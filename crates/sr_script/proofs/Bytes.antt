-- Printed bytes.
use Rattle.std.proofs.Common.{◌≡◌, ℕ, ◌<◌, ◌-◌, ◌^◌, ◌/◌, ◌%◌, false, [], ◌∷◌, ap₂, ◌∙◌, arith}
use Rattle.std.specs.Fmt.{digits, digit_glyph, padded_integral, format_spec}
use Rattle.std.proofs.lemmas.Fmt.{hex_byte as printed}
use Rattle.std.proofs.lemmas.Bool.Decides.{nat_tests}
use Rattle.sr_lines.specs.Texts.{hex_digit, hex_byte}

digit : (d : ℕ) → digit_glyph false d ≡ hex_digit d
digit d = grind (arith, nat_tests)

pub hex_byte_printed : (b : ℕ) → b < 256 → padded_integral (format_spec 32 0 4 2 (2 ^ 64 - 1)) false [] (digits 16 false b) ≡ hex_byte b
hex_byte_printed b small = printed false b small ∙ ap₂ (λ high low. high ∷ low ∷ []) (digit (b / 16)) (digit (b % 16))
