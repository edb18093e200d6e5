-- The token at one place, as the code has it.
use Rattle.std.specs.Prelude.{◌≡◌, ℕ, ◌-◌, ◌<◌, ◌≤◌, List, length, drop, Option, Some, None}
use Rattle.sr_token.specs.declared.token.Token.{Token}
use Rattle.sr_token.specs.Tokens.{first_token}
use Rattle.sr_token.specs.Spans.{slice}

abbrev pub IsTokenAt : List ℕ → ℕ → Option Token → Type 0
IsTokenAt source from None = first_token (drop from source) ≡ None
IsTokenAt source from (Some t) =
    (first_token (drop from source) ≡ Some (t.kind, t.to - from)) × (t.from ≡ from) × (t.text.now ≡ slice source from t.to) × (from < t.to)
    × (t.to ≤ length source)
