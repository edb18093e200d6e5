-- Writing out token by token.
use Rattle.std.specs.Prelude.{◌≡◌, ℕ, ◌||◌, Bool, List, [], ◌∷◌, ◌++◌, codes, if◌then◌else◌}
use Rattle.sr_grammar.specs.Tokens.{Kind, Tok}
use Rattle.sr_grammar.specs.Printed.{token}
use Rattle.sr_grammar.specs.Spaced.{is_close, is_open, token_text}

-- what is written, and whether no blank stands before the next token
pub record Page : Type 0 where
  pub text : List ℕ
  pub tight : Bool

abbrev pub blank_before : Bool → Tok → List ℕ
blank_before tight t = if tight || is_close t then [] else codes " "

-- with one token more
abbrev pub with_token : Page → Tok → Page
with_token page t = record { text = page.text ++ (blank_before page.tight t ++ token_text t); tight = is_open t }

unfoldable pub stroke : Page → Kind → List ℕ → Page
stroke page kind text = with_token page (token kind text 0)

abbrev pub written : Page → List Tok → Page
written page [] = page
written page (t ∷ ts) = written (stroke page t.kind t.text) ts

-- these tokens are written behind what was there
abbrev pub Writes : List Tok → Page → Page → Type 0
Writes tokens old new = new ≡ written old tokens
