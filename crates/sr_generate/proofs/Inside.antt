-- No line of the script is outside the grammar.
use Rattle.std.proofs.Common.{◌≡◌, ℕ, zero, suc, ◌+◌, List, [], ◌∷◌, ◌++◌, None, Option, Result, Ok, refl, ap, ◌∙◌, append_assoc}
use Rattle.std.specs.Prelude.{codes}
use Rattle.sr_token.specs.Tokens.{tokens_from}
use Rattle.sr_lines.specs.Lines.{lines_of}
use Rattle.sr_lines.specs.Script.{Words, CreateLine, Creating, EventLine, Line, LinePlace, Running, Stage, first_outside, line_of, outside_from}
use Rattle.sr_generate.specs.Script.{create_line, line_at, lines_from, script}
use Rattle.sr_generate.proofs.PlainTexts.{first-line, utf8-plain}
use Rattle.sr_generate.proofs.EventLines.{IsEvent, event-at}

-- what an event's line is in a script
pub line-split : (line rest : List ℕ) → (e : IsEvent line) → lines_of (line ++ rest) ≡ e.front ∷ lines_of rest
line-split line rest e =
    ap (λ (l : List ℕ). lines_of (l ++ rest)) e.is ∙ ap lines_of (append_assoc e.front (10 ∷ []) rest) ∙ first-line e.front rest e.plain

goes-on : (i : ℕ) (later : Stage → Option LinePlace) (stage : Stage) (words : Words) → outside_from i later stage (Ok (EventLine words)) ≡ later Running
goes-on i later Creating words = refl
goes-on i later Running words = refl

inside-lines : (lines number state i : ℕ) (stage : Stage) → first_outside 1 i stage (lines_of (lines_from lines number state)) ≡ None
unfolding lines_from
inside-lines zero number state i stage = refl
inside-lines (suc lines) number state i stage =
    let e = event-at number state in
    let rest = lines_from lines (number + 1) (line_at number state).state in
    let later : Stage → Option LinePlace = λ next. first_outside 1 (i + 1) next (lines_of rest) in
    ap (λ (ls : List (List ℕ)). first_outside 1 i stage ls) (line-split (line_at number state).line rest e)
    ∙ ap (λ (r : Result Line ℕ). outside_from i later stage r) e.read
    ∙ goes-on i later stage e.words
    ∙ inside-lines lines (number + 1) (line_at number state).state (i + 1) Running

-- the CREATE line, without its line feed
abbrev pub create_text : List ℕ
create_text = codes "CREATE TABLE t (k INT PRIMARY KEY CHECK (k BETWEEN 0 AND 999), a INT CHECK (a BETWEEN 0 AND 999), b INT CHECK (b BETWEEN 0 AND 99))"

pub create-split : (rest : List ℕ) → lines_of (create_line ++ rest) ≡ create_text ∷ lines_of rest
create-split rest = first-line create_text rest refl

pub create-read : line_of 1 create_text ≡ Ok (CreateLine create_text)
unfolding tokens_from
create-read = let text = utf8-plain create_text refl in rw text refl

pub inside-script : (seed events : ℕ) → first_outside 1 1 Creating (lines_of (script seed events)) ≡ None
inside-script seed events =
    let rest = lines_from (200 + events) 0 seed in
    let later : Stage → Option LinePlace = λ next. first_outside 1 2 next (lines_of rest) in
    ap (λ (ls : List (List ℕ)). first_outside 1 1 Creating ls) (create-split rest)
    ∙ ap (λ (r : Result Line ℕ). outside_from 1 later Creating r) create-read
    ∙ inside-lines (200 + events) 0 seed 2 Creating
