-- What a text says: a statement, or its first fault.
use Rattle.std.specs.Prelude.{◌≡◌, ℕ, List, [], ◌∷◌, ◌++◌, ◌⊎◌, ◌<◌, ◌≤◌, length, Result, Err}
use Rattle.sr_cell.specs.declared.fault.Fault.{Fault}
use Rattle.sr_cell.specs.declared.fault.Why.{Why}
use Rattle.sr_cell.specs.declared.fault.Why.TheVariants.{LongText, BadToken, Grammar, Deep}
use Rattle.sr_grammar.specs.Tokens.{Bad, Tok, tokens_of}
use Rattle.sr_grammar.specs.Trees.{Statement, Tree, statement_of}
use Rattle.sr_grammar.specs.Statements.{IsStatement}

-- so many NOT and parentheses of a condition may stand one inside the other
abbrev pub most_levels : ℕ
most_levels = 64

-- tokens that some more tokens make a statement of
abbrev pub Begins : ℕ → List Tok → Type 0
Begins levels ts = (tree : Tree) × (more : List Tok) × IsStatement levels tree (ts ++ more)

-- the next token is none of the language
abbrev pub StopsBad : List Tok → Type 0
StopsBad [] = ⊥
StopsBad (t ∷ ts) = t.kind ≡ Bad

-- no statement, however deep, has the next token after these; or the text ends, and they are no statement
abbrev pub StopsGrammar : List Tok → List Tok → Type 0
StopsGrammar front [] = (tree : Tree) → IsStatement most_levels tree front → ⊥
StopsGrammar front (t ∷ ts) = (t.kind ≡ Bad → ⊥) × ((levels : ℕ) → Begins levels (front ++ t ∷ []) → ⊥)

-- deeper statements have the next token after these, but none of so many levels
abbrev pub StopsDeep : List Tok → List Tok → Type 0
StopsDeep front [] = ⊥
StopsDeep front (t ∷ ts) = ((levels : ℕ) × Begins levels (front ++ t ∷ [])) × (Begins most_levels (front ++ t ∷ []) → ⊥)

-- the first tokens begin a statement, and do not go on with the rest for this reason
abbrev pub Stops : Why → List Tok → List Tok → Type 0
Stops why front rest =
    ((why ≡ BadToken) × StopsBad rest) ⊎ ((why ≡ Grammar) × StopsGrammar front rest) ⊎ ((why ≡ Deep) × StopsDeep front rest)

-- where the rest of a text begins
abbrev pub place_in : List ℕ → List Tok → ℕ
place_in text [] = length text
place_in text (t ∷ ts) = t.from

-- the fault of a text that is outside the grammar
abbrev pub IsOutside : List ℕ → Fault → Type 0
IsOutside text fault =
    (front : List Tok) × (rest : List Tok) × (tokens_of text ≡ front ++ rest) × Begins most_levels front × Stops fault.why front rest
    × (fault.at ≡ place_in text rest)

-- what a text of at most 65,536 bytes says
abbrev pub SaysShort : List ℕ → Result Statement Fault → Type 0
SaysShort text says =
    ((tree : Tree) × IsStatement most_levels tree (tokens_of text) × (says ≡ statement_of tree)) ⊎ ((fault : Fault) × IsOutside text fault × (says ≡ Err fault))

-- what a text says: too much, or as above
abbrev pub Says : List ℕ → Result Statement Fault → Type 0
Says text says =
    ((65536 < length text) × (says ≡ Err (record { why = LongText; at = 65536 }))) ⊎ ((length text ≤ 65536) × SaysShort text says)
