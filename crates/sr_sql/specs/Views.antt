-- What a reader owes to the reader of the grammar.
use Rattle.std.specs.Prelude.{◌≡◌, ℕ, List, [], ◌∷◌, Option, Some, None, Result, Ok, Err, true, false}
use Rattle.sr_grammar.specs.Tokens.{Tok}
use Rattle.sr_grammar_laws.specs.Reading.{Got, Fails, Reader}
use Rattle.sr_sql.specs.declared.stop.Stop.{Stop}
use Rattle.sr_sql.specs.declared.stop.Stop.TheVariants as stop

-- What a call returned, seen by view, and what it left, is what reading gives; or memory ran out.
abbrev pub Reads : {X Y : Type 0} → (X → Y) → Reader Y → List Tok → Result X Stop → List Tok → Type 0
Reads view reader old (Ok x) new = reader old ≡ Got (view x) new
Reads view reader old (Err stop.Grammar) new = reader old ≡ Fails false new
Reads view reader old (Err stop.Deep) new = reader old ≡ Fails true new
Reads view reader old (Err stop.Memory) new = Unit {0}

-- where the next token begins
abbrev pub next_place : List Tok → Option ℕ
next_place [] = None
next_place (t ∷ ts) = Some t.from
