-- Which entry of an ask is of which part: parts of different tables.
use Rattle.std.proofs.Common.{◌≡◌, ℕ, true, false, List, [], ◌∷◌, map, refl, sym, ◌∙◌, ap, subst, arith, Option, Some, None}
use Rattle.std.specs.Prelude.{◌==◌, if◌then◌else◌}
use Rattle.std.specs.List.{All}
use Rattle.std.proofs.lemmas.Bool.Decides.{nat_tests}
use Rattle.std.proofs.lemmas.List.Elements.{All-nil, All-cons, All-head, All-tail}
use Rattle.std.proofs.lemmas.Bool.{or_parts}
use Rattle.sr_cell.specs.declared.table.Table.{Table}
use Rattle.sr_cell.specs.Columns.{table_at}
use Rattle.sr_box.specs.Points.{HasNoPoint}
use Rattle.sr_message.specs.declared.message.AskPart.{AskPart}
use Rattle.sr_model.specs.Queries.{Part}
use Rattle.sr_query.specs.Joined.{are_different}
use Rattle.sr_history.specs.declared.mark.Mark.{Mark}
use Rattle.sr_history.specs.Rests.{rest_of, IsRest, Asks, nothing, covered, asked}
use Rattle.sr_client.specs.Explaining.{entry_for}
use Rattle.sr_client.proofs.PartsLemmas.{apart-numbers, first-differs, is_named, numbers-apart, rest-differs}

-- the entry asks what is left of the part; without one nothing is left of it
abbrev pub IsFound : List Table → List Mark → Part → Option AskPart → Type 0
IsFound schema marks m None = HasNoPoint (table_at schema m.table).columns (rest_of marks m)
IsFound schema marks m (Some ask) = IsRest schema marks m ask

-- nothing is asked of other tables
none-asked : (schema : List Table) (marks : List Mark) (t : ℕ) (parts : List Part) (asks : List AskPart) → Asks schema marks parts asks → is_named t parts ≡ false → entry_for t asks ≡ None
none-asked schema marks t parts asks nothing other = refl
none-asked schema marks t parts asks (covered part others more free rest) other = none-asked schema marks t others more rest (or_parts (part.table == t) (is_named t others) other).1
none-asked schema marks t parts asks (asked part others ask more is rest) other =
    let test : (ask.table == t) ≡ false = ap (λ n. n == t) is.table ∙ (or_parts (part.table == t) (is_named t others) other).0 in
    subst (λ b. (if b then Some ask else entry_for t more) ≡ None) (sym test) (none-asked schema marks t others more rest (or_parts (part.table == t) (is_named t others) other).1)

-- an entry of another table in front
found-behind : (schema : List Table) (marks : List Mark) (ask : AskPart) (n : ℕ) (more : List AskPart) (parts : List Part) → ask.table ≡ n → is_named n parts ≡ false
    → All (λ m. IsFound schema marks m (entry_for m.table more)) parts → All (λ m. IsFound schema marks m (entry_for m.table (ask ∷ more))) parts
found-behind schema marks ask n more [] is other all = All-nil (λ m. IsFound schema marks m (entry_for m.table (ask ∷ more)))
found-behind schema marks ask n more (p ∷ parts) is other all =
    let own : (p.table == n) ≡ false = (or_parts (p.table == n) (is_named n parts) other).0 in
    let test : (ask.table == p.table) ≡ false = numbers-apart ask.table p.table (λ same. apart-numbers p.table n own (sym same ∙ is)) in
    All-cons (λ m. IsFound schema marks m (entry_for m.table (ask ∷ more))) p parts
    (subst (λ b. IsFound schema marks p (if b then Some ask else entry_for p.table more)) (sym test) (All-head (λ m. IsFound schema marks m (entry_for m.table more)) p parts all))
    (found-behind schema marks ask n more parts is (or_parts (p.table == n) (is_named n parts) other).1 (All-tail (λ m. IsFound schema marks m (entry_for m.table more)) p parts all))

-- the entry of each part is the one of its table
pub all-found : (schema : List Table) (marks : List Mark) (parts : List Part) (asks : List AskPart) → Asks schema marks parts asks → are_different (map (λ (m : Part). m.table) parts) ≡ true
    → All (λ m. IsFound schema marks m (entry_for m.table asks)) parts
all-found schema marks parts asks nothing differ = All-nil (λ m. IsFound schema marks m (entry_for m.table []))
all-found schema marks parts asks (covered part others more free rest) differ =
    All-cons (λ m. IsFound schema marks m (entry_for m.table more)) part others
    (subst (IsFound schema marks part) (sym (none-asked schema marks part.table others more rest (first-differs part others differ))) free)
    (all-found schema marks others more rest (rest-differs part others differ))
all-found schema marks parts asks (asked part others ask more is rest) differ =
    let table = is.table in
    let test : (ask.table == part.table) ≡ true = grind (arith, nat_tests, table) in
    All-cons (λ m. IsFound schema marks m (entry_for m.table (ask ∷ more))) part others (subst (λ b. IsFound schema marks part (if b then Some ask else entry_for part.table more)) (sym test) is)
    (found-behind schema marks ask part.table more others is.table (first-differs part others differ) (all-found schema marks others more rest (rest-differs part others differ)))
