-- The tables of the CREATE lines are those of the script that is read.
use Rattle.std.proofs.Common.{◌≡◌, ℕ, ◌+◌, List, [], ◌∷◌, ◌++◌, refl, sym, ap, subst, ◌∙◌}
use Rattle.sr_cell.specs.declared.table.Table.{Table}
use Rattle.std.specs.Prelude.{Result, Ok, Err}
use Rattle.sr_lines.specs.Events.{ScriptEvent}
use Rattle.sr_lines.specs.Script.{Line, Silent, CreateLine, EventLine, line_of, Creating, Running, Phase, start_phase, LineDoes, Reads}
use Rattle.sr_lines.specs.Creates.{CreatesFrom, Creates}
use Rattle.sr_reader.proofs.OneDoing.{one_create}

-- ---- behind the CREATE lines the tables stay

running : Running ≡ Creating → ⊥
running e = cc

same_tables : (phase next : Phase) → next ≡ phase → next.tables ≡ phase.tables
same_tables phase next same = ap (λ (p : Phase). p.tables) same

same_stage : (phase next : Phase) → next ≡ phase → next.stage ≡ phase.stage
same_stage phase next same = ap (λ (p : Phase). p.stage) same

-- a phase among the events is not among the CREATE lines, and has the tables of the phase before
event_keeps : (phase next : Phase) → next ≡ record phase { stage = Running } → (next.tables ≡ phase.tables) × (next.stage ≡ Creating → ⊥)
event_keeps phase next same =
    (same_tables (record phase { stage = Running }) next same, λ creating. running (sym (same_stage (record phase { stage = Running }) next same) ∙ creating))

line_keeps : (phase : Phase) (n : ℕ) (line : Result Line ℕ) (events : List (ℕ × ScriptEvent)) (next : Phase) → LineDoes phase n line events next → (phase.stage ≡ Creating → ⊥)
    → (next.tables ≡ phase.tables) × (next.stage ≡ Creating → ⊥)
line_keeps phase n (Ok Silent) events next does behind = (same_tables phase next does.1, λ creating. behind (sym (same_stage phase next does.1) ∙ creating))
line_keeps phase n (Ok (CreateLine sql)) events next does behind = absurd (behind does.2)
line_keeps phase n (Ok (EventLine words)) events next does behind = event_keeps phase next does.3
line_keeps phase n (Err place) events next does behind = absurd does

lines_keep : (clients i : ℕ) (phase : Phase) (lines : List (List ℕ)) (events : List (ℕ × ScriptEvent)) (end : Phase) → Reads clients i phase lines events end → (phase.stage ≡ Creating → ⊥) → end.tables ≡ phase.tables
lines_keep clients i phase [] events end reads behind = same_tables phase end reads.1
lines_keep clients i phase (line ∷ lines) events end reads behind =
    let here = line_keeps phase i (line_of clients line) reads.0 reads.2 reads.3 behind in
    lines_keep clients (i + 1) reads.2 lines reads.1 end reads.4 here.1 ∙ here.0

-- ---- among the CREATE lines

created_from : (clients i : ℕ) (phase : Phase) (lines : List (List ℕ)) (events : List (ℕ × ScriptEvent)) (end : Phase) (schema : List Table) → Reads clients i phase lines events end → phase.stage ≡ Creating → Creates clients phase.tables lines schema
    → schema ≡ end.tables
created_from clients i phase [] events end schema reads creating creates = creates ∙ sym (same_tables phase end reads.1)
created_from clients i phase (line ∷ lines) events end schema reads creating creates =
    by (line_of clients line) reads.3 creates (created_from clients (i + 1) reads.2 lines reads.1 end schema reads.4) (lines_keep clients (i + 1) reads.2 lines reads.1 end reads.4)
  where
    by : (l : Result Line ℕ) → LineDoes phase i l reads.0 reads.2 → CreatesFrom phase.tables (λ known. Creates clients known lines schema) schema l
        → (reads.2.stage ≡ Creating → Creates clients reads.2.tables lines schema → schema ≡ end.tables) → ((reads.2.stage ≡ Creating → ⊥) → end.tables ≡ reads.2.tables) → schema ≡ end.tables
    by (Ok Silent) does creates more behind = more (same_stage phase reads.2 does.1 ∙ creating) (subst (λ known. Creates clients known lines schema) (sym (same_tables phase reads.2 does.1)) creates)
    by (Ok (CreateLine sql)) does creates more behind =
        let one : creates.0 ≡ does.0 = one_create sql creates.0 does.0 creates.1.0 does.1.0 in
        let next : Phase = record phase { tables = phase.tables ++ does.0 ∷ [] } in
        let known : phase.tables ++ creates.0 ∷ [] ≡ reads.2.tables = ap (λ t. phase.tables ++ t ∷ []) one ∙ sym (same_tables next reads.2 does.4) in
        more (same_stage next reads.2 does.4 ∙ creating) (subst (λ known. Creates clients known lines schema) known creates.2)
    by (Ok (EventLine words)) does creates more behind = let keeps = event_keeps phase reads.2 does.3 in creates ∙ sym (behind keeps.1 ∙ keeps.0)
    by (Err place) does creates more behind = absurd does

-- the lines that are read end with the tables of the CREATE lines in front
pub created-tables : (clients : ℕ) (lines : List (List ℕ)) (events : List (ℕ × ScriptEvent)) (end : Phase) (schema : List Table) → Reads clients 1 start_phase lines events end → Creates clients [] lines schema → schema ≡ end.tables
created-tables clients lines events end schema reads creates = created_from clients 1 start_phase lines events end schema reads refl creates

-- ---- there is one such list of tables

one_from : (clients : ℕ) (tables : List Table) (lines : List (List ℕ)) (one other : List Table) → Creates clients tables lines one → Creates clients tables lines other → one ≡ other
one_from clients tables [] one other a b = a ∙ sym b
one_from clients tables (line ∷ lines) one other a b = by (line_of clients line) a b (λ known. one_from clients known lines one other)
  where
    by : (l : Result Line ℕ) → CreatesFrom tables (λ known. Creates clients known lines one) one l → CreatesFrom tables (λ known. Creates clients known lines other) other l
        → ((known : List Table) → Creates clients known lines one → Creates clients known lines other → one ≡ other) → one ≡ other
    by (Ok Silent) a b more = more tables a b
    by (Ok (CreateLine sql)) a b more =
        let same : b.0 ≡ a.0 = one_create sql b.0 a.0 b.1.0 a.1.0 in
        more (tables ++ a.0 ∷ []) a.2 (subst (λ t. Creates clients (tables ++ t ∷ []) lines other) same b.2)
    by (Ok (EventLine words)) a b more = a ∙ sym b
    by (Err place) a b more = a ∙ sym b

pub creates-once : (clients : ℕ) (lines : List (List ℕ)) (one other : List Table) → Creates clients [] lines one → Creates clients [] lines other → one ≡ other
creates-once clients lines one other a b = one_from clients [] lines one other a b
