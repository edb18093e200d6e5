-- A line does one thing only, so what is read is not refused.
use Rattle.std.proofs.Common.{◌≡◌, ℕ, ◌+◌, true, List, [], ◌∷◌, ◌++◌, inl, inr, sym, ap, subst, ◌∙◌}
use Rattle.std.specs.Prelude.{None, Result, Ok, Err}
use Rattle.sr_cell.specs.declared.table.Table.{Table}
use Rattle.sr_cell.specs.declared.fault.Fault.{Fault}
use Rattle.sr_cell.specs.Faults.{fault_with}
use Rattle.sr_grammar.specs.Trees.{Statement, Create}
use Rattle.sr_grammar.specs.Says.{Says}
use Rattle.sr_grammar_laws.proofs.OneSaying.{each_says_one}
use Rattle.sr_lines.specs.Events.{ScriptEvent}
use Rattle.sr_lines.specs.Script.{Line, Silent, CreateLine, EventLine, line_of, RefusedFrom, FirstRefused, Phase, start_phase, LineDoes, Reads}

-- ---- a text means one thing

pub one_statement : (sql : List ℕ) (r s : Statement) → Says sql (Ok r) → Says sql (Ok s) → r ≡ s
one_statement sql r s a b = let e = each_says_one sql (Ok r) (Ok s) a b in cc

pub one_create : (sql : List ℕ) (t u : Table) → Says sql (Ok (Create t)) → Says sql (Ok (Create u)) → t ≡ u
one_create sql t u a b = let e = one_statement sql (Create t) (Create u) a b in cc

pub no_fault : (sql : List ℕ) (s : Statement) (fault : Fault) → Says sql (Ok s) → Says sql (Err fault) → ⊥
no_fault sql s fault a b = let e = each_says_one sql (Ok s) (Err fault) a b in cc

-- ---- a script that is read has no CREATE line that is refused

accepts_from : (clients i : ℕ) (phase : Phase) (lines : List (List ℕ)) (events : List (ℕ × ScriptEvent)) (end : Phase) (n : ℕ) (fault : Fault)
    → Reads clients i phase lines events end → FirstRefused clients i phase.tables lines n fault → ⊥
accepts_from clients i phase [] events end n fault reads first = first
accepts_from clients i phase (line ∷ lines) events end n fault reads first =
    by (line_of clients line) reads.3 first
    (λ known same refused. accepts_from clients (i + 1) reads.2 lines reads.1 end n fault reads.4 (subst (λ z. FirstRefused clients (i + 1) z lines n fault) (sym same) refused))
  where
    by : (l : Result Line ℕ) → LineDoes phase i l reads.0 reads.2 → RefusedFrom i phase.tables (λ known. FirstRefused clients (i + 1) known lines n fault) l n fault
        → ((known : List Table) → reads.2.tables ≡ known → FirstRefused clients (i + 1) known lines n fault → ⊥) → ⊥
    by (Ok Silent) does refused others = others phase.tables (ap (λ (p : Phase). p.tables) does.1) refused
    by (Ok (CreateLine sql)) does (inl here) others = elim here.1 [
      | inl says ↦ no_fault sql (Create does.0) fault does.1.0 says
      | inr bad ↦ (let same = one_create sql does.0 bad.0 does.1.0 bad.1 in
          let none : fault_with true phase.tables bad.0 ≡ None = subst (λ t. fault_with true phase.tables t ≡ None) same does.1.1 in
          let some = bad.2 in
          cc)
    ]
    by (Ok (CreateLine sql)) does (inr later) others =
        let same = one_create sql does.0 later.0 does.1.0 later.1.0 in
        others (phase.tables ++ later.0 ∷ []) (ap (λ (p : Phase). p.tables) does.4 ∙ ap (λ t. phase.tables ++ t ∷ []) same) later.2
    by (Ok (EventLine words)) does refused others = refused
    by (Err place) does refused others = refused

pub accepts : (clients i : ℕ) (lines : List (List ℕ)) (events : List (ℕ × ScriptEvent)) (end : Phase) (n : ℕ) (fault : Fault) → Reads clients i start_phase lines events end → FirstRefused clients i [] lines n fault → ⊥
accepts clients i lines events end n fault reads first = accepts_from clients i start_phase lines events end n fault reads first
