use Rattle.std.proofs.Common.{◌≡◌, ℕ, ◌<◌, ◌^◌, List, [], length, Err, None, Some, refl, sym, ap, subst, ◌∙◌}
use Rattle.std.proofs.lemmas.Result.{IfOk-weaker}
use Rattle.sr_cell.specs.declared.fault.Fault.{Fault}
use Rattle.sr_cell.specs.declared.list.No.TheVariants.{Refused}
use Rattle.sr_generate.specs.Script.{script}
use Rattle.sr_generate.proofs.Accepted.{accepted-script}
use Rattle.sr_generate.proofs.Inside.{inside-script}
use Rattle.sr_lines.specs.Lines.{lines_of}
use Rattle.sr_lines.specs.Script.{FirstRefused, LinePlace}
use Rattle.sr_world.specs.Replay.{outside}
use Rattle.sr_world.specs.declared.replay.RunFault.{RunFault}
use Rattle.sr_world.specs.declared.replay.RunFault.TheVariants as fault
use Rattle.sr_summary.specs.Summary.{Traces, counts_of, summary_text}
use Rattle.sr_summary.specs.declared.summary.Counts.{Counts}
use Rattle.sr_summary.proofs.Sizes.{short_script}
use Rattle.sr_summary.proofs.summary.summary_of.Goals as goal

no-place : (at : LinePlace) → Some at ≡ None → ⊥
no-place at is = cc

-- a script that is made is refused for no reason
never-refused : (text : List ℕ) (seed events : ℕ) (why : RunFault) → text ≡ script seed events → ¬ (why ≡ fault.WriteFault)
    → ((line place : ℕ) → why ≡ fault.Line line place → outside 1 text ≡ Some (record { line = line; place = place }))
    → ((line : ℕ) (cause : Fault) → why ≡ fault.Setup line cause → FirstRefused 1 1 [] (lines_of text) line cause)
    → ((table : List ℕ) (cause : Fault) → ¬ (why ≡ fault.Load table cause)) → ⊥
never-refused text seed events fault.WriteFault is write line setup load = write refl
never-refused text seed events (fault.Line at place) is write line setup load =
    no-place (record { line = at; place = place }) (sym (line at place refl) ∙ ap (outside 1) is ∙ inside-script seed events)
never-refused text seed events (fault.Setup at cause) is write line setup load =
    accepted-script seed events at cause (subst (λ (s : List ℕ). FirstRefused 1 1 [] (lines_of s) at cause) is (setup at cause refl))
never-refused text seed events (fault.Load table cause) is write line setup load = load table cause refl

pub replay_all-requires : goal.replay_all-requires
replay_all-requires c =
    subst (λ (s : List ℕ). length s < 2 ^ 32) (sym (c.as_slice.ensures ∙ c.in_ok-script.ensures)) (short_script c.args.seed c.args.events c.requires.events)

pub unreachable-requires : goal.unreachable-requires
unreachable-requires c =
    let is = c.in-Err-Refused.is in
    let why = c.in-Err-Refused.field-0-is in
    never-refused _ c.args.seed c.args.events c.in-Err-Refused.field-0-0 (c.as_slice.ensures ∙ c.in_ok-script.ensures)
    (λ e. c.replay_all.ensures.never_faults (is ∙ ap Err (why ∙ ap Refused e)))
    (λ line place e. c.replay_all.ensures.line line place (is ∙ ap Err (why ∙ ap Refused e)))
    (λ line cause e. c.replay_all.ensures.setup line cause (is ∙ ap Err (why ∙ ap Refused e)))
    (λ table cause e. c.replay_all.ensures.never_loads table cause (is ∙ ap Err (why ∙ ap Refused e)))

pub returns-in-Ok : goal.returns-in-Ok
returns-in-Ok c =
    let trace = c.in-Ok.replayed.trace in
    let version = c.in-Ok.replayed.version in
    let counts : c.counts_of-counts.result ≡ counts_of c.in-Ok.replayed.trace = c.counts_of-counts.ensures ∙ ap counts_of c.as_slice-in-Ok.ensures in
    let traces = subst (λ (s : List ℕ). Traces s c.in-Ok.replayed.trace c.in-Ok.replayed.version) (c.as_slice.ensures ∙ c.in_ok-script.ensures) c.in-Ok.ensures.traced in
    IfOk-weaker c.text_of.result _ _ (λ text is. (trace, version, traces, is ∙ ap (λ (k : Counts). summary_text k c.in-Ok.replayed.version) counts)) c.text_of.ensures
