-- What the status of a run of `client` says of the files that are held.
use Rattle.std.proofs.Common.{◌≡◌, ℕ, ◌⊎◌, true, false, List, Option, Some, None, inl, inr, arith, sym, subst}
use Rattle.sr_cell.specs.declared.fault.Fault.{Fault}
use Rattle.sr_cell.specs.declared.table.Table.{Table}
use Rattle.sr_dial.specs.declared.ending.Ending.{Ending}
use Rattle.sr_io.specs.Told.{Linking, Writing}
use Rattle.sr_lines.specs.Script.{LinePlace}
use Rattle.sr_calls.proofs.RunLemmas.{ended_in_part}
use Rattle.sr_dial.specs.Calls.{Do}
use Rattle.sr_dial.specs.Following.{Ahead}
use Rattle.sr_dial.specs.Runs.{is_unwritten}
use Rattle.sr_links.specs.Steps.{Resumed}
use Rattle.sr_plan.specs.Plans.{Next}
use Rattle.sr_setup.specs.ClientFiles.{script_outside, Refuses as RefusesCreate}
use Rattle.sr_words.specs.declared.command.ClientKind.{ClientKind}
use Rattle.sr_words.specs.declared.command.ClientKind.TheVariants as kind
use Rattle.sr_words.specs.declared.command.ClientWords.{ClientWords}
use Rattle.sr_cli.specs.Files.{SomeTooLong}
use Rattle.sr_cli.specs.Client.{AreFiles, AreHeld, AreLong, DidRun, Dialled, DialledInPart, Ends, FitsFiles, IsEnd, files_of}
use Rattle.sr_cli.specs.Kinds.{AsksFor, fault_by, keeps_of, line_fault}
use Rattle.sr_cli.proofs.SameFiles.{same_bytes, too_long_held}

-- ---- a run that ended

-- where each line was written, what it sent and wrote begins what the rules give
pub dialled_in_part : {Z : Type 0} (held : List ℕ → Option (List ℕ)) (words : ClientWords) (ending : Ending) (old new : Linking) (before after : Writing) → is_unwritten ending ≡ false → Dialled Z held words ending old new before after
    → DialledInPart held words old new before after
dialled_in_part {Z} held words ending old new before after each d = record {
  schema = d.schema;
  script = d.script;
  files = d.files;
  ends = record {
    tables = d.ends.tables;
    ahead = d.ends.ahead;
    asks = d.ends.asks;
    ran = ended_in_part words.id words.address d.ends.tables words.limits (keeps_of words.kind) true (Next 0 (Do Resumed) d.ends.ahead) ending old new before after each d.ends.ran.run;
  };
}

-- ---- what was read of files that are held is what is held

-- files that were read, and what is so of them
pub record Named (held : List ℕ → Option (List ℕ)) (words : ClientWords) (P : List ℕ → List ℕ → Type 0) : Type 0 where
  pub schema : List ℕ
  pub script : List ℕ
  pub files : AreFiles held words schema script
  pub holds : P schema script

named_held : (P : List ℕ → List ℕ → Type 0) (held : List ℕ → Option (List ℕ)) (words : ClientWords) (schema script : List ℕ) → AreHeld held words schema script → Named held words P → P schema script
named_held P held words schema script are n =
    let first : n.schema ≡ schema = same_bytes (held words.schema) schema n.schema are.schema_held n.files.schema_read in
    let second : n.script ≡ script = same_bytes (held words.script) script n.script are.script_held n.files.script_read in
    subst (P schema) second (subst (λ (s : List ℕ). P s n.script) first n.holds)

not_long : (held : List ℕ → Option (List ℕ)) (words : ClientWords) (schema script : List ℕ) → AreFiles held words schema script → ¬ AreLong schema script
not_long held words schema script files (inl long) = let w = files.schema_read.within_limit in omega (arith, long, w)
not_long held words schema script files (inr long) = let w = files.script_read.within_limit in omega (arith, long, w)

named_short : (P : List ℕ → List ℕ → Type 0) (held : List ℕ → Option (List ℕ)) (words : ClientWords) (schema script : List ℕ) → AreHeld held words schema script → Named held words P → ¬ AreLong schema script
named_short P held words schema script are n =
    named_held (λ s t. ¬ AreLong s t) held words schema script are (record { schema = n.schema; script = n.script; files = n.files; holds = not_long held words n.schema n.script n.files })

long_held : (held : List ℕ → Option (List ℕ)) (left : Option (List ℕ)) (words : ClientWords) (schema script : List ℕ) → AreHeld held words schema script → SomeTooLong held left (files_of words) → AreLong schema script
long_held held left words schema script are (inl long) = inl (too_long_held (held words.schema) left schema are.schema_held long)
long_held held left words schema script are (inr (read, what, inl long)) = inr (too_long_held (held words.script) left script are.script_held long)
long_held held left words schema script are (inr (read, what, inr (other, is, long))) = absurd long

-- ---- what a status says, where lines of the script have such faults

abbrev pub Faults : Type 0
Faults = List ℕ → Option ℕ

abbrev pub Lies : Faults → List ℕ → List ℕ → Type 0
Lies line_fault schema script = (at : LinePlace) × (script_outside line_fault schema script ≡ Some at)

abbrev pub RefusesSome : Faults → List ℕ → List ℕ → Type 0
RefusesSome line_fault schema script = (line : ℕ) × (fault : Fault) × RefusesCreate line_fault schema script line fault

-- nothing is refused
pub record Accepted (line_fault : Faults) (schema script : List ℕ) : Type 0 where
  pub inside : script_outside line_fault schema script ≡ None
  pub accepts : (line : ℕ) (fault : Fault) → ¬ RefusesCreate line_fault schema script line fault

-- of files over which a client ran
accepted_for : (kind : ClientKind) (id : ℕ) (schema script : List ℕ) (tables : List Table) (ahead : Ahead) → AsksFor kind id schema script tables ahead → Accepted (line_fault kind id) schema script
accepted_for kind.Client id schema script tables ahead asks = record { inside = asks.asked.inside; accepts = λ line fault r. asks.asked.accepts line fault r.first }
accepted_for kind.Report id schema script tables ahead asks = record { inside = asks.inside; accepts = λ line fault r. asks.accepts line fault r.first }
accepted_for kind.Semi id schema script tables ahead asks = record { inside = asks.inside; accepts = λ line fault r. asks.accepts line fault r.first }

pub accepted : {Z : Type 0} (schema script : List ℕ) (words : ClientWords) (ending : Ending) (old new : Linking) (before after : Writing) → Ends Z schema script words ending old new before after → Accepted (fault_by words) schema script
accepted {Z} schema script words ending old new before after ends = accepted_for words.kind words.id schema script ends.tables ends.ahead ends.asks

pub some_accepted : {Z : Type 0} (held : List ℕ → Option (List ℕ)) (words : ClientWords) (ending : Ending) (old new : Linking) (before after : Writing) → Dialled Z held words ending old new before after → Named held words (Accepted (fault_by words))
some_accepted {Z} held words ending old new before after d =
    record { schema = d.schema; script = d.script; files = d.files; holds = accepted d.schema d.script words ending old new before after d.ends }

-- why a run ended with a status
pub record Causes (held : List ℕ → Option (List ℕ)) (left : Option (List ℕ)) (words : ClientWords) (status : ℕ) : Type 0 where
  pub only : IsEnd status
  pub no_read_fault : ¬ (status ≡ 3)
  pub too_long : status ≡ 10 → SomeTooLong held left (files_of words)
  pub line : status ≡ 6 → Named held words (Lies (fault_by words))
  pub refused : status ≡ 7 → Named held words (RefusesSome (fault_by words))
  pub ran : DidRun status → Named held words (Accepted (fault_by words))

long_status : (status : ℕ) → IsEnd status → ¬ (status ≡ 3) → ¬ (status ≡ 6) → ¬ (status ≡ 7) → ¬ DidRun status → (status ≡ 9) ⊎ (status ≡ 10)
long_status status (inl is) no_3 no_6 no_7 never = absurd (never (inl is))
long_status status (inr (inl is)) no_3 no_6 no_7 never = absurd (no_3 is)
long_status status (inr (inr (inl is))) no_3 no_6 no_7 never = absurd (never (inr (inl is)))
long_status status (inr (inr (inr (inl is)))) no_3 no_6 no_7 never = absurd (never (inr (inr (inl is))))
long_status status (inr (inr (inr (inr (inl is))))) no_3 no_6 no_7 never = absurd (no_6 is)
long_status status (inr (inr (inr (inr (inr (inl is)))))) no_3 no_6 no_7 never = absurd (no_7 is)
long_status status (inr (inr (inr (inr (inr (inr (inl is))))))) no_3 no_6 no_7 never = absurd (never (inr (inr (inr (inl is)))))
long_status status (inr (inr (inr (inr (inr (inr (inr (inl is)))))))) no_3 no_6 no_7 never = inl is
long_status status (inr (inr (inr (inr (inr (inr (inr (inr (inl is))))))))) no_3 no_6 no_7 never = inr is
long_status status (inr (inr (inr (inr (inr (inr (inr (inr (inr is))))))))) no_3 no_6 no_7 never = absurd (never (inr (inr (inr (inr is)))))

pub fits_held : (held : List ℕ → Option (List ℕ)) (left : Option (List ℕ)) (words : ClientWords) (schema script : List ℕ) (status : ℕ) → AreHeld held words schema script → Causes held left words status → FitsFiles (fault_by words) schema script status
fits_held held left words schema script status are c =
    let accepts : DidRun status → Accepted (fault_by words) schema script = λ did. named_held (Accepted (fault_by words)) held words schema script are (c.ran did) in
    record {
      no_read_fault = c.no_read_fault;
      long = λ over. long_status status c.only c.no_read_fault
          (λ is. named_short (Lies (fault_by words)) held words schema script are (c.line is) over)
          (λ is. named_short (RefusesSome (fault_by words)) held words schema script are (c.refused is) over)
          (λ did. named_short (Accepted (fault_by words)) held words schema script are (c.ran did) over);
      too_long = λ is. long_held held left words schema script are (c.too_long is);
      line = λ is. named_held (Lies (fault_by words)) held words schema script are (c.line is);
      refused = λ is. named_held (RefusesSome (fault_by words)) held words schema script are (c.refused is);
      inside = λ did. (accepts did).inside;
      accepts = λ did. (accepts did).accepts;
    }

-- ---- a client that ran, whatever ended it

-- the statuses of that, where each line was written and the link did not fail
abbrev pub EndsByFrames : ℕ → Type 0
EndsByFrames status = (status ≡ 8) ⊎ (status ≡ 9) ⊎ (status ≡ 11)

abbrev pub EndsWritten : ℕ → Type 0
EndsWritten status = (status ≡ 0) ⊎ EndsByFrames status

pub end_written : (status : ℕ) → EndsWritten status → IsEnd status
end_written status (inl is) = inl is
end_written status (inr (inl is)) = inr (inr (inr (inr (inr (inr (inl is))))))
end_written status (inr (inr (inl is))) = inr (inr (inr (inr (inr (inr (inr (inl is)))))))
end_written status (inr (inr (inr is))) = inr (inr (inr (inr (inr (inr (inr (inr (inr is))))))))

pub causes_dialled : {Z : Type 0} (held : List ℕ → Option (List ℕ)) (left : Option (List ℕ)) (words : ClientWords) (status : ℕ) (ending : Ending) (old new : Linking) (before after : Writing) → EndsWritten status → Dialled Z held words ending old new before after
    → Causes held left words status
causes_dialled {Z} held left words status ending old new before after which d = record {
  only = end_written status which;
  no_read_fault = λ is. omega (arith, which, is);
  too_long = λ is. absurd (omega (arith, which, is));
  line = λ is. absurd (omega (arith, which, is));
  refused = λ is. absurd (omega (arith, which, is));
  ran = λ did. some_accepted held words ending old new before after d;
}
