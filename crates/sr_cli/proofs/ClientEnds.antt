-- How runs of a client end.
use Rattle.std.proofs.Common.{◌≡◌, ◌≢◌, ℕ, ◌⊎◌, List, Option, Err, false, inl, inr, refl, sym, ap, subst, arith, ◌∙◌}
use Rattle.std.specs.Prelude.{IfSome}
use Rattle.sr_cell.specs.declared.fault.Fault.{Fault}
use Rattle.sr_dial.specs.Runs.{is_unwritten}
use Rattle.sr_dial.specs.declared.ending.Ending.{Ending}
use Rattle.sr_dial.specs.declared.ending.Ending.TheVariants.{Whole, Faulty, Unwritten, Spoiled, Bad as BadMessage, Limit as TooMany}
use Rattle.sr_io.specs.Told.{Reading, Writing, Linking, complained}
use Rattle.sr_wire.specs.declared.bad_frame.BadFrame.{BadFrame}
use Rattle.sr_wire.specs.declared.wire_fault.WireFault.{WireFault}
use Rattle.sr_words.specs.declared.command.ClientWords.{ClientWords}
use Rattle.sr_cli.specs.Client.{AreHeld, Dialled, DialledInPart, Dials, FitsFiles, IsEnd, NamedCreate, NamedFrame, NamedLine, StopsOver, Untouched, files_of}
use Rattle.sr_cli.specs.Errors.{bad_text, error_text, line_text, setup_text, spoiled_text}
use Rattle.sr_cli.specs.Files.{SomeTooLong}
use Rattle.sr_cli.specs.Kinds.{fault_by}
use Rattle.sr_cli.specs.Leaves.{Counts, Names, OnlyComplains, Reported}
use Rattle.sr_cli.specs.declared.report.Refusal.{Refusal}
use Rattle.sr_cli.specs.declared.report.Refusal.TheVariants.{Read, Write, Link, Memory, TooLong, Line, Setup, Load}
use Rattle.sr_cli.specs.declared.stop.Stop.TheVariants.{Refused}
use Rattle.sr_cli.proofs.ClientFits.{Accepted, Causes, EndsByFrames, EndsWritten, Lies, Named, RefusesSome, causes_dialled, dialled_in_part, end_written, fits_held, some_accepted}
use Rattle.sr_cli.proofs.LeavesLemmas.{HasName, InWant, NamesLine, NamesRefused, Report, named-nothing, reported-is}

module _ (H : Type 0) (held : H → List ℕ → Option (List ℕ)) (reading : H → Reading) (writing : H → Writing) (linking : H → Linking) (complaints : H → Option (List ℕ)) (IsSteady : H → Type 0) (words : ClientWords) where
  abbrev pub Ran : H → H → Ending → Type 0
  Ran old new ending = Dialled (IsSteady old) (held old) words ending (linking old) (linking new) (writing old) (writing new)

  abbrev pub Ends : H → H → ℕ → Type 0
  Ends old new status = Dials H held reading writing linking complaints IsSteady old new words status

  -- where each line was written, a status fits the files
  fits : (old new : H) (status : ℕ) (ending : Ending) → EndsWritten status → Ran old new ending → (schema script : List ℕ) → AreHeld (held old) words schema script → FitsFiles (fault_by words) schema script status
  fits old new status ending which ran schema script are =
      fits_held (held old) (reading new).left words schema script status are
      (causes_dialled (held old) (reading new).left words status ending (linking old) (linking new) (writing old) (writing new) which ran)

  -- ---- it is done

  pub dials-whole : (old new : H) → Ran old new Whole → Ends old new 0
  dials-whole old new ran = record {
    only = inl refl;
    whole = λ is. ran;
    unwritten = λ is. absurd (omega (arith, is));
    faulty = λ is. absurd (omega (arith, is));
    frame = λ is. absurd (omega (arith, is));
    limit = λ is. absurd (omega (arith, is));
    in_want = λ is. absurd (omega (arith, is));
    too_long = λ is. absurd (omega (arith, is));
    line = λ is. absurd (omega (arith, is));
    refused = λ is. absurd (omega (arith, is));
    steady = λ steady. fits old new 0 Whole (inl refl) ran;
    steady_writes = λ steady is. omega (arith, is);
  }

  -- ---- frames ended it

  module _ (old mid new : H) (silent : complaints mid ≡ complaints old) (stays : OnlyComplains H reading writing linking held IsSteady mid new) where
    -- what a complaint leaves
    moved : (P : Linking → Writing → Type 0) → P (linking mid) (writing mid) → P (linking new) (writing new)
    moved P holds = subst (λ (l : Linking). P l (writing new)) (sym stays.linking_stays) (subst (P (linking mid)) (sym stays.writing_stays) holds)

    ran-still : (ending : Ending) → Ran old mid ending → Ran old new ending
    ran-still ending = moved (λ l w. Dialled (IsSteady old) (held old) words ending (linking old) l (writing old) w)

    dials-frames : (status : ℕ) (ending : Ending) → is_unwritten ending ≡ false → EndsByFrames status → Ran old new ending
        → (status ≡ 8 → NamedFrame (IsSteady old) (held old) words (linking old) (linking new) (writing old) (writing new) (complaints old) (complaints new)) → (status ≡ 11 → ending ≡ TooMany) → Ends old new status
    dials-frames status ending each which ran frame limit = record {
      only = end_written status (inr which);
      whole = λ is. absurd (omega (arith, which, is));
      unwritten = λ is. absurd (omega (arith, which, is));
      faulty = λ is. absurd (omega (arith, which, is));
      frame = frame;
      limit = λ is. subst (Ran old new) (limit is) ran;
      in_want = λ is. inr (dialled_in_part (held old) words ending (linking old) (linking new) (writing old) (writing new) each ran);
      too_long = λ is. absurd (omega (arith, which, is));
      line = λ is. absurd (omega (arith, which, is));
      refused = λ is. absurd (omega (arith, which, is));
      steady = λ steady. fits old new status ending (inr which) ran;
      steady_writes = λ steady is. omega (arith, which, is);
    }

    said-behind : (text : List ℕ) → complaints new ≡ complained text (complaints mid) → complaints new ≡ complained text (complaints old)
    said-behind text said = said ∙ ap (complained text) silent

    pub dials-spoiled : (status : ℕ) (fault : WireFault) → Names 8 (spoiled_text fault) status (complaints mid) (complaints new) → Ran old mid (Spoiled fault) → Ends old new status
    dials-spoiled status fault (inl (is, said)) ran =
        dials-frames status (Spoiled fault) refl (inl is) (ran-still (Spoiled fault) ran)
        (λ e. inl (record { fault = fault; dialled = ran-still (Spoiled fault) ran; said = said-behind (spoiled_text fault) said })) (λ e. absurd (omega (arith, is, e)))
    dials-spoiled status fault (inr (is, said)) ran =
        dials-frames status (Spoiled fault) refl (inr (inl is)) (ran-still (Spoiled fault) ran) (λ e. absurd (omega (arith, is, e))) (λ e. absurd (omega (arith, is, e)))

    pub dials-bad : (status : ℕ) (why : BadFrame) → status ≡ 8 → complaints new ≡ complained (bad_text why) (complaints mid) → Ran old mid (BadMessage why) → Ends old new status
    dials-bad status why is said ran =
        dials-frames status (BadMessage why) refl (inl is) (ran-still (BadMessage why) ran)
        (λ e. inr (record { why = why; dialled = ran-still (BadMessage why) ran; said = said-behind (bad_text why) said })) (λ e. absurd (omega (arith, is, e)))

    pub dials-limit : (status : ℕ) → status ≡ 11 → Ran old mid TooMany → Ends old new status
    dials-limit status is ran = dials-frames status TooMany refl (inr (inr is)) (ran-still TooMany ran) (λ e. absurd (omega (arith, is, e))) (λ e. refl)

    -- ---- it was refused, or something failed

    module _ (refusal : Refusal) (status : ℕ) (reported : Reported refusal status (complaints mid) (complaints new)) (counts : Counts H reading writing linking old mid (Err refusal))
        (why : StopsOver (IsSteady old) (held old) words (reading mid).left (linking old) (linking mid) (writing old) (writing mid) (Refused refusal)) where
      rep : Report refusal status (complaints mid) (complaints new)
      rep = reported-is refusal status (complaints mid) (complaints new) reported

      being : (r : Refusal) → refusal ≡ r → StopsOver (IsSteady old) (held old) words (reading mid).left (linking old) (linking mid) (writing old) (writing mid) (Refused r)
      being r is = subst (λ r. StopsOver (IsSteady old) (held old) words (reading mid).left (linking old) (linking mid) (writing old) (writing mid) (Refused r)) is why

      is-end : (status ≡ 3) ⊎ (status ≡ 4) ⊎ (status ≡ 5) ⊎ (status ≡ 6) ⊎ (status ≡ 7) ⊎ (status ≡ 9) ⊎ (status ≡ 10) → IsEnd status
      is-end (inl is) = inr (inl is)
      is-end (inr (inl is)) = inr (inr (inl is))
      is-end (inr (inr (inl is))) = inr (inr (inr (inl is)))
      is-end (inr (inr (inr (inl is)))) = inr (inr (inr (inr (inl is))))
      is-end (inr (inr (inr (inr (inl is))))) = inr (inr (inr (inr (inr (inl is)))))
      is-end (inr (inr (inr (inr (inr (inl is)))))) = inr (inr (inr (inr (inr (inr (inr (inl is)))))))
      is-end (inr (inr (inr (inr (inr (inr is)))))) = inr (inr (inr (inr (inr (inr (inr (inr (inl is))))))))

      unwritten-by : status ≡ 4 → Ran old mid Unwritten
      unwritten-by is = being Write (rep.write is)

      faulty-by : status ≡ 5 → Ran old mid Faulty
      faulty-by is = being Link (rep.link is)

      too-long-by : status ≡ 10 → SomeTooLong (held old) (reading mid).left (files_of words)
      too-long-by is = being TooLong (rep.too_long is)

      want-by : InWant refusal → Untouched (linking old) (linking mid) (writing old) (writing mid) ⊎ DialledInPart (held old) words (linking old) (linking mid) (writing old) (writing mid)
      want-by (inl named) = being Memory named
      want-by (inr named) =
          let none = named-nothing H held reading writing linking complaints IsSteady old mid new refusal status reported counts named in
          inl (record { linking = none.linking_stays; writing = none.writing_stays })

      line-by : NamesLine refusal (complaints mid) (complaints new) → NamedLine (held old) words (complaints old) (complaints new)
      line-by (line, place, named, said) = record { line = line; place = place; refused = being (Line line place) named; said = said-behind (line_text line place) said }

      lies-by : NamesLine refusal (complaints mid) (complaints new) → Named (held old) words (Lies (fault_by words))
      lies-by (line, place, named, said) =
          let o = being (Line line place) named in
          record { schema = o.schema; script = o.script; files = o.files; holds = (record { line = line; place = place }, o.first) }

      create-by : NamesRefused refusal (complaints mid) (complaints new) → NamedCreate (held old) words (complaints old) (complaints new)
      create-by (inl (line, fault, named, said)) = record { line = line; fault = fault; refused = being (Setup line fault) named; said = said-behind (setup_text line fault) said }
      create-by (inr (table, fault, named, said)) = absurd (being (Load table fault) named)

      refuses-by : NamesRefused refusal (complaints mid) (complaints new) → Named (held old) words (RefusesSome (fault_by words))
      refuses-by (inl (line, fault, named, said)) =
          let r = being (Setup line fault) named in
          record { schema = r.schema; script = r.script; files = r.files; holds = (line, fault, r.refuses) }
      refuses-by (inr (table, fault, named, said)) = absurd (being (Load table fault) named)

      ran-by : (status ≡ 0) ⊎ (status ≡ 4) ⊎ (status ≡ 5) ⊎ (status ≡ 8) ⊎ (status ≡ 11) → Named (held old) words (Accepted (fault_by words))
      ran-by (inl is) = (let o = rep.only in absurd (omega (arith, o, is)))
      ran-by (inr (inl is)) = some_accepted (held old) words Unwritten (linking old) (linking mid) (writing old) (writing mid) (unwritten-by is)
      ran-by (inr (inr (inl is))) = some_accepted (held old) words Faulty (linking old) (linking mid) (writing old) (writing mid) (faulty-by is)
      ran-by (inr (inr (inr (inl is)))) = (let o = rep.only in absurd (omega (arith, o, is)))
      ran-by (inr (inr (inr (inr is)))) = (let o = rep.only in absurd (omega (arith, o, is)))

      causes-by : ¬ (status ≡ 3) → Causes (held old) (reading mid).left words status
      causes-by read = record {
        only = is-end rep.only;
        no_read_fault = read;
        too_long = too-long-by;
        line = λ is. lies-by (rep.line is);
        refused = λ is. refuses-by (rep.refused is);
        ran = ran-by;
      }

      pub dials-refused : (IsSteady old → refusal ≡ Read → (schema script : List ℕ) → ¬ AreHeld (held old) words schema script) → (IsSteady old → refusal ≢ Write) → Ends old new status
      dials-refused reads writes =
          let only = rep.only in
          record {
            only = is-end rep.only;
            whole = λ is. absurd (omega (arith, only, is));
            unwritten = λ is. ran-still Unwritten (unwritten-by is);
            faulty = λ is. ran-still Faulty (faulty-by is);
            frame = λ is. absurd (omega (arith, only, is));
            limit = λ is. absurd (omega (arith, only, is));
            in_want = λ is. moved (λ l w. Untouched (linking old) l (writing old) w ⊎ DialledInPart (held old) words (linking old) l (writing old) w) (want-by (rep.memory is));
            too_long = λ is. subst (λ (r : Reading). SomeTooLong (held old) r.left (files_of words)) (sym stays.reading_stays) (too-long-by is);
            line = λ is. line-by (rep.line is);
            refused = λ is. create-by (rep.refused is);
            steady = λ steady schema script are. fits_held (held old) (reading mid).left words schema script status are (causes-by (λ is. reads steady (rep.read is) schema script are));
            steady_writes = λ steady is. writes steady (rep.write is);
          }
