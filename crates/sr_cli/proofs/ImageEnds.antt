-- How runs of `save` and `warm` end, over a host.
use Rattle.std.proofs.Common.{◌≡◌, ◌≢◌, ℕ, ◌⊎◌, List, Option, Err, arith, inl, inr, refl, sym, ap, subst, ◌∙◌}
use Rattle.std.specs.Prelude.{IfSome}
use Rattle.sr_dial.specs.declared.ending.Ending.TheVariants.{Whole, Spoiled, Bad as BadMessage, Limit as TooMany}
use Rattle.sr_image.specs.declared.image.ImageFault.{ImageFault}
use Rattle.sr_io.specs.Told.{Reading, Writing, Linking, complained}
use Rattle.sr_wire.specs.declared.bad_frame.BadFrame.{BadFrame}
use Rattle.sr_wire.specs.declared.wire_fault.WireFault.{WireFault}
use Rattle.sr_words.specs.declared.command.ClientKind.TheVariants as kind
use Rattle.sr_words.specs.declared.command.ClientWords.{ClientWords}
use Rattle.sr_words.specs.declared.command.WarmWords.{WarmWords}
use Rattle.sr_cli.specs.Client.{AreHeld, IsEnd, Untouched, files_of}
use Rattle.sr_cli.specs.Errors.{bad_text, error_text, spoiled_text}
use Rattle.sr_cli.specs.Files.{SomeTooLong}
use Rattle.sr_cli.specs.Image.{AreWarmHeld, IsNoImage, SaveStopsOver, Saved, SavedInPart, SavedOff, SavesBy, SavesOver, WarmStopsOver, Warmed, WarmedInPart, WarmedOff, WarmsBy, WarmsOver, image_text, names_of}
use Rattle.sr_cli.specs.Leaves.{Counts, Leaves, Names, OnlyComplains, OnlyRuns, Reported}
use Rattle.sr_cli.specs.declared.report.Refusal.{Refusal}
use Rattle.sr_cli.specs.declared.report.Refusal.TheVariants.{Read, Write}
use Rattle.sr_cli.specs.declared.stop.Stop.TheVariants.{Refused}
use Rattle.sr_cli.specs.declared.warm.WarmStop.TheVariants.{Stopped}
use Rattle.sr_cli.proofs.ImageLemmas.{comes-bad, comes-limit, comes-other, comes-refused, comes-spoiled, comes-wanting, comes-whole, refused-end, saved-off, warmed-off}
use Rattle.sr_cli.proofs.ImageFits.{fits-saved, fits-warmed}
use Rattle.sr_cli.proofs.LeavesLemmas.{HasName, named-nothing, reported-is}

pub frames-end : (status : ℕ) → (status ≡ 8) ⊎ (status ≡ 9) → IsEnd status
frames-end status (inl is) = inr (inr (inr (inr (inr (inr (inl is))))))
frames-end status (inr is) = inr (inr (inr (inr (inr (inr (inr (inl is)))))))

pub named-status : (text : List ℕ) (status : ℕ) (old new : Option (List ℕ)) → Names 8 text status old new → (status ≡ 8) ⊎ (status ≡ 9)
named-status text status old new (inl (is, said)) = inl is
named-status text status old new (inr (is, said)) = inr is

named-13 : (text : List ℕ) (status : ℕ) (old new : Option (List ℕ)) → Names 13 text status old new → (status ≡ 13) ⊎ (status ≡ 9)
named-13 text status old new (inl (is, said)) = inl is
named-13 text status old new (inr (is, said)) = inr is

said-13 : (text : List ℕ) (status : ℕ) (old new : Option (List ℕ)) → Names 13 text status old new → IfSome (error_text status) (λ t. new ≡ complained t old)
said-13 text status old new (inl (is, said)) = subst (λ n. IfSome (error_text n) (λ t. new ≡ complained t old)) (sym is) tt
said-13 text status old new (inr (is, said)) = subst (λ n. IfSome (error_text n) (λ t. new ≡ complained t old)) (sym is) said

-- 13 comes of an image alone
never-13 : (status : ℕ) → IsEnd status → status ≡ 13 → ⊥
never-13 status only is = omega (arith, only, is)

module _ (H : Type 0) (held : H → List ℕ → Option (List ℕ)) (reading : H → Reading) (writing : H → Writing) (linking : H → Linking) (complaints : H → Option (List ℕ)) (IsSteady : H → Type 0) where
  -- what a complaint leaves
  pub moved : (mid new : H) → OnlyComplains H reading writing linking held IsSteady mid new → (P : Reading → Linking → Writing → Type 0) → P (reading mid) (linking mid) (writing mid) → P (reading new) (linking new) (writing new)
  moved mid new stays P holds =
      subst (λ (r : Reading). P r (linking new) (writing new)) (sym stays.reading_stays)
      (subst (λ (l : Linking). P (reading mid) l (writing new)) (sym stays.linking_stays) (subst (P (reading mid) (linking mid)) (sym stays.writing_stays) holds))

  -- ---- `save`

  module _ (words : ClientWords) (plain : words.kind ≡ kind.Client) where
    abbrev Ends : H → H → ℕ → Type 0
    Ends old new status = SavesOver H held reading writing linking complaints IsSteady old new words status

    pub saves-whole : (old new : H) → complaints new ≡ complaints old → Saved (IsSteady old) (held old) words (linking old) (linking new) (writing old) (writing new) Whole → Ends old new 0
    saves-whole old new silent saved =
        let comes : SavesBy (IsSteady old) (held old) words (reading new) (linking old) (linking new) (writing old) (writing new) (complaints old) (complaints new) 0 =
        comes-whole (held old) words (Saved (IsSteady old) (held old) words (linking old) (linking new) (writing old) (writing new)) (SavedInPart (IsSteady old) (held old) words (linking old) (linking new) (writing old) (writing new))
        (SavedOff (IsSteady old) (held old) words (linking old) (linking new) (writing old) (writing new)) (SomeTooLong (held old) (reading new).left (files_of words)) (complaints old) (complaints new) saved in
        record {
          only = inl refl;
          comes = comes;
          steady = λ steady. fits-saved (held old) words plain (IsSteady old) (reading new) (linking old) (linking new) (writing old) (writing new) (complaints old) (complaints new) 0 comes (inl refl) (λ is. omega (arith, is));
          steady_writes = λ steady is. omega (arith, is);
        }

    module _ (old mid new : H) (silent : complaints mid ≡ complaints old) (stays : OnlyComplains H reading writing linking held IsSteady mid new) where
      ends : (status : ℕ) → IsEnd status → (IsSteady old → (schema script : List ℕ) → AreHeld (held old) words schema script → ¬ (status ≡ 3)) → (IsSteady old → ¬ (status ≡ 4)) → SavesBy (IsSteady old) (held old) words (reading mid) (linking old) (linking mid) (writing old) (writing mid) (complaints old) (complaints new) status → Ends old new status
      ends status only reads writes comes = record {
        only = only;
        comes = moved mid new stays (λ r l w. SavesBy (IsSteady old) (held old) words r (linking old) l (writing old) w (complaints old) (complaints new) status) comes;
        steady = λ steady schema script are.
            fits-saved (held old) words plain (IsSteady old) (reading mid) (linking old) (linking mid) (writing old) (writing mid) (complaints old) (complaints new) status comes only (reads steady schema script are) schema script are;
        steady_writes = writes;
      }

      pub saves-spoiled : (status : ℕ) (fault : WireFault) → Names 8 (spoiled_text fault) status (complaints mid) (complaints new) → Saved (IsSteady old) (held old) words (linking old) (linking mid) (writing old) (writing mid) (Spoiled fault) → Ends old new status
      saves-spoiled status fault named saved =
          let which = named-status (spoiled_text fault) status (complaints mid) (complaints new) named in
          ends status (frames-end status which) (λ steady schema script are is. omega (arith, which, is)) (λ steady is. omega (arith, which, is))
          (comes-spoiled (held old) words (Saved (IsSteady old) (held old) words (linking old) (linking mid) (writing old) (writing mid)) (SavedInPart (IsSteady old) (held old) words (linking old) (linking mid) (writing old) (writing mid))
          (SavedOff (IsSteady old) (held old) words (linking old) (linking mid) (writing old) (writing mid)) (SomeTooLong (held old) (reading mid).left (files_of words)) (complaints old) (complaints mid) (complaints new) silent status fault named saved
          (saved-off (held old) words (IsSteady old) (linking old) (linking mid) (writing old) (writing mid) (Spoiled fault) refl refl saved))

      pub saves-bad : (status : ℕ) (why : BadFrame) → status ≡ 8 → complaints new ≡ complained (bad_text why) (complaints mid) → Saved (IsSteady old) (held old) words (linking old) (linking mid) (writing old) (writing mid) (BadMessage why) → Ends old new status
      saves-bad status why is said saved =
          ends status (frames-end status (inl is)) (λ steady schema script are three. omega (arith, is, three)) (λ steady four. omega (arith, is, four)) (comes-bad (held old) words (Saved (IsSteady old) (held old) words (linking old) (linking mid) (writing old) (writing mid)) (SavedInPart (IsSteady old) (held old) words (linking old) (linking mid) (writing old) (writing mid))
          (SavedOff (IsSteady old) (held old) words (linking old) (linking mid) (writing old) (writing mid)) (SomeTooLong (held old) (reading mid).left (files_of words)) (complaints old) (complaints mid) (complaints new) silent status why is said saved)

      pub saves-limit : (status : ℕ) → status ≡ 11 → Saved (IsSteady old) (held old) words (linking old) (linking mid) (writing old) (writing mid) TooMany → Ends old new status
      saves-limit status is saved =
          ends status (inr (inr (inr (inr (inr (inr (inr (inr (inr is))))))))) (λ steady schema script are three. omega (arith, is, three)) (λ steady four. omega (arith, is, four)) (comes-limit (held old) words (Saved (IsSteady old) (held old) words (linking old) (linking mid) (writing old) (writing mid)) (SavedInPart (IsSteady old) (held old) words (linking old) (linking mid) (writing old) (writing mid))
          (SavedOff (IsSteady old) (held old) words (linking old) (linking mid) (writing old) (writing mid)) (SomeTooLong (held old) (reading mid).left (files_of words)) (complaints old) (complaints mid) (complaints new) silent status is saved)

      -- what has a name did nothing
      nothing : (refusal : Refusal) (status : ℕ) → Reported refusal status (complaints mid) (complaints new) → Counts H reading writing linking old mid (Err refusal) → HasName refusal
          → SavedOff (IsSteady old) (held old) words (linking old) (linking mid) (writing old) (writing mid)
      nothing refusal status reported counts named =
          let none = named-nothing H held reading writing linking complaints IsSteady old mid new refusal status reported counts named in
          inl (record { linking = none.linking_stays; writing = none.writing_stays })

      pub saves-refused : (refusal : Refusal) (status : ℕ) → Reported refusal status (complaints mid) (complaints new) → Counts H reading writing linking old mid (Err refusal)
          → SaveStopsOver (IsSteady old) (held old) words (reading mid).left (linking old) (linking mid) (writing old) (writing mid) (Refused refusal)
          → (IsSteady old → refusal ≡ Read → (schema script : List ℕ) → ¬ AreHeld (held old) words schema script) → (IsSteady old → refusal ≢ Write) → Ends old new status
      saves-refused refusal status reported counts why reads writes =
          ends status
          (refused-end (held old) words (Saved (IsSteady old) (held old) words (linking old) (linking mid) (writing old) (writing mid)) (SavedInPart (IsSteady old) (held old) words (linking old) (linking mid) (writing old) (writing mid))
          (SavedOff (IsSteady old) (held old) words (linking old) (linking mid) (writing old) (writing mid)) (SomeTooLong (held old) (reading mid).left (files_of words))
          (complaints old) (complaints mid) (complaints new) silent refusal status reported why (nothing refusal status reported counts))
          (λ steady schema script are is. reads steady ((reported-is refusal status (complaints mid) (complaints new) reported).read is) schema script are)
          (λ steady is. writes steady ((reported-is refusal status (complaints mid) (complaints new) reported).write is))
          (comes-refused (held old) words (Saved (IsSteady old) (held old) words (linking old) (linking mid) (writing old) (writing mid)) (SavedInPart (IsSteady old) (held old) words (linking old) (linking mid) (writing old) (writing mid))
          (SavedOff (IsSteady old) (held old) words (linking old) (linking mid) (writing old) (writing mid)) (SomeTooLong (held old) (reading mid).left (files_of words))
          (complaints old) (complaints mid) (complaints new) silent refusal status reported why (nothing refusal status reported counts))

  -- ---- `warm`

  module _ (words : WarmWords) where
    abbrev WarmEnds : H → H → ℕ → Type 0
    WarmEnds old new status = WarmsOver H held reading writing linking complaints IsSteady old new words status

    pub warms-whole : (old new : H) → complaints new ≡ complaints old → Warmed (IsSteady old) (held old) words (linking old) (linking new) (writing old) (writing new) Whole → WarmEnds old new 0
    warms-whole old new silent warmed =
        let comes : WarmsBy (IsSteady old) (held old) words (reading new) (linking old) (linking new) (writing old) (writing new) (complaints old) (complaints new) 0 =
        comes-whole (held old) words.client (Warmed (IsSteady old) (held old) words (linking old) (linking new) (writing old) (writing new)) (WarmedInPart (IsSteady old) (held old) words (linking old) (linking new) (writing old) (writing new))
        (WarmedOff (held old) words (linking old) (linking new) (writing old) (writing new)) (SomeTooLong (held old) (reading new).left (names_of words)) (complaints old) (complaints new) warmed in
        record {
          only = inl (inl refl);
          comes = comes;
          steady = λ steady schema script bytes are.
              fits-warmed (held old) words schema script bytes are (IsSteady old) (reading new) (linking old) (linking new) (writing old) (writing new) (complaints old) (complaints new) 0 comes (λ is. omega (arith, is)) (λ is. absurd (omega (arith, is)));
          steady_writes = λ steady is. omega (arith, is);
          no_image = λ is. absurd (omega (arith, is));
        }

    module _ (old mid new : H) (silent : complaints mid ≡ complaints old) (stays : OnlyComplains H reading writing linking held IsSteady mid new) where
      warm-ends : (status : ℕ) → IsEnd status → (IsSteady old → (schema script bytes : List ℕ) → AreWarmHeld (held old) words schema script bytes → ¬ (status ≡ 3)) → (IsSteady old → ¬ (status ≡ 4)) → WarmsBy (IsSteady old) (held old) words (reading mid) (linking old) (linking mid) (writing old) (writing mid) (complaints old) (complaints new) status → WarmEnds old new status
      warm-ends status only reads writes comes = record {
        only = inl only;
        no_image = λ is. absurd (never-13 status only is);
        comes = moved mid new stays (λ r l w. WarmsBy (IsSteady old) (held old) words r (linking old) l (writing old) w (complaints old) (complaints new) status) comes;
        steady = λ steady schema script bytes are.
            fits-warmed (held old) words schema script bytes are (IsSteady old) (reading mid) (linking old) (linking mid) (writing old) (writing mid) (complaints old) (complaints new) status comes (reads steady schema script bytes are)
            (λ is. absurd (never-13 status only is));
        steady_writes = writes;
      }

      pub warms-spoiled : (status : ℕ) (fault : WireFault) → Names 8 (spoiled_text fault) status (complaints mid) (complaints new) → Warmed (IsSteady old) (held old) words (linking old) (linking mid) (writing old) (writing mid) (Spoiled fault) → WarmEnds old new status
      warms-spoiled status fault named warmed =
          let which = named-status (spoiled_text fault) status (complaints mid) (complaints new) named in
          warm-ends status (frames-end status which) (λ steady schema script bytes are is. omega (arith, which, is)) (λ steady is. omega (arith, which, is))
          (comes-spoiled (held old) words.client (Warmed (IsSteady old) (held old) words (linking old) (linking mid) (writing old) (writing mid)) (WarmedInPart (IsSteady old) (held old) words (linking old) (linking mid) (writing old) (writing mid))
          (WarmedOff (held old) words (linking old) (linking mid) (writing old) (writing mid)) (SomeTooLong (held old) (reading mid).left (names_of words)) (complaints old) (complaints mid) (complaints new) silent status fault named warmed
          (warmed-off (held old) words (IsSteady old) (linking old) (linking mid) (writing old) (writing mid) (Spoiled fault) refl warmed))

      pub warms-bad : (status : ℕ) (why : BadFrame) → status ≡ 8 → complaints new ≡ complained (bad_text why) (complaints mid) → Warmed (IsSteady old) (held old) words (linking old) (linking mid) (writing old) (writing mid) (BadMessage why) → WarmEnds old new status
      warms-bad status why is said warmed =
          warm-ends status (frames-end status (inl is)) (λ steady schema script bytes are three. omega (arith, is, three)) (λ steady four. omega (arith, is, four)) (comes-bad (held old) words.client (Warmed (IsSteady old) (held old) words (linking old) (linking mid) (writing old) (writing mid)) (WarmedInPart (IsSteady old) (held old) words (linking old) (linking mid) (writing old) (writing mid))
          (WarmedOff (held old) words (linking old) (linking mid) (writing old) (writing mid)) (SomeTooLong (held old) (reading mid).left (names_of words)) (complaints old) (complaints mid) (complaints new) silent status why is said warmed)

      pub warms-limit : (status : ℕ) → status ≡ 11 → Warmed (IsSteady old) (held old) words (linking old) (linking mid) (writing old) (writing mid) TooMany → WarmEnds old new status
      warms-limit status is warmed =
          warm-ends status (inr (inr (inr (inr (inr (inr (inr (inr (inr is))))))))) (λ steady schema script bytes are three. omega (arith, is, three)) (λ steady four. omega (arith, is, four)) (comes-limit (held old) words.client (Warmed (IsSteady old) (held old) words (linking old) (linking mid) (writing old) (writing mid)) (WarmedInPart (IsSteady old) (held old) words (linking old) (linking mid) (writing old) (writing mid))
          (WarmedOff (held old) words (linking old) (linking mid) (writing old) (writing mid)) (SomeTooLong (held old) (reading mid).left (names_of words)) (complaints old) (complaints mid) (complaints new) silent status is warmed)

      -- what has a name did nothing
      warm-nothing : (refusal : Refusal) (status : ℕ) → Reported refusal status (complaints mid) (complaints new) → Counts H reading writing linking old mid (Err refusal) → HasName refusal
          → WarmedOff (held old) words (linking old) (linking mid) (writing old) (writing mid)
      warm-nothing refusal status reported counts named =
          let none = named-nothing H held reading writing linking complaints IsSteady old mid new refusal status reported counts named in
          inl (record { linking = none.linking_stays; writing = none.writing_stays })

      pub warms-refused : (refusal : Refusal) (status : ℕ) → Reported refusal status (complaints mid) (complaints new) → Counts H reading writing linking old mid (Err refusal)
          → WarmStopsOver (IsSteady old) (held old) words (reading mid).left (linking old) (linking mid) (writing old) (writing mid) (Stopped (Refused refusal))
          → (IsSteady old → refusal ≡ Read → (schema script bytes : List ℕ) → ¬ AreWarmHeld (held old) words schema script bytes) → (IsSteady old → refusal ≢ Write) → WarmEnds old new status
      warms-refused refusal status reported counts why reads writes =
          warm-ends status
          (refused-end (held old) words.client (Warmed (IsSteady old) (held old) words (linking old) (linking mid) (writing old) (writing mid)) (WarmedInPart (IsSteady old) (held old) words (linking old) (linking mid) (writing old) (writing mid))
          (WarmedOff (held old) words (linking old) (linking mid) (writing old) (writing mid)) (SomeTooLong (held old) (reading mid).left (names_of words))
          (complaints old) (complaints mid) (complaints new) silent refusal status reported why (warm-nothing refusal status reported counts))
          (λ steady schema script bytes are is. reads steady ((reported-is refusal status (complaints mid) (complaints new) reported).read is) schema script bytes are)
          (λ steady is. writes steady ((reported-is refusal status (complaints mid) (complaints new) reported).write is))
          (comes-refused (held old) words.client (Warmed (IsSteady old) (held old) words (linking old) (linking mid) (writing old) (writing mid)) (WarmedInPart (IsSteady old) (held old) words (linking old) (linking mid) (writing old) (writing mid))
          (WarmedOff (held old) words (linking old) (linking mid) (writing old) (writing mid)) (SomeTooLong (held old) (reading mid).left (names_of words))
          (complaints old) (complaints mid) (complaints new) silent refusal status reported why (warm-nothing refusal status reported counts))

      pub warms-no-image : (status : ℕ) (fault : ImageFault) → Names 13 (image_text fault) status (complaints mid) (complaints new)
          → IsNoImage (held old) words fault × Untouched (linking old) (linking mid) (writing old) (writing mid) → WarmEnds old new status
      warms-no-image status fault (inl (is, said)) (none, untouched) =
          let comes : WarmsBy (IsSteady old) (held old) words (reading new) (linking old) (linking new) (writing old) (writing new) (complaints old) (complaints new) status =
          comes-other (held old) words.client (Warmed (IsSteady old) (held old) words (linking old) (linking new) (writing old) (writing new)) (WarmedInPart (IsSteady old) (held old) words (linking old) (linking new) (writing old) (writing new))
          (WarmedOff (held old) words (linking old) (linking new) (writing old) (writing new)) (SomeTooLong (held old) (reading new).left (names_of words)) (complaints old) (complaints new) status is in
          record {
            only = inr is;
            comes = comes;
            steady = λ steady schema script bytes are.
                fits-warmed (held old) words schema script bytes are (IsSteady old) (reading new) (linking old) (linking new) (writing old) (writing new) (complaints old) (complaints new) status comes (λ three. omega (arith, is, three)) (λ thirteen. (fault, none));
            steady_writes = λ steady four. omega (arith, is, four);
            no_image = λ thirteen. record {
              fault = fault;
              none = none;
              untouched = moved mid new stays (λ r l w. Untouched (linking old) l (writing old) w) untouched;
              said = said ∙ ap (complained (image_text fault)) silent;
            };
          }
      warms-no-image status fault (inr (is, said)) (none, untouched) =
          warm-ends status (inr (inr (inr (inr (inr (inr (inr (inl is)))))))) (λ steady schema script bytes are three. omega (arith, is, three)) (λ steady four. omega (arith, is, four)) (comes-wanting (held old) words.client (Warmed (IsSteady old) (held old) words (linking old) (linking mid) (writing old) (writing mid)) (WarmedInPart (IsSteady old) (held old) words (linking old) (linking mid) (writing old) (writing mid))
          (WarmedOff (held old) words (linking old) (linking mid) (writing old) (writing mid)) (SomeTooLong (held old) (reading mid).left (names_of words)) (complaints old) (complaints mid) (complaints new) silent status is (inl untouched))

  -- the image was refused, or there was no memory to say so
  pub leaves-no-image : (old mid new : H) (status : ℕ) (text : List ℕ) → Names 13 text status (complaints mid) (complaints new) → (reading mid).faults ≡ (reading old).faults
      → OnlyRuns H held complaints IsSteady old mid → OnlyComplains H reading writing linking held IsSteady mid new → Leaves H held reading writing linking complaints IsSteady old new status
  leaves-no-image old mid new status text named same runs stays =
      let which = named-13 text status (complaints mid) (complaints new) named in
      record {
        read_fault_is_counted = λ is. absurd (omega (arith, which, is));
        write_fault_is_counted = λ is. absurd (omega (arith, which, is));
        reading_keeps_faults = inr (ap (λ (r : Reading). r.faults) stays.reading_stays ∙ same);
        writes_nothing = λ is. absurd (omega (arith, which, is));
        links_nothing = λ is. absurd (omega (arith, which, is));
        silent = λ is. absurd (omega (arith, which, is));
        complaint = subst (λ told. IfSome (error_text status) (λ t. complaints new ≡ complained t told)) runs.complaints_stay (said-13 text status (complaints mid) (complaints new) named);
        stays_steady = λ steady. stays.stays_steady (runs.stays_steady steady);
        held_stays = stays.held_stays ∙ runs.held_stays;
      }
