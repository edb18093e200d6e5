-- How runs of `save` and `warm` come to their ends.
use Rattle.std.proofs.Common.{◌≡◌, ◌≢◌, ℕ, ◌+◌, ◌≤◌, ◌<◌, ◌⊎◌, true, false, List, [], ◌∷◌, ◌++◌, take, flat_map, Option, Some, None, Ok, Err, inl, inr, refl, sym, ap, subst, arith, ◌∙◌, append-nil}
use Rattle.std.specs.Prelude.{◌*◌, ◌^◌, Result, IfErr, IfOk, IsErrOf, IsTrue, if◌then◌else◌}
use Rattle.std.specs.Io.KnownBytes.{Appends}
use Rattle.std.proofs.lemmas.List.Concat.{flat_map-cons}
use Rattle.sr_calls.specs.ClientEnds.{End, room_of, setting_of}
use Rattle.sr_calls.specs.Runs.{RanNewInPart, RanOff, RanSteadilyFrom, new_end}
use Rattle.sr_calls.proofs.RunLemmas.{ended_in_part, run_in_part}
use Rattle.sr_cell.specs.declared.fault.Fault.{Fault}
use Rattle.sr_cell.specs.declared.list.No.{No}
use Rattle.sr_cell.specs.declared.list.No.TheVariants.{Refused as NoBut, NoMemory as Wanting}
use Rattle.sr_cell.specs.declared.table.Table.{Table}
use Rattle.sr_client.specs.Stands.{StandsFor}
use Rattle.sr_client.specs.declared.client.Client.{Client}
use Rattle.sr_dial.specs.Calls.{Do, Done, all_done, text_of}
use Rattle.sr_dial.specs.Carrying.{spoken}
use Rattle.sr_dial.specs.Following.{Ahead}
use Rattle.sr_dial.specs.Known.{Setting, said_by}
use Rattle.sr_dial.specs.Runs.{WritesAs, is_unwritten}
use Rattle.sr_dial.specs.declared.ending.Ending.{Ending}
use Rattle.sr_dial.specs.declared.ending.Ending.TheVariants.{Whole, Faulty, Unwritten, Spoiled, Bad as BadMessage, Limit as TooMany}
use Rattle.sr_cell.specs.Columns.{are_bytes}
use Rattle.sr_image.specs.Found.{Answers}
use Rattle.sr_image.specs.Laws.{is_image}
use Rattle.sr_image.specs.Reading.{image_in}
use Rattle.sr_image.specs.Spelling.{image_bytes}
use Rattle.sr_image.specs.declared.image.Image.{Image}
use Rattle.sr_image.specs.declared.image.ImageFault.{ImageFault}
use Rattle.sr_image.proofs.Spelled.{was-spelled}
use Rattle.sr_io.specs.Causes.{Rose}
use Rattle.sr_io.specs.Pieces.{WritesPrefix}
use Rattle.sr_io.specs.declared.outside.Failed.{Failed}
use Rattle.sr_io.specs.Told.{Reading, Writing, Linking, complained}
use Rattle.sr_links.specs.Steps.{Resumed}
use Rattle.sr_plan.specs.Plans.{Next}
use Rattle.sr_wire.specs.declared.bad_frame.BadFrame.{BadFrame}
use Rattle.sr_wire.specs.declared.wire_fault.WireFault.{WireFault}
use Rattle.sr_words.specs.declared.command.ClientWords.{ClientWords}
use Rattle.sr_words.specs.declared.command.WarmWords.{WarmWords}
use Rattle.sr_session.specs.Clients as session
use Rattle.sr_setup.specs.ClientFiles.{script_outside, Refuses}
use Rattle.sr_setup.specs.declared.client_setup.ClientFault.{ClientFault}
use Rattle.sr_setup.specs.declared.client_setup.ClientFault.TheVariants as setup
use Rattle.sr_cli.specs.Client.{AreFiles, CountsStop, IsEnd, IsOutside, IsRefusedCreate, NamedCreate, NamedLine, Untouched, ending_of, files_of, stop_of}
use Rattle.sr_cli.specs.Errors.{bad_text, line_text, setup_text, spoiled_text}
use Rattle.sr_cli.specs.Image.{Asked, AskedOver, BeginsAs, ComesTo, CountsWarm, CreateDid, EndsQuietly, LeftBy, NamedEnd, OutsideDid, SaveStops, SaveStopsFiles, SaveStopsOver, SavedInPart, SavedOff, Saved, Saves, SavesNothing, SavesOff, SavesOnly, StopsAs, StopsQuietly, WarmStops, WarmStopsFiles, WarmStopsOver, WarmedInPart, WarmedOff, Warmed, Warms, WarmsInPart, WarmsOff, WarmsOnly, WarmsUnwritten, WritesAll, WritesOff, WritesPart, Wrote, WroteLeft, bytes_left, end_of_start, has_image, held_image, names_of, past_of_start, text_of_start}
use Rattle.sr_cli.specs.Files.{IsWhatIsHeld, SomeTooLong}
use Rattle.sr_cli.specs.Kinds.{AsksLines, fault_by}
use Rattle.sr_cli.specs.Leaves.{DidNothing, Names, Reported}
use Rattle.sr_cli.specs.declared.report.Refusal.{Refusal}
use Rattle.sr_cli.specs.declared.report.Refusal.TheVariants as refusal
use Rattle.sr_cli.specs.declared.stop.Stop.{Stop}
use Rattle.sr_cli.specs.declared.stop.Stop.TheVariants as stop
use Rattle.sr_cli.specs.declared.warm.WarmStop.{WarmStop}
use Rattle.sr_cli.specs.declared.warm.WarmStop.TheVariants as warm_stop
use Rattle.sr_cli.proofs.LeavesLemmas.{HasName, InWant, NamesLine, NamesRefused, Report, reported-is}

or-map : (U D E : Type 0) → (D → E) → U ⊎ D → U ⊎ E
or-map U D E f (inl u) = inl u
or-map U D E f (inr d) = inr (f d)

-- ---- why a run stops, in other words

pub stops-map : (E F : Ending → Type 0) (P Q W X U V L M : Type 0) (O N : ℕ → ℕ → Type 0) (C D : ℕ → Fault → Type 0)
    → ((e : Ending) → E e → F e) → (P → Q) → (W → X) → (U → V) → (L → M) → ((l p : ℕ) → O l p → N l p) → ((l : ℕ) (f : Fault) → C l f → D l f)
    → (why : Stop) → StopsAs E P W U L O C why → StopsAs F Q X V M N D why
stops-map E F P Q W X U V L M O N C D ended part off unread long outside create (stop.Refused refusal.Read) holds = unread holds
stops-map E F P Q W X U V L M O N C D ended part off unread long outside create (stop.Refused refusal.Write) holds = part holds
stops-map E F P Q W X U V L M O N C D ended part off unread long outside create (stop.Refused refusal.Link) holds = ended Faulty holds
stops-map E F P Q W X U V L M O N C D ended part off unread long outside create (stop.Refused refusal.Memory) holds = off holds
stops-map E F P Q W X U V L M O N C D ended part off unread long outside create (stop.Refused refusal.TooLong) holds = long holds
stops-map E F P Q W X U V L M O N C D ended part off unread long outside create (stop.Refused (refusal.Line line place)) holds = outside line place holds
stops-map E F P Q W X U V L M O N C D ended part off unread long outside create (stop.Refused (refusal.Setup line fault)) holds = create line fault holds
stops-map E F P Q W X U V L M O N C D ended part off unread long outside create (stop.Refused (refusal.Load table fault)) holds = holds
stops-map E F P Q W X U V L M O N C D ended part off unread long outside create (stop.Spoiled fault) holds = ended (Spoiled fault) holds
stops-map E F P Q W X U V L M O N C D ended part off unread long outside create (stop.Bad why) holds = ended (BadMessage why) holds
stops-map E F P Q W X U V L M O N C D ended part off unread long outside create stop.Limit holds = ended TooMany holds

-- ---- the status

module _ (held : List ℕ → Option (List ℕ)) (words : ClientWords) (Ended : Ending → Type 0) (Part Off Long : Type 0) (first : Option (List ℕ)) where
  abbrev Comes : Option (List ℕ) → ℕ → Type 0
  Comes last status = ComesTo held words Ended Part Off Long first last status

  pub comes-whole : (last : Option (List ℕ)) → Ended Whole → Comes last 0
  comes-whole last ended = record {
    whole = λ is. ended;
    unwritten = λ is. absurd (omega (arith, is));
    faulty = λ is. absurd (omega (arith, is));
    line = λ is. absurd (omega (arith, is));
    refused = λ is. absurd (omega (arith, is));
    frame = λ is. absurd (omega (arith, is));
    in_want = λ is. absurd (omega (arith, is));
    too_long = λ is. absurd (omega (arith, is));
    limit = λ is. absurd (omega (arith, is));
  }

  -- the bytes are no image
  pub comes-other : (last : Option (List ℕ)) (status : ℕ) → status ≡ 13 → Comes last status
  comes-other last status other = record {
    whole = λ is. absurd (omega (arith, other, is));
    unwritten = λ is. absurd (omega (arith, other, is));
    faulty = λ is. absurd (omega (arith, other, is));
    line = λ is. absurd (omega (arith, other, is));
    refused = λ is. absurd (omega (arith, other, is));
    frame = λ is. absurd (omega (arith, other, is));
    in_want = λ is. absurd (omega (arith, other, is));
    too_long = λ is. absurd (omega (arith, other, is));
    limit = λ is. absurd (omega (arith, other, is));
  }

  module _ (mid last : Option (List ℕ)) (silent : mid ≡ first) where
    said-behind : (text : List ℕ) → last ≡ complained text mid → last ≡ complained text first
    said-behind text said = said ∙ ap (complained text) silent

    -- frames ended it, or there was no memory to say so
    pub comes-wanting : (status : ℕ) → status ≡ 9 → Off → Comes last status
    comes-wanting status other off = record {
      whole = λ is. absurd (omega (arith, other, is));
      unwritten = λ is. absurd (omega (arith, other, is));
      faulty = λ is. absurd (omega (arith, other, is));
      line = λ is. absurd (omega (arith, other, is));
      refused = λ is. absurd (omega (arith, other, is));
      frame = λ is. absurd (omega (arith, other, is));
      in_want = λ is. off;
      too_long = λ is. absurd (omega (arith, other, is));
      limit = λ is. absurd (omega (arith, other, is));
    }

    comes-framed : (status : ℕ) → status ≡ 8 → NamedEnd Ended first last → Comes last status
    comes-framed status other named = record {
      whole = λ is. absurd (omega (arith, other, is));
      unwritten = λ is. absurd (omega (arith, other, is));
      faulty = λ is. absurd (omega (arith, other, is));
      line = λ is. absurd (omega (arith, other, is));
      refused = λ is. absurd (omega (arith, other, is));
      frame = λ is. named;
      in_want = λ is. absurd (omega (arith, other, is));
      too_long = λ is. absurd (omega (arith, other, is));
      limit = λ is. absurd (omega (arith, other, is));
    }

    pub comes-spoiled : (status : ℕ) (fault : WireFault) → Names 8 (spoiled_text fault) status mid last → Ended (Spoiled fault) → Off → Comes last status
    comes-spoiled status fault (inl (is, said)) ended off =
        comes-framed status is (record { ending = Spoiled fault; ended = ended; said = inl (fault, refl, said-behind (spoiled_text fault) said) })
    comes-spoiled status fault (inr (is, said)) ended off = comes-wanting status is off

    pub comes-bad : (status : ℕ) (why : BadFrame) → status ≡ 8 → last ≡ complained (bad_text why) mid → Ended (BadMessage why) → Comes last status
    comes-bad status why is said ended =
        comes-framed status is (record { ending = BadMessage why; ended = ended; said = inr (why, refl, said-behind (bad_text why) said) })

    pub comes-limit : (status : ℕ) → status ≡ 11 → Ended TooMany → Comes last status
    comes-limit status other ended = record {
      whole = λ is. absurd (omega (arith, other, is));
      unwritten = λ is. absurd (omega (arith, other, is));
      faulty = λ is. absurd (omega (arith, other, is));
      line = λ is. absurd (omega (arith, other, is));
      refused = λ is. absurd (omega (arith, other, is));
      frame = λ is. absurd (omega (arith, other, is));
      in_want = λ is. absurd (omega (arith, other, is));
      too_long = λ is. absurd (omega (arith, other, is));
      limit = λ is. ended;
    }

    -- it was refused, or something failed
    module _ (refused : Refusal) (status : ℕ) (reported : Reported refused status mid last) (why : StopsAs Ended Part Off (Unit {0}) Long (IsOutside held words) (IsRefusedCreate held words) (stop.Refused refused))
        (nothing : HasName refused → Off) where
      rep : Report refused status mid last
      rep = reported-is refused status mid last reported

      being : (r : Refusal) → refused ≡ r → StopsAs Ended Part Off (Unit {0}) Long (IsOutside held words) (IsRefusedCreate held words) (stop.Refused r)
      being r is = subst (λ r. StopsAs Ended Part Off (Unit {0}) Long (IsOutside held words) (IsRefusedCreate held words) (stop.Refused r)) is why

      line-by : NamesLine refused mid last → NamedLine held words first last
      line-by (line, place, named, said) = record { line = line; place = place; refused = being (refusal.Line line place) named; said = said-behind (line_text line place) said }

      create-by : NamesRefused refused mid last → NamedCreate held words first last
      create-by (inl (line, fault, named, said)) = record { line = line; fault = fault; refused = being (refusal.Setup line fault) named; said = said-behind (setup_text line fault) said }
      create-by (inr (table, fault, named, said)) = absurd (being (refusal.Load table fault) named)

      want-by : InWant refused → Off
      want-by (inl named) = being refusal.Memory named
      want-by (inr named) = nothing named

      pub refused-end : IsEnd status
      refused-end = by rep.only
        where
          by : (status ≡ 3) ⊎ (status ≡ 4) ⊎ (status ≡ 5) ⊎ (status ≡ 6) ⊎ (status ≡ 7) ⊎ (status ≡ 9) ⊎ (status ≡ 10) → IsEnd status
          by (inl is) = inr (inl is)
          by (inr (inl is)) = inr (inr (inl is))
          by (inr (inr (inl is))) = inr (inr (inr (inl is)))
          by (inr (inr (inr (inl is)))) = inr (inr (inr (inr (inl is))))
          by (inr (inr (inr (inr (inl is))))) = inr (inr (inr (inr (inr (inl is)))))
          by (inr (inr (inr (inr (inr (inl is)))))) = inr (inr (inr (inr (inr (inr (inr (inl is)))))))
          by (inr (inr (inr (inr (inr (inr is)))))) = inr (inr (inr (inr (inr (inr (inr (inr (inl is))))))))

      pub comes-refused : Comes last status
      comes-refused = let only = rep.only in record {
        whole = λ is. absurd (omega (arith, only, is));
        unwritten = λ is. being refusal.Write (rep.write is);
        faulty = λ is. being refusal.Link (rep.link is);
        line = λ is. line-by (rep.line is);
        refused = λ is. create-by (rep.refused is);
        frame = λ is. absurd (omega (arith, only, is));
        in_want = λ is. want-by (rep.memory is);
        too_long = λ is. being refusal.TooLong (rep.too_long is);
        limit = λ is. absurd (omega (arith, only, is));
      }

-- ---- what is written

-- nothing, and then some bytes
appends-behind : (a b c : Option (List ℕ)) (bytes : List ℕ) → Appends a b [] → Appends b c bytes → Appends a c bytes
appends-behind None b c bytes first then_ = tt
appends-behind (Some xs) None c bytes first then_ = absurd first
appends-behind (Some xs) (Some ys) None bytes first then_ = absurd then_
appends-behind (Some xs) (Some ys) (Some zs) bytes first then_ = then_ ∙ ap (λ ws. ws ++ bytes) (first ∙ append-nil xs)

pub writes-all-behind : (a b c : Writing) (bytes : List ℕ) → WritesAll [] a b → WritesAll bytes b c → WritesAll bytes a c
writes-all-behind a b c bytes (none, same) (all, still) = (appends-behind a.written b.written c.written bytes none all, still ∙ same)

prefix-behind : (a b c : Option (List ℕ)) (bytes : List ℕ) → Appends a b [] → WritesPrefix b c bytes → WritesPrefix a c bytes
prefix-behind a b c bytes none part = record { count = part.count; within = part.within; appended = appends-behind a b c (take part.count bytes) none part.appended }

pub writes-part-behind : (a b c : Writing) (bytes : List ℕ) → WritesAll [] a b → WritesPart bytes b c → WritesPart bytes a c
writes-part-behind a b c bytes (none, same) (part, rose) = (prefix-behind a.written b.written c.written bytes none part, subst (λ n. Rose n c.faults) same rose)

pub writes-off-behind : (a b c : Writing) (bytes : List ℕ) → WritesAll [] a b → WritesOff bytes b c → WritesOff bytes a c
writes-off-behind a b c bytes (none, same) (part, still) = (prefix-behind a.written b.written c.written bytes none part, still ∙ same)

-- nothing is
nothing-more : (xs : Option (List ℕ)) → Appends xs xs []
nothing-more None = tt
nothing-more (Some xs) = sym (append-nil xs)

pub writes-none : (w : Writing) → WritesAll [] w w
writes-none w = (nothing-more w.written, refl)

-- a run without lines writes nothing
silent-run : {C : Type 0} (k : Setting) (ds : List (Done C)) → k.says ≡ false → flat_map (said_by k) ds ≡ []
silent-run {C} k [] is = refl
silent-run {C} k (d ∷ ds) is =
    flat_map-cons (said_by k) d ds ∙ (ap (λ says. spoken says (text_of k.schema k.number d) ++ flat_map (said_by k) ds) is ∙ silent-run k ds is)

pub quiet-writes : {C : Type 0} (k : Setting) (ds : List (Done C)) (ending : Ending) (before after : Writing) → k.says ≡ false → WritesAs k.says ending (flat_map (said_by k) ds) before after → WritesAll [] before after
quiet-writes {C} k ds ending before after is wrote = subst (λ bytes. WritesAll bytes before after) (silent-run k ds is) (by ending (subst (λ says. WritesAs says ending (flat_map (said_by k) ds) before after) is wrote))
  where
    by : (ending : Ending) → WritesAs false ending (flat_map (said_by k) ds) before after → WritesAll (flat_map (said_by k) ds) before after
    by Whole wrote = wrote
    by Faulty wrote = wrote
    by Unwritten wrote = absurd (let wrong = wrote.0 in cc)
    by (Spoiled fault) wrote = wrote
    by (BadMessage why) wrote = wrote
    by TooMany wrote = wrote

-- and so is one that was broken off
pub quiet-off : {C : Type 0} (k : Setting) (ds : List (Done C)) (before after : Writing) → k.says ≡ false → WritesPrefix before.written after.written (flat_map (said_by k) ds) → after.faults ≡ before.faults → WritesAll [] before after
quiet-off {C} k ds before after is part still = (nothing (subst (WritesPrefix before.written after.written) (silent-run k ds is) part), still)
  where
    nothing : WritesPrefix before.written after.written [] → Appends before.written after.written []
    nothing none =
        let within = none.within in
        let zero : none.count ≡ 0 = omega (arith, within) in
        subst (λ n. Appends before.written after.written (take n [])) zero none.appended

-- ---- what `save` does

pub saves-nothing : (words : ClientWords) (tables : List Table) (ahead : Ahead) (old new : Linking) (before after : Writing)
    → RanNewInPart words.id words.address tables words.limits false false (Next 0 (Do Resumed) ahead) old new before after → SavesNothing words tables ahead old new before after
saves-nothing words tables ahead old new before after part = record {
  middle = after;
  ran = part;
  none = quiet-off {C = End} (setting_of (new_end words.id tables words.limits false false)) (all_done part.ran.calls) before after refl part.ran.written part.ran.write_faults;
}

-- a run that ended so did no more than one that was broken off
pub saves-in-part : (Steady : Type 0) (words : ClientWords) (tables : List Table) (ahead : Ahead) (ending : Ending) (old new : Linking) (before after : Writing) → is_unwritten ending ≡ false → has_image ending ≡ false
    → Saves Steady words tables ahead ending old new before after → SavesNothing words tables ahead old new before after
saves-in-part Steady words tables ahead ending old new before after each none saves = record {
  middle = saves.middle;
  ran = ended_in_part words.id words.address tables words.limits false false (Next 0 (Do Resumed) ahead) ending old new before saves.middle each saves.ran.run;
  none = subst (λ b. WritesAll (if b then image_bytes tables (held_image saves.ran.run.left.client) else []) before after) none saves.image;
}

module _ (Steady : Type 0) (words : ClientWords) (tables : List Table) (ahead : Ahead) (ending : Ending) (left : End) (old new : Linking) (before mid after : Writing) (by : LeftBy Steady words tables ahead ending left old new before mid) where
  still : WritesAll [] before mid
  still =
      let run = by.ran.run.ran.run.ran in
      quiet-writes {C = End} (setting_of (new_end words.id tables words.limits false false)) (all_done (run.earlier ++ run.last ∷ [])) ending before mid refl run.writes

  pub never-unwritten : ending ≢ Unwritten
  never-unwritten is =
      let run = by.ran.run.ran.run.ran in
      let texts = flat_map (said_by {C = End} (setting_of (new_end words.id tables words.limits false false))) (all_done (run.earlier ++ run.last ∷ [])) in
      let wrote : WritesAs false Unwritten texts before mid = subst (λ e. WritesAs false e texts before mid) is run.writes in
      let wrong : false ≡ true = wrote.0 in cc

  module _ (Writes : List ℕ → Writing → Writing → Type 0) (behind : (bytes : List ℕ) → Writes bytes mid after → Writes bytes before after) where
    of-left : (f : List ℕ → List ℕ) → Writes (f (image_bytes tables (held_image left.client))) mid after → Writes (f (image_bytes tables (held_image by.ran.run.left.client))) before after
    of-left f wrote = behind _ (subst (λ (e : End). Writes (f (image_bytes tables (held_image e.client))) mid after) (sym by.is) wrote)

    pub saves-only : (has_image ending ≡ true) × Writes (image_bytes tables (held_image left.client)) mid after → SavesOnly Writes Steady words tables ahead old new before after
    saves-only (done, wrote) = record { ending = ending; done = done; middle = mid; ran = by.ran; image = of-left (λ bytes. bytes) wrote }

  pub saves-of : (e : Ending) → EndsQuietly tables left ending mid after e → Saves Steady words tables ahead e old new before after
  saves-of e (is, wrote) =
      subst (λ e. Saves Steady words tables ahead e old new before after) is
      (record { middle = mid; ran = by.ran; image = of-left WritesAll (λ bytes. writes-all-behind before mid after bytes still) (λ bytes. if has_image ending then bytes else []) wrote })

  pub stops-of : (why : Stop) → StopsQuietly tables left ending mid after why → SaveStops Steady words tables ahead old new before after why
  stops-of = stops-map (EndsQuietly tables left ending mid after) (λ e. Saves Steady words tables ahead e old new before after)
      ((has_image ending ≡ true) × WritesPart (image_bytes tables (held_image left.client)) mid after) (SavesOnly WritesPart Steady words tables ahead old new before after)
      ((has_image ending ≡ true) × WritesOff (image_bytes tables (held_image left.client)) mid after) (Untouched old new before after ⊎ SavesOff Steady words tables ahead old new before after)
      ⊥ ⊥ ⊥ ⊥ (λ line place. ⊥) (λ line place. ⊥) (λ line fault. ⊥) (λ line fault. ⊥) saves-of (saves-only WritesPart (λ bytes. writes-part-behind before mid after bytes still))
      (λ off. inr (inr (saves-only WritesOff (λ bytes. writes-off-behind before mid after bytes still) off))) (λ none. none) (λ none. none) (λ line place none. none) (λ line fault none. none)

-- what is so over a host that was steady is so over one that was steady before
module _ (Steady Later : Type 0) (later : Steady → Later) where
  saves-later : (words : ClientWords) (tables : List Table) (ahead : Ahead) (ending : Ending) (old new : Linking) (before after : Writing) → Saves Later words tables ahead ending old new before after → Saves Steady words tables ahead ending old new before after
  saves-later words tables ahead ending old new before after s =
      record { middle = s.middle; ran = record { run = s.ran.run; steady_links = λ z. s.ran.steady_links (later z) }; image = s.image }

  saves-only-later : (Writes : List ℕ → Writing → Writing → Type 0) (words : ClientWords) (tables : List Table) (ahead : Ahead) (old new : Linking) (before after : Writing) → SavesOnly Writes Later words tables ahead old new before after → SavesOnly Writes Steady words tables ahead old new before after
  saves-only-later Writes words tables ahead old new before after s =
      record { ending = s.ending; done = s.done; middle = s.middle; ran = record { run = s.ran.run; steady_links = λ z. s.ran.steady_links (later z) }; image = s.image }

  saves-off-later : (words : ClientWords) (tables : List Table) (ahead : Ahead) (old new : Linking) (before after : Writing) → SavesOff Later words tables ahead old new before after → SavesOff Steady words tables ahead old new before after
  saves-off-later words tables ahead old new before after (inl none) = inl none
  saves-off-later words tables ahead old new before after (inr only) = inr (saves-only-later WritesOff words tables ahead old new before after only)

  warms-later : (words : ClientWords) (tables : List Table) (ahead : Ahead) (bytes : List ℕ) (ending : Ending) (old new : Linking) (before after : Writing) → Warms Later words tables ahead bytes ending old new before after → Warms Steady words tables ahead bytes ending old new before after
  warms-later words tables ahead bytes ending old new before after w =
      record { starts = w.starts; middle = w.middle; said = w.said; left = w.left; ran = record { to = w.ran.to; steady_links = λ z. w.ran.steady_links (later z) } }

  warms-unwritten-later : (words : ClientWords) (tables : List Table) (ahead : Ahead) (bytes : List ℕ) (old new : Linking) (before after : Writing) → WarmsUnwritten Later words tables ahead bytes old new before after → WarmsUnwritten Steady words tables ahead bytes old new before after
  warms-unwritten-later words tables ahead bytes old new before after (inl w) = inl (warms-later words tables ahead bytes Unwritten old new before after w)
  warms-unwritten-later words tables ahead bytes old new before after (inr only) = inr only

-- an image is written behind a run that ended so, or none is
pub wrote-left : (bytes : List ℕ) (ending : Ending) (before after : Writing) (result : Result (Unit {0}) (No Failed)) → has_image ending ≡ true → Wrote bytes before after result → WroteLeft bytes ending before after result
wrote-left bytes ending before after (Ok done) is wrote = subst (λ b. WritesAll (if b then bytes else []) before after) (sym is) wrote
wrote-left bytes ending before after (Err (NoBut failed)) is wrote = (is, wrote)
wrote-left bytes ending before after (Err Wanting) is wrote = (is, wrote)

pub wrote-none : (bytes : List ℕ) (ending : Ending) (w : Writing) → has_image ending ≡ false → WritesAll (if has_image ending then bytes else []) w w
wrote-none bytes ending w is = subst (λ b. WritesAll (if b then bytes else []) w w) (sym is) (writes-none w)

-- where all is written, a run stops for what ended it
pub quietly-stopped : (tables : List Table) (left : End) (ending : Ending) (before after : Writing) (why : Stop) → ending_of why ≡ Some ending → ending ≢ Unwritten → WritesAll (bytes_left tables left ending) before after
    → StopsQuietly tables left ending before after why
quietly-stopped tables left ending before after (stop.Refused refusal.Read) is quiet wrote = absurd cc
quietly-stopped tables left ending before after (stop.Refused refusal.Write) is quiet wrote = absurd (quiet (let same : Some Unwritten ≡ Some ending = is in cc))
quietly-stopped tables left ending before after (stop.Refused refusal.Link) is quiet wrote = ((let same : Some Faulty ≡ Some ending = is in cc), wrote)
quietly-stopped tables left ending before after (stop.Refused refusal.Memory) is quiet wrote = absurd cc
quietly-stopped tables left ending before after (stop.Refused refusal.TooLong) is quiet wrote = absurd cc
quietly-stopped tables left ending before after (stop.Refused (refusal.Line line place)) is quiet wrote = absurd cc
quietly-stopped tables left ending before after (stop.Refused (refusal.Setup line fault)) is quiet wrote = absurd cc
quietly-stopped tables left ending before after (stop.Refused (refusal.Load table fault)) is quiet wrote = absurd cc
quietly-stopped tables left ending before after (stop.Spoiled fault) is quiet wrote = ((let same : Some (Spoiled fault) ≡ Some ending = is in cc), wrote)
quietly-stopped tables left ending before after (stop.Bad why) is quiet wrote = ((let same : Some (BadMessage why) ≡ Some ending = is in cc), wrote)
quietly-stopped tables left ending before after stop.Limit is quiet wrote = ((let same : Some TooMany ≡ Some ending = is in cc), wrote)

-- over files that were read
module _ (held : List ℕ → Option (List ℕ)) (words : ClientWords) where
  pub asked-map : {D E : List Table → Ahead → Type 0} → ((tables : List Table) (ahead : Ahead) → D tables ahead → E tables ahead) → Asked held words D → Asked held words E
  asked-map {D} {E} f a = record { schema = a.schema; script = a.script; files = a.files; tables = a.tables; ahead = a.ahead; asks = a.asks; did = f a.tables a.ahead a.did }

  -- what came ended the run, and there was no memory to say so
  pub saved-off : (Steady : Type 0) (old new : Linking) (before after : Writing) (ending : Ending) → is_unwritten ending ≡ false → has_image ending ≡ false → Saved Steady held words old new before after ending → SavedOff Steady held words old new before after
  saved-off Steady old new before after ending each none saved = inr (asked-map (λ tables ahead saves. inl (saves-in-part Steady words tables ahead ending old new before after each none saves)) saved)

  pub asked-stops : (Steady : Type 0) (schema script : List ℕ) → AreFiles held words schema script → (tables : List Table) (ahead : Ahead) → AsksLines words.id schema script tables ahead → (old new : Linking) (before after : Writing)
      → (why : Stop) → SaveStops Steady words tables ahead old new before after why → SaveStopsFiles Steady held words old new before after why
  asked-stops Steady schema script files tables ahead asks old new before after =
      stops-map (λ e. Saves Steady words tables ahead e old new before after) (Saved Steady held words old new before after)
      (SavesOnly WritesPart Steady words tables ahead old new before after) (SavedInPart Steady held words old new before after)
      (Untouched old new before after ⊎ SavesOff Steady words tables ahead old new before after) (SavedOff Steady held words old new before after)
      ⊥ ⊥ ⊥ ⊥ (λ line place. ⊥) (OutsideDid held words old new before after) (λ line fault. ⊥) (CreateDid held words old new before after)
      (λ e. asked (λ t a. Saves Steady words t a e old new before after)) (asked (λ t a. SavesOnly WritesPart Steady words t a old new before after))
      (or-map (Untouched old new before after) (SavesOff Steady words tables ahead old new before after) (Asked held words (λ t a. SavesOff Steady words t a old new before after)) (asked (λ t a. SavesOff Steady words t a old new before after)))
      (λ none. none) (λ none. none) (λ line place none. absurd none) (λ line fault none. absurd none)
    where
      asked : (D : List Table → Ahead → Type 0) → D tables ahead → Asked held words D
      asked D did = record { schema = schema; script = script; files = files; tables = tables; ahead = ahead; asks = asks; did = did }

-- ---- files that are not set up

pub unset-as : (E : Ending → Type 0) (P X : Type 0) (held : List ℕ → Option (List ℕ)) (words : ClientWords) (schema script : List ℕ) (no : No ClientFault) (l : Linking) (w : Writing) → AreFiles held words schema script
    → ((line place : ℕ) → no ≡ NoBut (setup.Line line place) → script_outside (fault_by words) schema script ≡ Some (record { line = line; place = place }))
    → ((line : ℕ) (why : Fault) → no ≡ NoBut (setup.Create line why) → Refuses (fault_by words) schema script line why)
    → StopsAs E P (Untouched l l w w ⊎ X) ⊥ ⊥ (OutsideDid held words l l w w) (CreateDid held words l l w w) (stop_of no)
unset-as E P X held words schema script Wanting l w files line create = inl (record { linking = refl; writing = refl })
unset-as E P X held words schema script (NoBut (setup.Line at place)) l w files line create =
    (record { schema = schema; script = script; files = files; first = line at place refl }, record { linking = refl; writing = refl })
unset-as E P X held words schema script (NoBut (setup.Create at why)) l w files line create =
    (record { schema = schema; script = script; files = files; refuses = create at why refl }, record { linking = refl; writing = refl })

-- and no line was to be written
pub unset-never : {T : Type 0} (no : No ClientFault) → IsErrOf {T = T} (Err (stop_of no)) (stop.Refused refusal.Write) → ⊥
unset-never {T} Wanting is = cc
unset-never {T} (NoBut (setup.Line at place)) is = cc
unset-never {T} (NoBut (setup.Create at why)) is = cc

pub unset-never-warm : {T : Type 0} (no : No ClientFault) → IsErrOf {T = T} (Err (warm_stop.Stopped (stop_of no))) (warm_stop.Stopped (stop.Refused refusal.Write)) → ⊥
unset-never-warm {T} Wanting is = cc
unset-never-warm {T} (NoBut (setup.Line at place)) is = cc
unset-never-warm {T} (NoBut (setup.Create at why)) is = cc

pub same-stop : {T U : Type 0} (why : Stop) {other : Stop} → IsErrOf {T = T} (Err (warm_stop.Stopped why)) (warm_stop.Stopped other) → IsErrOf {T = U} (Err why) other
same-stop {T} {U} why {other} is = let same : why ≡ other = cc in ap Err same

-- ---- over a host

module _ (H : Type 0) (reading : H → Reading) (writing : H → Writing) (linking : H → Linking) (held : List ℕ → Option (List ℕ)) (words : ClientWords) (E : Ending → Type 0) (P W : Type 0) where
  -- what a stop counts, behind the reading of files
  pub counts-stop : (old mid new : H) → (P → Rose (writing mid).faults (writing new).faults) → (reading mid).faults ≡ (reading old).faults → reading new ≡ reading mid → writing mid ≡ writing old → linking mid ≡ linking old
      → (why : Stop) → StopsAs E P W ⊥ ⊥ (OutsideDid held words (linking mid) (linking new) (writing mid) (writing new)) (CreateDid held words (linking mid) (linking new) (writing mid) (writing new)) why
      → CountsStop H reading writing linking old new (Err why)
  counts-stop old mid new rose faults read write link = by
    where
      same : (reading new).faults ≡ (reading old).faults
      same = ap (λ (r : Reading). r.faults) read ∙ faults

      nothing : Untouched (linking mid) (linking new) (writing mid) (writing new) → DidNothing H writing linking old new
      nothing none = record { writing_stays = none.writing ∙ write; linking_stays = none.linking ∙ link }

      by : (why : Stop) → StopsAs E P W ⊥ ⊥ (OutsideDid held words (linking mid) (linking new) (writing mid) (writing new)) (CreateDid held words (linking mid) (linking new) (writing mid) (writing new)) why
          → CountsStop H reading writing linking old new (Err why)
      by (stop.Refused refusal.Read) stops = absurd stops
      by (stop.Refused refusal.TooLong) stops = absurd stops
      by (stop.Refused refusal.Write) stops = (subst (λ (x : Writing). Rose x.faults (writing new).faults) write (rose stops), same)
      by (stop.Refused refusal.Link) stops = same
      by (stop.Refused refusal.Memory) stops = same
      by (stop.Refused (refusal.Line line place)) stops = (nothing stops.1, same)
      by (stop.Refused (refusal.Setup line fault)) stops = (nothing stops.1, same)
      by (stop.Refused (refusal.Load table fault)) stops = absurd stops
      by (stop.Spoiled fault) stops = same
      by (stop.Bad why) stops = same
      by stop.Limit stops = same

  -- the same of results
  pub counts-result : (old mid new : H) → (P → Rose (writing mid).faults (writing new).faults) → (reading mid).faults ≡ (reading old).faults → reading new ≡ reading mid → writing mid ≡ writing old → linking mid ≡ linking old
      → (result : Result (Unit {0}) Stop) → IfErr result (StopsAs E P W ⊥ ⊥ (OutsideDid held words (linking mid) (linking new) (writing mid) (writing new)) (CreateDid held words (linking mid) (linking new) (writing mid) (writing new)))
      → CountsStop H reading writing linking old new result
  counts-result old mid new rose faults read write link (Ok done) stops = ap (λ (r : Reading). r.faults) read ∙ faults
  counts-result old mid new rose faults read write link (Err why) stops = counts-stop old mid new rose faults read write link why stops

pub counts-saved : (Steady H : Type 0) (reading : H → Reading) (writing : H → Writing) (linking : H → Linking) (held : List ℕ → Option (List ℕ)) (words : ClientWords) (old mid new : H)
    → (reading mid).faults ≡ (reading old).faults → reading new ≡ reading mid → writing mid ≡ writing old → linking mid ≡ linking old
    → (result : Result (Unit {0}) Stop) → IfErr result (SaveStopsFiles Steady held words (linking mid) (linking new) (writing mid) (writing new)) → CountsStop H reading writing linking old new result
counts-saved Steady H reading writing linking held words old mid new =
    counts-result H reading writing linking held words (Saved Steady held words (linking mid) (linking new) (writing mid) (writing new)) (SavedInPart Steady held words (linking mid) (linking new) (writing mid) (writing new))
    (SavedOff Steady held words (linking mid) (linking new) (writing mid) (writing new)) old mid new (λ (part : SavedInPart Steady held words (linking mid) (linking new) (writing mid) (writing new)). part.did.image.1)

-- files that were read are those of the names
pub saved-later : (Steady Later : Type 0) (later : Steady → Later) (held : List ℕ → Option (List ℕ)) (words : ClientWords) (old new : Linking) (before after : Writing) (ending : Ending)
    → Saved Later held words old new before after ending → Saved Steady held words old new before after ending
saved-later Steady Later later held words old new before after ending saved = asked-map held words (λ t a s. saves-later Steady Later later words t a ending old new before after s) saved

pub stops-over : (Steady Later : Type 0) (later : Steady → Later) (held : List ℕ → Option (List ℕ)) (words : ClientWords) (left : Option (List ℕ)) (old new : Linking) (before after : Writing) (why : Stop)
    → SaveStopsFiles Later held words old new before after why → SaveStopsOver Steady held words left old new before after why
stops-over Steady Later later held words left old new before after =
    stops-map (Saved Later held words old new before after) (Saved Steady held words old new before after) (SavedInPart Later held words old new before after) (SavedInPart Steady held words old new before after)
    (SavedOff Later held words old new before after) (SavedOff Steady held words old new before after) ⊥ (Unit {0}) ⊥ (SomeTooLong held left (files_of words))
    (OutsideDid held words old new before after) (IsOutside held words) (CreateDid held words old new before after) (IsRefusedCreate held words)
    (λ e saved. saved-later Steady Later later held words old new before after e saved)
    (λ part. asked-map held words (λ t a s. saves-only-later Steady Later later WritesPart words t a old new before after s) part)
    (or-map (Untouched old new before after) (Asked held words (λ t a. SavesOff Later words t a old new before after)) (Asked held words (λ t a. SavesOff Steady words t a old new before after))
    (λ off. asked-map held words (λ t a s. saves-off-later Steady Later later words t a old new before after s) off))
    (λ none. absurd none) (λ none. absurd none) (λ line place did. did.0) (λ line fault did. did.0)

-- ---- what `warm` does

-- where each line was written, a run stops for what ended it
pub stops-ended : (E : Ending → Type 0) (W : Type 0) (O : ℕ → ℕ → Type 0) (C : ℕ → Fault → Type 0) (ending : Ending) (why : Stop) → ending_of why ≡ Some ending → E ending → StopsAs E (E Unwritten) W ⊥ ⊥ O C why
stops-ended E W O C ending (stop.Refused refusal.Read) is ended = absurd cc
stops-ended E W O C ending (stop.Refused refusal.Write) is ended = subst E (let same : Some Unwritten ≡ Some ending = is in let e : ending ≡ Unwritten = cc in e) ended
stops-ended E W O C ending (stop.Refused refusal.Link) is ended = subst E (let same : Some Faulty ≡ Some ending = is in let e : ending ≡ Faulty = cc in e) ended
stops-ended E W O C ending (stop.Refused refusal.Memory) is ended = absurd cc
stops-ended E W O C ending (stop.Refused refusal.TooLong) is ended = absurd cc
stops-ended E W O C ending (stop.Refused (refusal.Line line place)) is ended = absurd cc
stops-ended E W O C ending (stop.Refused (refusal.Setup line fault)) is ended = absurd cc
stops-ended E W O C ending (stop.Refused (refusal.Load table fault)) is ended = absurd cc
stops-ended E W O C ending (stop.Spoiled fault) is ended = subst E (let same : Some (Spoiled fault) ≡ Some ending = is in let e : ending ≡ Spoiled fault = cc in e) ended
stops-ended E W O C ending (stop.Bad why) is ended = subst E (let same : Some (BadMessage why) ≡ Some ending = is in let e : ending ≡ BadMessage why = cc in e) ended
stops-ended E W O C ending stop.Limit is ended = subst E (let same : Some TooMany ≡ Some ending = is in let e : ending ≡ TooMany = cc in e) ended

module _ (words : ClientWords) (tables : List Table) (ahead : Ahead) (bytes text : List ℕ) (end : End) (by : BeginsAs words tables bytes text end) where
  abbrev pub past : session.Client
  past = past_of_start by.starts

  pub start-schema : end.client.schema ≡ tables
  start-schema = ap (λ (e : End). e.client.schema) by.end_is ∙ ap (λ (c : Client). c.schema) by.starts.is.client

  -- it can draw enough numbers for so many jobs
  pub start-room : (jobs : ℕ) → jobs < 2 ^ 40 → 4000004 * (jobs + 1) ≤ room_of end.client
  start-room jobs few = subst (λ (e : End). 4000004 * (jobs + 1) ≤ room_of e.client) (sym by.end_is) (subst (λ (c : Client). 4000004 * (jobs + 1) ≤ room_of c) (sym by.starts.is.client) (omega (arith, few)))

  pub start-fresh : end.answer ≡ None
  start-fresh = ap (λ (e : End). e.answer) by.end_is

  pub start-stands : StandsFor past end.client
  start-stands = subst (λ (e : End). StandsFor past e.client) (sym by.end_is) by.starts.is.stands

  module _ (Steady Later : Type 0) (later : Steady → Later) (old new : Linking) (before mid after : Writing) (left : End) where
    abbrev pub RunsOn : Ending → Type 0
    RunsOn ending = RanSteadilyFrom Later end past words.address (Next 0 (Do Resumed) ahead) ending old new mid after left

    abbrev pub BreaksOn : Type 0
    BreaksOn = RanOff end past words.address (Next 0 (Do Resumed) ahead) old new mid after

    said-of : WritesAll text before mid → WritesAll (text_of_start by.starts) before mid
    said-of said = subst (λ bs. WritesAll bs before mid) by.text_is said

    pub warms-of : WritesAll text before mid → (ending : Ending) → RunsOn ending → Warms Steady words tables ahead bytes ending old new before after
    warms-of said ending ran = record {
      starts = by.starts;
      middle = mid;
      said = said-of said;
      left = left;
      ran = subst (λ (e : End). RanSteadilyFrom Steady e past words.address (Next 0 (Do Resumed) ahead) ending old new mid after left) by.end_is
          (record { to = ran.to; steady_links = λ z. ran.steady_links (later z) });
    }

    pub warms-off : WritesAll text before mid → BreaksOn → WarmsInPart words tables ahead bytes old new before after
    warms-off said off = record {
      starts = by.starts;
      middle = mid;
      said = said-of said;
      ran = subst (λ (e : End). RanOff e past words.address (Next 0 (Do Resumed) ahead) old new mid after) by.end_is off;
    }

    abbrev pub StopsThere : Stop → Type 0
    StopsThere why = StopsAs RunsOn (RunsOn Unwritten) BreaksOn ⊥ ⊥ (λ line place. ⊥) (λ line fault. ⊥) why

    pub warms-stopped : WritesAll text before mid → (why : Stop) → StopsThere why → WarmStops Steady words tables ahead bytes old new before after why
    warms-stopped said =
        stops-map RunsOn (λ e. Warms Steady words tables ahead bytes e old new before after) (RunsOn Unwritten) (WarmsUnwritten Steady words tables ahead bytes old new before after)
        BreaksOn (Untouched old new before after ⊎ WarmsOff words tables ahead bytes old new before after) ⊥ ⊥ ⊥ ⊥ (λ line place. ⊥) (λ line place. ⊥) (λ line fault. ⊥) (λ line fault. ⊥)
        (λ e ran. warms-of said e ran) (λ ran. inl (warms-of said Unwritten ran)) (λ off. inr (inl (warms-off said off))) (λ none. none) (λ none. none) (λ line place none. none) (λ line fault none. none)

  -- its lines were not written
  pub warms-only : (Writes : List ℕ → Writing → Writing → Type 0) (old new : Linking) (before after : Writing) → new ≡ old → Writes text before after → WarmsOnly Writes words tables ahead bytes old new before after
  warms-only Writes old new before after same said = record { starts = by.starts; said = subst (λ bs. Writes bs before after) by.text_is said; linking = same }

-- a run that ended so did no more than one that was broken off
pub warms-in-part : (Steady : Type 0) (words : ClientWords) (tables : List Table) (ahead : Ahead) (bytes : List ℕ) (ending : Ending) (old new : Linking) (before after : Writing) → is_unwritten ending ≡ false
    → Warms Steady words tables ahead bytes ending old new before after → WarmsInPart words tables ahead bytes old new before after
warms-in-part Steady words tables ahead bytes ending old new before after each warms = record {
  starts = warms.starts;
  middle = warms.middle;
  said = warms.said;
  ran = run_in_part (end_of_start warms.starts) warms.left (past_of_start warms.starts) words.address (Next 0 (Do Resumed) ahead) ending old new warms.middle after each warms.ran.to;
}

module _ (held : List ℕ → Option (List ℕ)) (words : WarmWords) where
  pub over-map : {D E : List Table → Ahead → List ℕ → Type 0} → ((tables : List Table) (ahead : Ahead) (bytes : List ℕ) → D tables ahead bytes → E tables ahead bytes) → AskedOver held words D → AskedOver held words E
  over-map {D} {E} f a = record { image = a.image; image_read = a.image_read; asked = asked-map held words.client (λ tables ahead did. f tables ahead a.image did) a.asked }

  pub warmed-off : (Steady : Type 0) (old new : Linking) (before after : Writing) (ending : Ending) → is_unwritten ending ≡ false → Warmed Steady held words old new before after ending → WarmedOff held words old new before after
  warmed-off Steady old new before after ending each warmed = inr (over-map (λ tables ahead bytes warms. inl (warms-in-part Steady words.client tables ahead bytes ending old new before after each warms)) warmed)

  pub warm-asked : (schema script bytes : List ℕ) → AreFiles held words.client schema script → IsWhatIsHeld (held words.image) bytes → (tables : List Table) (ahead : Ahead) → AsksLines words.client.id schema script tables ahead
      → (D : List Table → Ahead → List ℕ → Type 0) → D tables ahead bytes → AskedOver held words D
  warm-asked schema script bytes files image tables ahead asks D did =
      record { image = bytes; image_read = image; asked = record { schema = schema; script = script; files = files; tables = tables; ahead = ahead; asks = asks; did = did } }

  pub warm-stops : (Steady : Type 0) (schema script bytes : List ℕ) → AreFiles held words.client schema script → IsWhatIsHeld (held words.image) bytes → (tables : List Table) (ahead : Ahead) → AsksLines words.client.id schema script tables ahead
      → (old new : Linking) (before after : Writing) (why : Stop) → WarmStops Steady words.client tables ahead bytes old new before after why → WarmStopsFiles Steady held words old new before after (warm_stop.Stopped why)
  warm-stops Steady schema script bytes files image tables ahead asks old new before after =
      stops-map (λ e. Warms Steady words.client tables ahead bytes e old new before after) (Warmed Steady held words old new before after)
      (WarmsUnwritten Steady words.client tables ahead bytes old new before after) (WarmedInPart Steady held words old new before after)
      (Untouched old new before after ⊎ WarmsOff words.client tables ahead bytes old new before after) (WarmedOff held words old new before after)
      ⊥ ⊥ ⊥ ⊥ (λ line place. ⊥) (OutsideDid held words.client old new before after) (λ line fault. ⊥) (CreateDid held words.client old new before after)
      (λ e. warm-asked schema script bytes files image tables ahead asks (λ t a b. Warms Steady words.client t a b e old new before after))
      (warm-asked schema script bytes files image tables ahead asks (λ t a b. WarmsUnwritten Steady words.client t a b old new before after))
      (or-map (Untouched old new before after) (WarmsOff words.client tables ahead bytes old new before after) (AskedOver held words (λ t a b. WarmsOff words.client t a b old new before after))
      (warm-asked schema script bytes files image tables ahead asks (λ t a b. WarmsOff words.client t a b old new before after)))
      (λ none. none) (λ none. none) (λ line place none. absurd none) (λ line fault none. absurd none)

  -- files that were read are those of the names
  pub warmed-later : (Steady Later : Type 0) (later : Steady → Later) (old new : Linking) (before after : Writing) (ending : Ending) → Warmed Later held words old new before after ending → Warmed Steady held words old new before after ending
  warmed-later Steady Later later old new before after ending warmed = over-map (λ t a b w. warms-later Steady Later later words.client t a b ending old new before after w) warmed

  pub warm-over : (Steady Later : Type 0) (later : Steady → Later) (left : Option (List ℕ)) (old new : Linking) (before after : Writing) (why : WarmStop) → WarmStopsFiles Later held words old new before after why → WarmStopsOver Steady held words left old new before after why
  warm-over Steady Later later left old new before after (warm_stop.NoImage fault) did = did
  warm-over Steady Later later left old new before after (warm_stop.Stopped why) did =
      stops-map (Warmed Later held words old new before after) (Warmed Steady held words old new before after) (WarmedInPart Later held words old new before after) (WarmedInPart Steady held words old new before after)
      (WarmedOff held words old new before after) (WarmedOff held words old new before after) ⊥ (Unit {0}) ⊥ (SomeTooLong held left (names_of words))
      (OutsideDid held words.client old new before after) (IsOutside held words.client) (CreateDid held words.client old new before after) (IsRefusedCreate held words.client)
      (λ e warmed. warmed-later Steady Later later old new before after e warmed)
      (λ part. over-map (λ t a b w. warms-unwritten-later Steady Later later words.client t a b old new before after w) part)
      (λ off. off) (λ none. absurd none) (λ none. absurd none) (λ line place d. d.0) (λ line fault d. d.0) why did

-- what was not written counts as a fault
unwritten-counts : (Steady : Type 0) (held : List ℕ → Option (List ℕ)) (words : WarmWords) (old new : Linking) (before after : Writing) → WarmedInPart Steady held words old new before after → Rose before.faults after.faults
unwritten-counts Steady held words old new before after part = by part.asked.did
  where
    by : {tables : List Table} {ahead : Ahead} {bytes : List ℕ} → WarmsUnwritten Steady words.client tables ahead bytes old new before after → Rose before.faults after.faults
    by {tables} {ahead} {bytes} (inl warms) = subst (λ n. Rose n after.faults) warms.said.1 (warms.ran.to.run.ran.writes.2)
    by {tables} {ahead} {bytes} (inr only) = only.said.1

pub counts-warmed : (Steady H : Type 0) (reading : H → Reading) (writing : H → Writing) (linking : H → Linking) (held : List ℕ → Option (List ℕ)) (words : WarmWords) (old mid new : H)
    → (reading mid).faults ≡ (reading old).faults → reading new ≡ reading mid → writing mid ≡ writing old → linking mid ≡ linking old
    → (result : Result (Unit {0}) WarmStop) → IfErr result (WarmStopsFiles Steady held words (linking mid) (linking new) (writing mid) (writing new)) → CountsWarm H reading writing linking old new result
counts-warmed Steady H reading writing linking held words old mid new faults read write link (Ok done) stops = ap (λ (r : Reading). r.faults) read ∙ faults
counts-warmed Steady H reading writing linking held words old mid new faults read write link (Err (warm_stop.NoImage fault)) stops = ap (λ (r : Reading). r.faults) read ∙ faults
counts-warmed Steady H reading writing linking held words old mid new faults read write link (Err (warm_stop.Stopped why)) stops =
    counts-stop H reading writing linking held words.client (Warmed Steady held words (linking mid) (linking new) (writing mid) (writing new)) (WarmedInPart Steady held words (linking mid) (linking new) (writing mid) (writing new))
    (WarmedOff held words (linking mid) (linking new) (writing mid) (writing new)) old mid new (unwritten-counts Steady held words (linking mid) (linking new) (writing mid) (writing new)) faults read write link why stops

-- what is read as an image is one
pub image-whole : (schema : List Table) (bytes : List ℕ) (result : Result Image (No ImageFault)) → IsTrue (are_bytes bytes) → Answers result (image_in schema bytes) → IfOk result (λ image. IsTrue (is_image schema image))
image-whole schema bytes (Ok image) fit is = (was-spelled schema bytes image fit is).1
image-whole schema bytes (Err (NoBut fault)) fit is = tt
image-whole schema bytes (Err Wanting) fit is = tt
