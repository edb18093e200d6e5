-- Runs, by what ended them.
use Rattle.std.proofs.Common.{◌≡◌, ℕ, ◌+◌, Bool, true, false, eqb, List, [], ◌∷◌, ◌++◌, take, drop, Option, Some, None, option_map, option_to_list, arith, inl, inr, ◌⊎◌, append-nil, refl, sym, ◌∙◌, ap, subst}
use Rattle.std.specs.Prelude.{◌≢◌, Err, IfSome, IsErrOf}
use Rattle.sr_cell.specs.declared.list.No.TheVariants.{Refused}
use Rattle.std.specs.Io.KnownBytes.{Appends}
use Rattle.std.specs.List.{All}
use Rattle.std.proofs.lemmas.Bool.Decides.{nat_tests}
use Rattle.std.proofs.lemmas.Grind.{flat_map-append}
use Rattle.std.proofs.lemmas.List.{take-append-drop}
use Rattle.std.proofs.lemmas.List.Elements.{All-nil, All-weaker}
use Rattle.sr_io.specs.Causes.{Rose}
use Rattle.sr_io.specs.Pieces.{WritesPrefix}
use Rattle.sr_io.specs.Told.{Linking, Writing, Connection, AreAt, connections, docked_at, OnlyFaults}
use Rattle.sr_io.proofs.SoFar.{Appends-append}
use Rattle.sr_serve.specs.ServerEnds.{IsEnd}
use Rattle.sr_serve.specs.declared.server_end.ServerEnd.{ServerEnd}
use Rattle.sr_session.specs.Sessions.{Database}
use Rattle.sr_server.specs.Servers.{Gives, IsServer}
use Rattle.sr_server.specs.declared.server.Server.{Server}
use Rattle.sr_talk.specs.Rounds.{EndsBy, EndsWhole, EndsFaulty, EndsInPart, EndsUnwritten, at_rest, text_of}
use Rattle.sr_talk.specs.Serving.{AreExecuted, AreTold, Conversation, RoseBy, ServedInPart, Writes, all_told, connection_lines, count_faults, listening, missing}
use Rattle.sr_talk.specs.declared.rounds.Ending.{Ending}
use Rattle.sr_talk.specs.declared.rounds.Ending.TheVariants.{Whole, Faulty, Unwritten}
use Rattle.sr_talk.proofs.RoundLemmas.{none-told}
use Rattle.sr_talk.proofs.SomeLemmas.{appends-nothing, none-written as none-written-of, prefix-behind}
use Rattle.sr_serve.specs.Execs.{AllExecuted, ExecutesInPart, PartExecuted}
use Rattle.sr_serve.specs.Runs.{Ran, RanInPart}
use Rattle.sr_serve.proofs.ExecLemmas.{prefix-of-more, some-way}

-- ---- what is written

abbrev lines_of : List (List ℕ) → List Conversation → List (List ℕ)
lines_of exec_lines cs = listening ∷ exec_lines ++ connection_lines 1 cs

text-is : (exec_lines : List (List ℕ)) (cs : List Conversation) → text_of (lines_of exec_lines cs) ≡ listening ++ (text_of exec_lines ++ text_of (connection_lines 1 cs))
text-is exec_lines cs = ap (λ x. listening ++ x) (flat_map-append (λ line. line) exec_lines (connection_lines 1 cs))

all-written : (status : ℕ) (lines : List (List ℕ)) → Writes status lines (text_of lines)
all-written status lines = record {
  some = lines;
  more = [];
  are = sym (append-nil lines);
  beginning = record { rest = []; all = sym (append-nil (text_of lines)) };
  all = λ is. (refl, refl);
  whole = λ is. refl;
}

none-written : (lines : List (List ℕ)) → Writes 5 lines []
none-written lines = record {
  some = [];
  more = lines;
  are = refl;
  beginning = record { rest = text_of lines; all = refl };
  all = λ is. absurd (omega (arith, is));
  whole = λ is. refl;
}

part-written : (status : ℕ) (lines : List (List ℕ)) (count : ℕ) → status ≢ 0 → status ≢ 5 → Writes status lines (take count (text_of lines))
part-written status lines count not_whole not_faulty = record {
  some = [];
  more = lines;
  are = refl;
  beginning = record { rest = drop count (text_of lines); all = sym (take-append-drop count (text_of lines)) };
  all = λ is. absurd (not_whole is);
  whole = λ is. absurd (not_faulty is);
}

a-line-is-short : (lines : List (List ℕ)) (count : ℕ) → Writes 4 lines (take count (text_of lines))
a-line-is-short lines count = part-written 4 lines count (λ is. absurd (omega (arith, is))) (λ is. absurd (omega (arith, is)))

out-of-memory : (lines : List (List ℕ)) (count : ℕ) → Writes 9 lines (take count (text_of lines))
out-of-memory lines count = part-written 9 lines count (λ is. absurd (omega (arith, is))) (λ is. absurd (omega (arith, is)))

-- ---- the link

-- after docking, what was made at the docked address was made at this one
at-address : (address : List ℕ) (old : Linking) (made : List Connection) → All (λ t. (docked_at address old).docked ≡ Some t.address) made → AreAt address made
at-address address old made at = All-weaker (λ t. (docked_at address old).docked ≡ Some t.address) (λ t. t.address ≡ address) (λ t. by old.docked t) made at
  where
    by : (docked : Option (List ℕ)) (t : Connection) → option_map (λ before. address) docked ≡ Some t.address → t.address ≡ address
    by None t is = absurd (cc)
    by (Some before) t is = cc

none-at : (address : List ℕ) → AreAt address []
none-at address = All-nil (λ t. t.address ≡ address)

-- docking keeps the peers, and tells the address just where one was told before
told-before : (address : List ℕ) (old : Linking) (cs : List Conversation) → AreTold (docked_at address old) cs → AreTold old cs
told-before address old cs told = by old.docked told
  where
    by : (docked : Option (List ℕ)) → IfSome (option_map (λ before. address) docked) (λ at. IfSome old.peers (λ peers. All (λ (c : Conversation). c.told ≢ None) cs))
        → IfSome docked (λ at. IfSome old.peers (λ peers. All (λ (c : Conversation). c.told ≢ None) cs))
    by None told = tt
    by (Some before) told = told

same-connections : (old new : Linking) → OnlyFaults old new → connections new ≡ connections old
same-connections old new only =
    ap (λ past. past ++ Rattle.std.specs.Prelude.option_to_list new.present) only.past ∙ ap (λ present. old.past ++ Rattle.std.specs.Prelude.option_to_list present) only.present

-- ---- how it ends

module _ (db : Database) (texts : List (List ℕ)) (address : List ℕ) (count : ℕ) where
  -- nothing can dock
  pub undocked : (old new : Linking) (before after : Writing) → OnlyFaults old new → Rose old.faults new.faults → after ≡ before → Ran db texts address count Faulty old new before after
  undocked old new before after only rose same =
      let way = some-way db texts in
      record {
        written = [];
        appended = subst (λ (w : Writing). Appends before.written w.written []) (sym same) (appends-nothing before.written);
        served = record {
          exec_lines = way.lines;
          first = way.last;
          conversations = [];
          last = way.last;
          executed = way.executed;
          served = refl;
          made = same-connections old new only ∙ sym (append-nil (connections old));
          came_at = none-at address;
          each_told = none-told old;
          hung_up = λ some. absurd (some refl);
          writes = none-written (lines_of way.lines []);
          few = omega arith;
          all = λ is. absurd (omega (arith, is));
          counted = omega (arith, rose);
          quiet = λ is. absurd (omega (arith, is));
        };
        sound = λ some. absurd (some refl);
        link_fault_is_counted = λ is. rose;
        write_fault_is_counted = λ wrong. absurd (cc);
        writing_keeps_faults = λ is. ap (λ (w : Writing). w.faults) same;
      }

  -- a line is not written: `listening`, or one of the exec file
  stopped : (old : Linking) (before after : Writing) (lines : List (List ℕ)) (last : Database) → AreExecuted Gives db texts lines last
      → WritesPrefix before.written after.written (text_of (lines_of lines [])) → Rose before.faults after.faults → Ran db texts address count Unwritten old (docked_at address old) before after
  stopped old before after lines last executed written rose = record {
    written = take written.count (text_of (lines_of lines []));
    appended = written.appended;
    served = record {
      exec_lines = lines;
      first = last;
      conversations = [];
      last = last;
      executed = executed;
      served = refl;
      made = sym (append-nil (connections old));
      came_at = none-at address;
      each_told = none-told old;
      hung_up = λ some. absurd (some refl);
      writes = a-line-is-short (lines_of lines []) written.count;
      few = omega arith;
      all = λ is. absurd (omega (arith, is));
      counted = omega arith;
      quiet = λ is. absurd (omega (arith, is));
    };
    sound = λ some. absurd (some refl);
    link_fault_is_counted = λ wrong. absurd (cc);
    write_fault_is_counted = λ is. rose;
    writing_keeps_faults = λ other. absurd (other refl);
  }

  pub unheard : (old : Linking) (before after : Writing) → WritesPrefix before.written after.written listening → Rose before.faults after.faults → Ran db texts address count Unwritten old (docked_at address old) before after
  unheard old before after written rose =
      let way = some-way db texts in
      stopped old before after way.lines way.last way.executed (prefix-of-more before.written after.written listening (text_of (way.lines ++ [])) written) rose

  -- `listening` and a beginning of the lines of the exec file
  exec-prefix : (before mid after : Writing) → Appends before.written mid.written listening → (part : PartExecuted db texts mid after) → WritesPrefix before.written after.written (text_of (lines_of part.lines []))
  exec-prefix before mid after heard part =
      subst (λ lines. WritesPrefix before.written after.written (listening ++ text_of lines)) (sym (append-nil part.lines)) (prefix-behind before.written mid.written after.written listening (text_of part.lines) heard part.written)

  pub unexecuted : (old : Linking) (before mid after : Writing) → Appends before.written mid.written listening → mid.faults ≡ before.faults → PartExecuted db texts mid after → Rose mid.faults after.faults
      → Ran db texts address count Unwritten old (docked_at address old) before after
  unexecuted old before mid after heard same part rose = stopped old before after part.lines part.last part.executed (exec-prefix before mid after heard part) (subst (λ n. Rose n after.faults) same rose)

  -- ---- out of memory before any connection

  stopped-short : (old new : Linking) (before after : Writing) (lines : List (List ℕ)) (last : Database) → AreExecuted Gives db texts lines last → connections new ≡ connections old → new.faults ≡ old.faults
      → WritesPrefix before.written after.written (text_of (lines_of lines [])) → after.faults ≡ before.faults → RanInPart db texts address count old new before after
  stopped-short old new before after lines last executed made quiet written same = record {
    written = take written.count (text_of (lines_of lines []));
    appended = written.appended;
    served = record {
      exec_lines = lines;
      first = last;
      conversations = [];
      last = last;
      cut_short = None;
      executed = executed;
      served = refl;
      is_cut_short = tt;
      made = made ∙ sym (append-nil (connections old));
      came_at = none-at address;
      each_told = none-told old;
      writes = out-of-memory (lines_of lines []) written.count;
      all_before = λ some. absurd (some refl);
      few = omega arith;
      counted = omega (arith, quiet);
      quiet = λ none. quiet;
    };
    writing_keeps_faults = same;
  }

  pub undocked-short : (old new : Linking) (before after : Writing) → OnlyFaults old new → new.faults ≡ old.faults → after ≡ before → RanInPart db texts address count old new before after
  undocked-short old new before after only quiet same =
      let way = some-way db texts in
      subst (λ w. RanInPart db texts address count old new before w) (sym same)
      (stopped-short old new before before way.lines way.last way.executed (same-connections old new only) quiet (none-written-of before.written (text_of (lines_of way.lines []))) refl)

  pub unheard-short : (old : Linking) (before after : Writing) → WritesPrefix before.written after.written listening → after.faults ≡ before.faults → RanInPart db texts address count old (docked_at address old) before after
  unheard-short old before after written same =
      let way = some-way db texts in
      stopped-short old (docked_at address old) before after way.lines way.last way.executed refl refl (prefix-of-more before.written after.written listening (text_of (way.lines ++ [])) written) same

  pub unexecuted-short : (old : Linking) (before mid after : Writing) → Appends before.written mid.written listening → mid.faults ≡ before.faults → ExecutesInPart db texts mid after
      → RanInPart db texts address count old (docked_at address old) before after
  unexecuted-short old before mid after heard same (part, faults) =
      stopped-short old (docked_at address old) before after part.lines part.last part.executed refl refl (exec-prefix before mid after heard part) (faults ∙ same)

  -- ---- connections were served

  module _ (old new : Linking) (before mid late after : Writing) (server : Server) (heard : Appends before.written mid.written listening) (same : mid.faults ≡ before.faults)
      (executed : AllExecuted db texts mid late server) (end : ServerEnd) where
    behind : (cs : List Conversation) → Appends late.written after.written (text_of (connection_lines 1 cs)) → Appends before.written after.written (text_of (lines_of executed.lines cs))
    behind cs written =
        subst (Appends before.written after.written) (sym (text-is executed.lines cs))
        (Appends-append before.written mid.written after.written listening _ heard (Appends-append mid.written late.written after.written _ _ executed.written written))

    prefix : (cs : List Conversation) → WritesPrefix late.written after.written (text_of (connection_lines 1 cs)) → WritesPrefix before.written after.written (text_of (lines_of executed.lines cs))
    prefix cs written =
        subst (WritesPrefix before.written after.written) (sym (text-is executed.lines cs))
        (prefix-behind before.written mid.written after.written listening _ heard (prefix-behind mid.written late.written after.written _ _ executed.written written))

    ended-whole : EndsWhole Gives executed.last count (docked_at address old) new late after (IsEnd end) → Ran db texts address count Whole old new before after
    ended-whole e =
        let number = e.all.number in
        let faults = e.all.faults in
        record {
          written = text_of (lines_of executed.lines e.all.conversations);
          appended = behind e.all.conversations e.written;
          served = record {
            exec_lines = executed.lines;
            first = executed.last;
            conversations = e.all.conversations;
            last = e.all.last;
            executed = executed.executed;
            served = e.all.served;
            made = e.all.made;
            came_at = at-address address old (all_told e.all.conversations) e.all.came_at;
            each_told = told-before address old e.all.conversations e.all.each_told;
            hung_up = e.all.hung_up;
            writes = all-written 0 (lines_of executed.lines e.all.conversations);
            few = omega (arith, number);
            all = λ is. (number, e.none);
            counted = omega (arith, faults);
            quiet = λ is. e.all.quiet e.none;
          };
          sound = λ some. e.all.stands.server.sound;
          link_fault_is_counted = λ wrong. absurd (cc);
          write_fault_is_counted = λ wrong. absurd (cc);
          writing_keeps_faults = λ is. e.write_faults ∙ (executed.faults_stay ∙ same);
        }

    whole-or-none : (c : Option Conversation) → (c ≡ None) ⊎ (c ≢ None)
    whole-or-none None = inl refl
    whole-or-none (Some c) = inr (λ none. absurd (cc))

    short-of : (e : EndsInPart Gives executed.last count (docked_at address old) new late after) (written : List ℕ) → Writes 9 (lines_of executed.lines e.conversations) written
        → (e.cut_short ≢ None → written ≡ text_of (lines_of executed.lines e.conversations)) → ServedInPart Gives db texts address count old new written
    short-of e written writes all_before =
        let cs = e.conversations ++ option_to_list e.cut_short in
        record {
          exec_lines = executed.lines;
          first = executed.last;
          conversations = e.conversations;
          last = e.last;
          cut_short = e.cut_short;
          executed = executed.executed;
          served = e.served;
          is_cut_short = e.is_cut_short;
          made = e.made;
          came_at = at-address address old (all_told cs) e.came_at;
          each_told = told-before address old cs e.each_told;
          writes = writes;
          all_before = all_before;
          few = e.few;
          counted = e.faults;
          quiet = e.quiet;
        }

    -- all were served, and some ended by a fault; or one more could not be made
    record Why (done : ℕ) (faults : ℕ) : Type 0 where
      pub counted : RoseBy old.faults (faults + missing 5 done count) new.faults
      pub rose : Rose old.faults new.faults

    why : (e : EndsFaulty Gives executed.last count (docked_at address old) new late after (IsEnd end)) (b : Bool) → eqb e.done count ≡ b → Why e.done (count_faults e.some.conversations)
    why e true is =
        let all : e.done ≡ count = grind (arith, nat_tests, is) in
        let cause = e.cause all in
        let some = cause.1 in
        let before_it = e.some.faults in
        let link = ap (λ (l : Linking). l.faults) cause.0 in
        record { counted = omega (arith, all, before_it, link); rose = omega (arith, some, before_it, link) }
    why e false is =
        let other : e.done ≢ count = λ all. grind (arith, nat_tests, is, all) in
        let few = e.few in
        let rose = e.fewer other in
        let before_it = e.some.faults in
        record { counted = omega (arith, few, before_it, rose); rose = omega (arith, before_it, rose) }

    ended-faulty : EndsFaulty Gives executed.last count (docked_at address old) new late after (IsEnd end) → Ran db texts address count Faulty old new before after
    ended-faulty e =
        let number = e.some.number in
        let few = e.few in
        let w = why e (eqb e.done count) refl in
        record {
          written = text_of (lines_of executed.lines e.some.conversations);
          appended = behind e.some.conversations e.written;
          served = record {
            exec_lines = executed.lines;
            first = executed.last;
            conversations = e.some.conversations;
            last = e.some.last;
            executed = executed.executed;
            served = e.some.served;
            made = same-connections e.linking new e.only ∙ e.some.made;
            came_at = at-address address old (all_told e.some.conversations) e.some.came_at;
            each_told = told-before address old e.some.conversations e.some.each_told;
            hung_up = λ some. e.only.is_up ∙ e.some.hung_up some;
            writes = all-written 5 (lines_of executed.lines e.some.conversations);
            few = omega (arith, number, few);
            all = λ is. absurd (omega (arith, is));
            counted = subst (λ n. RoseBy old.faults (count_faults e.some.conversations + missing 5 n count) new.faults) (sym number) w.counted;
            quiet = λ is. absurd (omega (arith, is));
          };
          sound = λ some. e.some.stands.server.sound;
          link_fault_is_counted = λ is. w.rose;
          write_fault_is_counted = λ wrong. absurd (cc);
          writing_keeps_faults = λ is. e.write_faults ∙ (executed.faults_stay ∙ same);
        }

    ended-unwritten : EndsUnwritten Gives executed.last count (docked_at address old) new late after (IsEnd end) → Ran db texts address count Unwritten old new before after
    ended-unwritten e =
        let number = e.some.number in
        let few = e.few in
        let faults = e.some.faults in
        let p = prefix e.some.conversations e.written in
        record {
          written = take p.count (text_of (lines_of executed.lines e.some.conversations));
          appended = p.appended;
          served = record {
            exec_lines = executed.lines;
            first = executed.last;
            conversations = e.some.conversations;
            last = e.some.last;
            executed = executed.executed;
            served = e.some.served;
            made = e.some.made;
            came_at = at-address address old (all_told e.some.conversations) e.some.came_at;
            each_told = told-before address old e.some.conversations e.some.each_told;
            hung_up = e.some.hung_up;
            writes = a-line-is-short (lines_of executed.lines e.some.conversations) p.count;
            few = omega (arith, number, few);
            all = λ is. absurd (omega (arith, is));
            counted = omega (arith, faults);
            quiet = λ is. absurd (omega (arith, is));
          };
          sound = λ some. e.some.stands.server.sound;
          link_fault_is_counted = λ wrong. absurd (cc);
          write_fault_is_counted = λ is. subst (λ n. Rose n after.faults) (executed.faults_stay ∙ same) e.cause;
          writing_keeps_faults = λ other. absurd (other refl);
        }

    -- out of memory, while connections were served
    pub ended-short : EndsInPart Gives executed.last count (docked_at address old) new late after → RanInPart db texts address count old new before after
    ended-short e =
        let p = prefix e.conversations e.written in
        let lines = lines_of executed.lines e.conversations in
        elim (whole-or-none e.cut_short) [
          | inl none ↦ record {
            written = take p.count (text_of lines);
            appended = p.appended;
            served = short-of e (take p.count (text_of lines)) (out-of-memory lines p.count) (λ some. absurd (some none));
            writing_keeps_faults = e.write_faults ∙ (executed.faults_stay ∙ same);
          }
          | inr some ↦ record {
            written = text_of lines;
            appended = behind e.conversations (e.all_before some);
            served = short-of e (text_of lines) (all-written 9 lines) (λ any. refl);
            writing_keeps_faults = e.write_faults ∙ (executed.faults_stay ∙ same);
          }
        ]

    pub ended-by : (ending : Ending) → EndsBy Gives ending executed.last count (docked_at address old) new late after (IsEnd end) → Ran db texts address count ending old new before after
    ended-by Whole e = ended-whole e
    ended-by Faulty e = ended-faulty e
    ended-by Unwritten e = ended-unwritten e

-- an ending that is named is that of the call
pub same-ending : {A : Type 0} (was ending : Ending) → IsErrOf {T = A} (Err (Refused was)) (Refused ending) → was ≡ ending
same-ending {A} was ending is = cc

-- an end at which no client has come stands on while statements are carried out
pub end-after : (db last : Database) (end : ServerEnd) (new : Server) → IsEnd end (at_rest db) → IsServer new last → new.sessions ≡ end.server.sessions → IsEnd (record end { server = new }) (at_rest last)
end-after db last end new is stands same = record { server = stands; session = (is.session.0, same ∙ is.session.1) }
