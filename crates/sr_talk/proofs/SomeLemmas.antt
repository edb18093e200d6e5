-- Connections that were served so far, with their lines.
use Rattle.std.proofs.Common.{◌≡◌, ℕ, ◌+◌, ◌*◌, ◌<◌, ◌≤◌, Bool, true, false, List, [], ◌∷◌, ◌++◌, length, take, Option, Some, None, option_to_list, arith, append-nil, refl, sym, ◌∙◌, ap, subst, length-append}
use Rattle.std.specs.Prelude.{◌≢◌, ◌||◌, Result, if◌then◌else◌}
use Rattle.std.specs.Io.KnownBytes.{Appends}
use Rattle.std.proofs.Math.Seq.{take-append-add, take-length}
use Rattle.sr_cell.specs.declared.fault.Fault.{Fault as TheFault}
use Rattle.sr_io.specs.Causes.{Rose}
use Rattle.sr_io.specs.Pieces.{WritesPrefix}
use Rattle.sr_io.specs.Told.{Reading, Writing, Linking}
use Rattle.sr_io.proofs.SoFar.{Appends-append}
use Rattle.sr_message.specs.declared.message.Message.{Message}
use Rattle.sr_model.specs.Statements.{Tables}
use Rattle.sr_session.specs.Sessions.{Database}
use Rattle.sr_links.specs.Honest.{Server}
use Rattle.sr_talk.specs.Rounds.{HasPeers, OnlyOutput, at_rest, text_of, Rounds, RoundsIf, RoundsInPart, SoMany, EndsBy, EndsFaulty, EndsInPart, EndsUnwritten}
use Rattle.sr_talk.specs.Serving.{Conversation, count_faults, connection_line, connection_lines, by_fault, frames_read, is_fault}
use Rattle.sr_talk.specs.declared.rounds.Ending.TheVariants.{Whole, Faulty}
use Rattle.sr_talk.specs.declared.serve.How.{How}
use Rattle.sr_talk.specs.declared.serve.How.TheVariants.{End, Torn, Fault, Bad, Refused, Limit}
use Rattle.sr_talk.specs.declared.serve.Served.{Served}
use Rattle.sr_talk.proofs.MoveLemmas.{same-link}
use Rattle.sr_talk.proofs.RoundLemmas.{faults-one, texts-one, one-more, none-made, none-so-far, same-line, with-cut-short}

-- ---- writing

pub appends-nothing : (known : Option (List ℕ)) → Appends known known []
appends-nothing None = tt
appends-nothing (Some xs) = sym (append-nil xs)

pub prefix-behind : (first mid last : Option (List ℕ)) (one two : List ℕ) → Appends first mid one → WritesPrefix mid last two → WritesPrefix first last (one ++ two)
prefix-behind first mid last one two before w =
    let within = w.within in
    record {
      count = length one + w.count;
      within = omega (arith, within, length-append one two);
      appended = subst (Appends first last) (sym (take-append-add one two w.count)) (Appends-append first mid last one (take w.count two) before w.appended);
    }

-- all is a prefix, and so is nothing
pub all-written : (first last : Option (List ℕ)) (bytes : List ℕ) → Appends first last bytes → WritesPrefix first last bytes
all-written first last bytes all = record { count = length bytes; within = omega arith; appended = subst (Appends first last) (sym (take-length bytes)) all }

pub none-written : (known : Option (List ℕ)) (bytes : List ℕ) → WritesPrefix known known bytes
none-written known bytes = record { count = 0; within = omega arith; appended = appends-nothing known }

-- ---- faults

one-fault : (how : How) → by_fault how ≡ true → is_fault how ≡ 1
one-fault End is = absurd (cc)
one-fault Torn is = absurd (cc)
one-fault Fault is = refl
one-fault Bad is = absurd (cc)
one-fault Refused is = absurd (cc)
one-fault Limit is = absurd (cc)

no-fault : (how : How) → by_fault how ≡ false → is_fault how ≡ 0
no-fault End is = refl
no-fault Torn is = refl
no-fault Fault is = absurd (cc)
no-fault Bad is = refl
no-fault Refused is = refl
no-fault Limit is = refl

module _ (Gives : Database → Message → Result Tables TheFault → Type 0) where
  -- these connections, with their lines
  pub record ServedSome (db : Database) (old new : Linking) (before after : Writing) (done : ℕ) (faulty : Bool) (IsNow : Server → Type 0) : Type 0 where
    pub many : SoMany Gives db old new done IsNow
    pub some_fault : faulty ≡ true → count_faults many.conversations ≢ 0
    pub no_fault : faulty ≡ false → count_faults many.conversations ≡ 0
    pub written : Appends before.written after.written (text_of (connection_lines 1 many.conversations))
    pub write_faults : after.faults ≡ before.faults

  pub record SomeSoFar (H S : Type 0) (reading : H → Reading) (writing : H → Writing) (linking : H → Linking) (held : H → List ℕ → Option (List ℕ)) (complaints : H → Option (List ℕ)) (IsSteady : H → Type 0) (IsOf : S → Server → Type 0) (room : S → ℕ) (first now : H) (server_first server : S) (done : ℕ) (faulty : Bool) : Type 0 where
    pub so_far : (db : Database) → IsOf server_first (at_rest db) → ServedSome db (linking first) (linking now) (writing first) (writing now) done faulty (IsOf server)
    pub draws : room server_first ≤ room server + 1000000 * done
    pub stays : OnlyOutput H reading held complaints IsSteady first now
    pub links : IsSteady first → (more : ℕ) → HasPeers (done + more) (linking first) → (faulty ≡ false) × HasPeers more (linking now)

  -- ---- before the first

  pub none-served : (db : Database) (l : Linking) (w : Writing) (IsNow : Server → Type 0) → IsNow (at_rest db) → ServedSome db l l w w 0 false IsNow
  none-served db l w IsNow stands = record {
    many = none-so-far Gives db l IsNow stands;
    some_fault = λ wrong. absurd (cc);
    no_fault = λ is. refl;
    written = appends-nothing w.written;
    write_faults = refl;
  }

  pub some-start : (H S : Type 0) (reading : H → Reading) (writing : H → Writing) (linking : H → Linking) (held : H → List ℕ → Option (List ℕ)) (complaints : H → Option (List ℕ)) (IsSteady : H → Type 0) (IsOf : S → Server → Type 0) (room : S → ℕ) (host : H) (server : S)
      → SomeSoFar H S reading writing linking held complaints IsSteady IsOf room host host server server 0 false
  some-start H S reading writing linking held complaints IsSteady IsOf room host server = record {
    so_far = λ db is. none-served db (linking host) (writing host) (IsOf server) is;
    draws = omega arith;
    stays = record { stays_steady = λ s. s; reading_stays = refl; held_stays = refl; complaints_stay = refl };
    links = λ steady more enough. (refl, (let none : 0 + more ≡ more = omega arith in subst (λ n. HasPeers n (linking host)) none enough));
  }

  -- ---- out of memory

  -- behind these
  ends-short : (db : Database) (count : ℕ) (old now new : Linking) (before after : Writing) (done : ℕ) (IsNow : Server → Type 0) → (h : SoMany Gives db old now done IsNow) → (r : RoundsInPart Gives h.last now new)
      → done + length (option_to_list r.cut_short) ≤ count → WritesPrefix before.written after.written (text_of (connection_lines 1 h.conversations))
      → (r.cut_short ≢ None → Appends before.written after.written (text_of (connection_lines 1 h.conversations))) → after.faults ≡ before.faults → EndsInPart Gives db count old new before after
  ends-short db count old now new before after done IsNow h r few written all_before write_faults =
      let w = with-cut-short Gives db old now new done IsNow h r in
      let number = h.number in
      record {
        conversations = h.conversations;
        last = h.last;
        cut_short = r.cut_short;
        served = h.served;
        is_cut_short = r.is;
        made = w.made;
        came_at = w.came_at;
        each_told = w.each_told;
        few = omega (arith, few, number, length-append h.conversations (option_to_list r.cut_short));
        faults = (let rose = h.faults in let same = r.faults_stay in omega (arith, rose, same));
        quiet = λ none. r.faults_stay ∙ h.quiet none;
        written = written;
        all_before = all_before;
        write_faults = write_faults;
      }

  one-at-most : (c : Option Conversation) → length (option_to_list c) ≤ 1
  one-at-most None = omega arith
  one-at-most (Some c) = omega arith

  -- ---- one more, and its line

  module _ (db : Database) (old now new : Linking) (before mid : Writing) (done : ℕ) (served : Served) (IsNow IsNew : Server → Type 0) where
    line-is : (h : SoMany Gives db old now done IsNow) (r : Rounds Gives h.last now new served IsNew)
        → text_of (connection_lines 1 (h.conversations ++ r.conversation ∷ [])) ≡ text_of (connection_lines 1 h.conversations) ++ connection_line (done + 1) served.how served.frames
    line-is h r =
        texts-one Gives h.conversations r.conversation
        ∙ ap (λ x. text_of (connection_lines 1 h.conversations) ++ x)
        (ap (λ n. connection_line (n + 1) r.conversation.how (frames_read r.conversation.how (length r.conversation.frames))) h.number ∙ sym (same-line Gives h.last now new served (done + 1) IsNew r))

    faults-are : (h : SoMany Gives db old now done IsNow) (r : Rounds Gives h.last now new served IsNew)
        → count_faults (h.conversations ++ r.conversation ∷ []) ≡ count_faults h.conversations + is_fault served.how
    faults-are h r = faults-one Gives h.conversations r.conversation ∙ ap (λ how. count_faults h.conversations + is_fault how) r.how_is

    pub more-served : (after : Writing) (faulty : Bool) → (h : ServedSome db old now before mid done faulty IsNow) → Rounds Gives h.many.last now new served IsNew
        → Appends mid.written after.written (connection_line (done + 1) served.how served.frames) → after.faults ≡ mid.faults
        → ServedSome db old new before after (done + 1) (faulty || by_fault served.how) IsNew
    more-served after faulty h r line same = record {
      many = one-more Gives db old now new done served IsNow IsNew h.many r;
      some_fault = some faulty (by_fault served.how) h.some_fault refl;
      no_fault = none faulty (by_fault served.how) h.no_fault refl;
      written = subst (Appends before.written after.written) (sym (line-is h.many r)) (Appends-append before.written mid.written after.written _ _ h.written line);
      write_faults = same ∙ h.write_faults;
    }
      where
        some : (faulty is : Bool) → (faulty ≡ true → count_faults h.many.conversations ≢ 0) → by_fault served.how ≡ is → (faulty || is) ≡ true
            → count_faults (h.many.conversations ++ r.conversation ∷ []) ≢ 0
        some true is before_it says both none_now = let sum = faults-are h.many r in before_it refl (omega (arith, sum, none_now))
        some false true before_it says both none_now = let sum = faults-are h.many r in let one = one-fault served.how says in absurd (omega (arith, sum, one, none_now))
        some false false before_it says both none_now = absurd (cc)

        none : (faulty is : Bool) → (faulty ≡ false → count_faults h.many.conversations ≡ 0) → by_fault served.how ≡ is → (faulty || is) ≡ false
            → count_faults (h.many.conversations ++ r.conversation ∷ []) ≡ 0
        none true is before_it says both = absurd (cc)
        none false true before_it says both = absurd (cc)
        none false false before_it says both =
            let sum = faults-are h.many r in
            let zero_before = before_it refl in
            let none_more = no-fault served.how says in
            omega (arith, sum, zero_before, none_more)

    -- its line is not written
    pub unwritten : (count : ℕ) (after : Writing) (faulty : Bool) (last : Linking) → done < count → (h : ServedSome db old now before mid done faulty IsNow) → Rounds Gives h.many.last now new served IsNew
        → WritesPrefix mid.written after.written (connection_line (done + 1) served.how served.frames) → Rose mid.faults after.faults → last ≡ new → EndsUnwritten Gives db count old last before after IsNew
    unwritten count after faulty last below h r line rose same =
        subst (λ l. EndsUnwritten Gives db count old l before after IsNew) (sym same) (record {
          done = done + 1;
          some = one-more Gives db old now new done served IsNow IsNew h.many r;
          few = omega (arith, below);
          written = subst (WritesPrefix before.written after.written) (sym (line-is h.many r)) (prefix-behind before.written mid.written after.written _ _ h.written line);
          cause = subst (λ n. Rose n after.faults) h.write_faults rose;
        })

    -- out of memory before its line is written
    pub line-cut-short : (count : ℕ) (after : Writing) (faulty : Bool) (last : Linking) → done < count → (h : ServedSome db old now before mid done faulty IsNow) → Rounds Gives h.many.last now new served IsNew
        → WritesPrefix mid.written after.written (connection_line (done + 1) served.how served.frames) → after.faults ≡ mid.faults → last ≡ new → EndsInPart Gives db count old last before after
    line-cut-short count after faulty last below h r line same_faults same =
        subst (λ l. EndsInPart Gives db count old l before after) (sym same)
        (ends-short db count old new new before after (done + 1) IsNew (one-more Gives db old now new done served IsNow IsNew h.many r) (none-made Gives r.after.database new new (same-link new) refl) (omega (arith, below))
        (subst (WritesPrefix before.written after.written) (sym (line-is h.many r)) (prefix-behind before.written mid.written after.written _ _ h.written line)) (λ some. absurd (some refl)) (same_faults ∙ h.write_faults))

  -- ---- the end

  -- out of memory at the next one
  pub next-cut-short : (db : Database) (count : ℕ) (old now new : Linking) (before mid after : Writing) (done : ℕ) (faulty : Bool) (IsNow : Server → Type 0) → done < count
      → (h : ServedSome db old now before mid done faulty IsNow) → RoundsInPart Gives h.many.last now new → after ≡ mid → EndsInPart Gives db count old new before after
  next-cut-short db count old now new before mid after done faulty IsNow below h r same =
      let written = subst (λ (w : Writing). Appends before.written w.written (text_of (connection_lines 1 h.many.conversations))) (sym same) h.written in
      ends-short db count old now new before after done IsNow h.many r (let one = one-at-most r.cut_short in omega (arith, below, one)) (all-written before.written after.written (text_of (connection_lines 1 h.many.conversations)) written) (λ some. written)
      (ap (λ (w : Writing). w.faults) same ∙ h.write_faults)

  pub none-more : (db : Database) (count : ℕ) (old now new : Linking) (before mid after : Writing) (done : ℕ) (faulty : Bool) (IsNow IsNew : Server → Type 0) → done < count
      → (h : ServedSome db old now before mid done faulty IsNow) → RoundsIf Gives None h.many.last now new IsNew → after ≡ mid → EndsFaulty Gives db count old new before after IsNew
  none-more db count old now new before mid after done faulty IsNow IsNew below h (rose, only, stands) same = record {
    done = done;
    linking = now;
    some = record { conversations = h.many.conversations; last = h.many.last; served = h.many.served; made = h.many.made; came_at = h.many.came_at; each_told = h.many.each_told; hung_up = h.many.hung_up; docked = h.many.docked; peers_stay = h.many.peers_stay; number = h.many.number; faults = h.many.faults; quiet = h.many.quiet; stands = stands };
    few = omega (arith, below);
    only = only;
    fewer = λ other. rose;
    cause = λ all. absurd (omega (arith, below, all));
    written = subst (λ (w : Writing). Appends before.written w.written (text_of (connection_lines 1 h.many.conversations))) (sym same) h.written;
    write_faults = ap (λ (w : Writing). w.faults) same ∙ h.write_faults;
  }

  pub all-served : (db : Database) (count : ℕ) (old new : Linking) (before after : Writing) (faulty : Bool) (IsNow : Server → Type 0) → ServedSome db old new before after count faulty IsNow
      → EndsBy Gives (if faulty then Faulty else Whole) db count old new before after IsNow
  all-served db count old new before after true IsNow h = record {
    done = count;
    linking = new;
    some = h.many;
    few = omega arith;
    only = same-link new;
    fewer = λ other. absurd (other refl);
    cause = λ all. (refl, h.some_fault refl);
    written = h.written;
    write_faults = h.write_faults;
  }
  all-served db count old new before after false IsNow h = record { all = h.many; none = h.no_fault refl; written = h.written; write_faults = h.write_faults }
