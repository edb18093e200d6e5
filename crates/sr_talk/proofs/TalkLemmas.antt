-- What was said so far over a connection.
use Rattle.std.proofs.Common.{◌≡◌, ℕ, ◌+◌, ◌<◌, ◌≤◌, List, [], ◌∷◌, ◌++◌, length, take, Option, arith, inl, inr, append_assoc, refl, sym, ◌∙◌, ap, subst, length-append, append-nil, option_map}
use Rattle.std.specs.Prelude.{Result, IsTrue}
use Rattle.std.proofs.lemmas.Grind.{flat_map-append}
use Rattle.std.proofs.Math.Seq.{take-append-add, take-length}
use Rattle.sr_cell.specs.declared.fault.Fault.{Fault as TheFault}
use Rattle.sr_io.specs.Causes.{Rose}
use Rattle.sr_io.specs.Pieces.{SendsPart}
use Rattle.sr_io.specs.Told.{Reading, Writing, Linking, sends, takes, sent_on, taken_from, OnlyFaults, Brings}
use Rattle.sr_io.proofs.SoFar.{sent_on-append}
use Rattle.sr_message.specs.declared.message.Message.{Message}
use Rattle.sr_model.specs.Statements.{Tables}
use Rattle.sr_session.specs.Sessions.{Database}
use Rattle.sr_wire.specs.declared.wire_fault.WireFault.{WireFault}
use Rattle.sr_wire.specs.Spelling.{has_spelling, spelling}
use Rattle.sr_links.specs.Honest.{Server, Frame as FrameOf, answer, cut_off}
use Rattle.sr_talk.specs.Moves.{OnlyLinks}
use Rattle.sr_talk.specs.Reading.{Reads, Nexts}
use Rattle.sr_talk.specs.Serving.{Answers, spelled, EndsAs, frames_read}
use Rattle.sr_talk.specs.Talked.{LeftAs, Takes, Sends, SendsSome, Turns, TurnsInPart, Talks, TalksInPart, ClosesAs, SentOn, EndsAt}
use Rattle.sr_talk.specs.declared.frames.Next.TheVariants.{End as NextEnd, Torn as NextTorn, Fault as NextFault, Bad as NextBad}
use Rattle.sr_talk.specs.declared.serve.How.TheVariants.{End, Torn, Fault, Bad, Refused as ByRefusal, Limit}
use Rattle.sr_talk.specs.declared.serve.Turn.TheVariants.{Refused, Broken}
use Rattle.sr_talk.proofs.MoveLemmas.{taken_from-more, taken-behind, brings-more, brings-behind, same-link}
use Rattle.sr_talk.specs.declared.serve.How.{How}

-- ---- lists of frames

pub spelled-append : (one two : List Message) → spelled (one ++ two) ≡ spelled one ++ spelled two
spelled-append one two = flat_map-append spelling one two

spelled-one : (frames : List Message) (m : Message) (left : List ℕ) → spelled (frames ++ m ∷ []) ++ left ≡ spelled frames ++ (spelling m ++ left)
spelled-one frames m left =
    ap (λ x. x ++ left) (spelled-append frames (m ∷ []) ∙ ap (λ x. spelled frames ++ x) (append-nil (spelling m))) ∙ append_assoc (spelled frames) (spelling m) left

module _ (Gives : Database → Message → Result Tables TheFault → Type 0) where
  -- the frames that were answered so far
  pub record SoFar (s : Server) (first now : Linking) (left : List ℕ) (index : ℕ) (IsNow : Server → Type 0) : Type 0 where
    pub frames : List Message
    pub sent : List Message
    pub after : Server
    pub brings : Brings first.present (spelled frames ++ left)
    pub answers : Answers Gives s frames sent after
    pub is : now ≡ sent_on (spelled sent) (taken_from (spelled frames ++ left) first)
    pub count_is : index ≡ length frames
    pub stands : IsNow after

  pub record ServedSoFar (L S : Type 0) (reading : L → Reading) (writing : L → Writing) (linking : L → Linking) (held : L → List ℕ → Option (List ℕ)) (complaints : L → Option (List ℕ)) (IsSteady : L → Type 0) (IsOf : S → Server → Type 0) (room : S → ℕ) (first now : L) (feed : List ℕ) (server_first server : S) (index : ℕ) : Type 0 where
    pub so_far : (s : Server) → IsOf server_first s → SoFar s (linking first) (linking now) feed index (IsOf server)
    pub draws : room server_first ≤ room server + index
    pub stays : OnlyLinks L reading writing linking held complaints IsSteady first now
    pub up : (linking now).is_up ≡ (linking first).is_up

  answers-one : (s mid : Server) (frames sent : List Message) (m : Message) (one : List Message) (IsNew : Server → Type 0) → Answers Gives s frames sent mid → IsTrue (has_spelling m)
      → (t : Takes Gives mid m one IsNew) → Answers Gives s (frames ++ m ∷ []) (sent ++ one) (answer mid (FrameOf m t.result)).server
  answers-one s mid [] sent m one IsNew (none, same) spells t =
      subst (λ x. Answers Gives x (m ∷ []) (sent ++ one) (answer mid (FrameOf m t.result)).server) same
      (t.result, [], spells, t.accepted, t.gives, ap (λ x. x ++ one) none ∙ (t.sends ∙ sym (append-nil (answer mid (FrameOf m t.result)).sent)), (refl, refl))
  answers-one s mid (first ∷ frames) sent m one IsNew (result, more, spells_first, accepted, gives, all, others) spells t =
      (result, more ++ one, spells_first, accepted, gives, ap (λ x. x ++ one) all ∙ append_assoc (answer s (FrameOf first result)).sent more one, answers-one (answer s (FrameOf first result)).server mid frames more m one IsNew others spells t)

  -- ---- one frame more

  -- after reading
  record ReadOn (first mid : Linking) (frames sent : List Message) (behind : List ℕ) : Type 0 where
    pub brings : Brings first.present (spelled frames ++ behind)
    pub is : mid ≡ sent_on (spelled sent) (taken_from (spelled frames ++ behind) first)

  read-on : (s : Server) (first now mid : Linking) (left frame after : List ℕ) (index : ℕ) (IsNow : Server → Type 0) → (h : SoFar s first now left index IsNow) → Reads now mid left frame after
      → ReadOn first mid h.frames h.sent (frame ++ after)
  read-on s first now mid left frame after index IsNow h r =
      let T : List ℕ = spelled h.frames ++ left in
      let S : List ℕ = spelled h.sent in
      let e : T ++ r.bytes ≡ spelled h.frames ++ (frame ++ after) = append_assoc (spelled h.frames) left r.bytes ∙ ap (λ x. spelled h.frames ++ x) r.cut in
      let b : Brings (option_map (sends S) (option_map (takes T) first.present)) r.bytes = subst (λ (l : Linking). Brings l.present r.bytes) h.is r.brings in
      record {
        brings = subst (Brings first.present) e (brings-more first.present T r.bytes h.brings (brings-behind (option_map (takes T) first.present) S r.bytes b));
        is = r.is ∙ (ap (taken_from r.bytes) h.is ∙ (taken-behind (taken_from T first) S r.bytes ∙ (ap (sent_on S) (taken_from-more first T r.bytes) ∙ ap (λ x. sent_on S (taken_from x first)) e)));
      }

  pub so-far-more : (s : Server) (first now mid new : Linking) (left after : List ℕ) (m : Message) (index : ℕ) (IsNow IsNew : Server → Type 0) → (h : SoFar s first now left index IsNow)
      → Reads now mid left (spelling m) after → IsTrue (has_spelling m) → Sends Gives h.after m mid new IsNew → SoFar s first new after (index + 1) IsNew
  so-far-more s first now mid new left after m index IsNow IsNew h r spells t =
      let on = read-on s first now mid left (spelling m) after index IsNow h r in
      let count = h.count_is in
      let behind : List ℕ = spelled h.frames ++ (spelling m ++ after) in
      record {
        frames = h.frames ++ m ∷ [];
        sent = h.sent ++ t.sent;
        after = (answer h.after (FrameOf m t.takes.result)).server;
        brings = subst (Brings first.present) (sym (spelled-one h.frames m after)) on.brings;
        answers = answers-one s h.after h.frames h.sent m t.sent IsNew h.answers spells t.takes;
        is = t.is ∙ (ap (sent_on (spelled t.sent)) on.is ∙ (sent_on-append (taken_from behind first) (spelled h.sent) (spelled t.sent)
            ∙ (ap (λ x. sent_on x (taken_from behind first)) (sym (spelled-append h.sent t.sent))
            ∙ ap (λ x. sent_on (spelled (h.sent ++ t.sent)) (taken_from x first)) (sym (spelled-one h.frames m after)))));
        count_is = omega (arith, count, length-append h.frames (m ∷ []));
        stands = t.takes.stands;
      }

  -- ---- the end

  -- at which all that was answered was sent
  quiet-end : (how : How) (s : Server) (first now new : Linking) (left frame after : List ℕ) (index count : ℕ) (IsNow IsNew : Server → Type 0) → (h : SoFar s first now left index IsNow) → IsNew h.after → Reads now new left frame after
      → (new ≡ sent_on (spelled h.sent) (taken_from (spelled h.frames ++ (frame ++ after)) first) → SentOn how count (spelled h.sent) (taken_from (spelled h.frames ++ (frame ++ after)) first) new)
      → EndsAs how h.after (frame ++ after) → ClosesAs how first new → count ≡ frames_read how index → EndsAt how count
      → Talks Gives s first new how count IsNew
  quiet-end how s first now new left frame after index count IsNow IsNew h stands r sent ends closes reads counts =
      let on = read-on s first now new left frame after index IsNow h r in
      record {
        frames = h.frames;
        sent = h.sent;
        left = frame ++ after;
        after = h.after;
        brings = on.brings;
        answers = h.answers;
        is = sent on.is;
        ends = ends;
        closes = closes;
        count_is = reads ∙ ap (frames_read how) h.count_is;
        counts = counts;
        stands = stands;
      }

  -- all of it, and then perhaps a fault
  sends-all : (n : ℕ) (bytes : List ℕ) (before mid new : Linking) → mid ≡ sent_on bytes before → OnlyFaults mid new → n < 1000000 → SendsSome n bytes before new
  sends-all n bytes before mid new is only below =
      let whole : mid ≡ sent_on (take (length bytes) bytes) before = is ∙ ap (λ x. sent_on x before) (sym (take-length bytes)) in
      record { count = length bytes; within = omega arith; fewer = λ reached. absurd (omega (arith, below, reached)); only = subst (λ l. OnlyFaults l new) whole only }

  -- out of memory while a message is read, or taken
  pub stops-reading : (s : Server) (first now mid : Linking) (left frame after : List ℕ) (index : ℕ) (IsNow : Server → Type 0) → SoFar s first now left index IsNow → index < 1000000
      → Reads now mid left frame after → TalksInPart Gives s first mid
  stops-reading s first now mid left frame after index IsNow h below r =
      let on = read-on s first now mid left frame after index IsNow h r in
      let count = h.count_is in
      record {
        frames = h.frames;
        sent = h.sent;
        left = frame ++ after;
        after = h.after;
        brings = on.brings;
        answers = h.answers;
        some = sends-all (length h.frames) (spelled h.sent) (taken_from (spelled h.frames ++ (frame ++ after)) first) mid mid on.is (same-link mid) (omega (arith, count, below));
        faults_stay = ap (λ (l : Linking). l.faults) on.is;
        few = omega (arith, count, below);
      }

  module _ (s : Server) (first now new : Linking) (left after : List ℕ) (index : ℕ) (IsNow : Server → Type 0) (h : SoFar s first now left index IsNow) (below : index < 1000000) where
    pub at-end : Nexts NextEnd now new left after → Talks Gives s first new End index IsNow
    at-end (r, none, over) = quiet-end End s first now new left [] after index index IsNow IsNow h h.stands r (λ e. e) none over refl below

    pub at-torn : Nexts NextTorn now new left after → Talks Gives s first new Torn index IsNow
    at-torn (r, some, short, over) = quiet-end Torn s first now new left [] after index index IsNow IsNow h h.stands r (λ e. e) (some, short) over refl below

    pub at-bad : (fault : WireFault) → Nexts (NextBad fault) now new left after → Talks Gives s first new Bad index IsNow
    at-bad fault (r, faulty, other) = quiet-end Bad s first now new left [] after index index IsNow IsNow h h.stands r (λ e. e) (fault, faulty, other) tt refl below

    pub at-fault : Nexts NextFault now new left after → Talks Gives s first new Fault index IsNow
    at-fault all =
        let on = read-on s first now all.linking left [] after index IsNow h all.reads in
        record {
          frames = h.frames;
          sent = h.sent;
          left = after;
          after = h.after;
          brings = on.brings;
          answers = h.answers;
          is = sends-all index (spelled h.sent) (taken_from (spelled h.frames ++ after) first) all.linking new on.is all.only below;
          ends = tt;
          closes = subst (λ (l : Linking). Rose l.faults new.faults) h.is all.rose;
          count_is = h.count_is;
          counts = omega (arith, below);
          stands = h.stands;
        }

  module _ (s : Server) (first now mid new : Linking) (left after : List ℕ) (m : Message) (index : ℕ) (IsNow IsNew : Server → Type 0) (h : SoFar s first now left index IsNow) (below : index < 1000000) (r : Reads now mid left (spelling m) after) where
    pub at-refused : IsTrue (has_spelling m) → Turns Gives Refused h.after m mid new IsNew → Talks Gives s first new ByRefusal (index + 1) IsNew
    at-refused spells (refused, same, stands) =
        quiet-end ByRefusal s first now new left (spelling m) after index (index + 1) IsNow IsNew h stands (subst (λ l. Reads now l left (spelling m) after) (sym same) r) (λ e. e) (m, after, refl, spells, refused) tt refl
        (omega (arith, below))

    -- a part of an answer, behind those before
    part-on : (sent : List Message) (n : ℕ) → SendsPart mid new (spelled sent) → SendsSome n (spelled (h.sent ++ sent)) (taken_from (spelled (h.frames ++ m ∷ []) ++ after) first) new
    part-on sent n part =
        let on = read-on s first now mid left (spelling m) after index IsNow h r in
        let S : List ℕ = spelled h.sent in
        let A : List ℕ = spelled sent in
        let fewer = part.fewer in
        let both : spelled (h.sent ++ sent) ≡ S ++ A = spelled-append h.sent sent in
        let sizes : length (spelled (h.sent ++ sent)) ≡ length S + length A = ap (λ x. length x) both ∙ length-append S A in
        let before : Linking = taken_from (spelled h.frames ++ (spelling m ++ after)) first in
        let before' : Linking = taken_from (spelled (h.frames ++ m ∷ []) ++ after) first in
        let same : before' ≡ before = ap (λ x. taken_from x first) (spelled-one h.frames m after) in
        let e : sent_on (take part.count A) mid ≡ sent_on (take (length S + part.count) (spelled (h.sent ++ sent))) before' =
        ap (sent_on (take part.count A)) on.is ∙ (sent_on-append before S (take part.count A)
        ∙ (ap (sent_on (S ++ take part.count A)) (sym same) ∙ (ap (λ x. sent_on x before') (sym (take-append-add S A part.count)) ∙ ap (λ x. sent_on (take (length S + part.count) x) before') (sym both)))) in
        record {
          count = length S + part.count;
          within = omega (arith, sizes, fewer);
          fewer = λ reached. omega (arith, sizes, fewer);
          only = subst (λ l. OnlyFaults l new) e part.sent;
        }

    pub at-broken : IsTrue (has_spelling m) → Turns Gives Broken h.after m mid new IsNew → Talks Gives s first new Fault (index + 1) IsNew
    at-broken spells t =
        let on = read-on s first now mid left (spelling m) after index IsNow h r in
        let count = h.count_is in
        let faults : mid.faults ≡ first.faults = ap (λ (l : Linking). l.faults) on.is in
        record {
          frames = h.frames ++ m ∷ [];
          sent = h.sent ++ t.sent;
          left = after;
          after = (answer h.after (FrameOf m t.takes.result)).server;
          brings = subst (Brings first.present) (sym (spelled-one h.frames m after)) on.brings;
          answers = answers-one s h.after h.frames h.sent m t.sent IsNew h.answers spells t.takes;
          is = part-on t.sent (index + 1) t.part;
          ends = tt;
          closes = subst (λ n. Rose n new.faults) faults t.rose;
          count_is = omega (arith, count, length-append h.frames (m ∷ []));
          counts = omega (arith, below);
          stands = t.takes.stands;
        }

    -- out of memory while it is answered
    pub stops-answering : IsTrue (has_spelling m) → TurnsInPart Gives h.after m mid new IsNew → TalksInPart Gives s first new
    stops-answering spells (inl same) = subst (TalksInPart Gives s first) (sym same) (stops-reading s first now mid left (spelling m) after index IsNow h below r)
    stops-answering spells (inr t) =
        let on = read-on s first now mid left (spelling m) after index IsNow h r in
        let count = h.count_is in
        record {
          frames = h.frames ++ m ∷ [];
          sent = h.sent ++ t.sent;
          left = after;
          after = (answer h.after (FrameOf m t.takes.result)).server;
          brings = subst (Brings first.present) (sym (spelled-one h.frames m after)) on.brings;
          answers = answers-one s h.after h.frames h.sent m t.sent IsNew h.answers spells t.takes;
          some = part-on t.sent (length (h.frames ++ m ∷ [])) t.part.0;
          faults_stay = t.part.1 ∙ ap (λ (l : Linking). l.faults) on.is;
          few = omega (arith, count, below, length-append h.frames (m ∷ []));
        }

  pub at-limit : (s : Server) (first now : Linking) (left : List ℕ) (index : ℕ) (IsNow : Server → Type 0) → SoFar s first now left index IsNow → index ≡ 1000000 → Talks Gives s first now Limit 1000000 IsNow
  at-limit s first now left index IsNow h reached = record {
    frames = h.frames;
    sent = h.sent;
    left = left;
    after = h.after;
    brings = h.brings;
    answers = h.answers;
    is = h.is;
    ends = tt;
    closes = tt;
    count_is = sym reached ∙ h.count_is;
    counts = refl;
    stands = h.stands;
  }

  -- a server is left as another one would be
  pub left-as : (how : How) (s : Server) (first now : Linking) (count : ℕ) (IsOne IsOther : Server → Type 0) → ((x : Server) → IsOne x → IsOther x) → Talks Gives s first now how count IsOne
      → Talks Gives s first now how count IsOther
  left-as how s first now count IsOne IsOther more t = record {
    frames = t.frames;
    sent = t.sent;
    left = t.left;
    after = t.after;
    brings = t.brings;
    answers = t.answers;
    is = t.is;
    ends = t.ends;
    closes = t.closes;
    count_is = t.count_is;
    counts = t.counts;
    stands = more t.after t.stands;
  }

-- closing the session leads to one end, whether it was closed before or not
pub closed-after : (how : How) (IsNew IsClosed : Server → Type 0) → ((s : Server) → IsNew s → IsClosed (cut_off s)) → (s : Server) → LeftAs how IsNew s → IsClosed (cut_off s)
closed-after End IsNew IsClosed closes s is = closes s is
closed-after Torn IsNew IsClosed closes s is = closes s is
closed-after Fault IsNew IsClosed closes s (inl is) = closes s is
closed-after Fault IsNew IsClosed closes s (inr is) = closes (cut_off s) is
closed-after Bad IsNew IsClosed closes s is = closes s is
closed-after ByRefusal IsNew IsClosed closes s is = closes s is
closed-after Limit IsNew IsClosed closes s is = closes s is

-- so there is one that it is
pub some-left : (how : How) (IsNew : Server → Type 0) (s : Server) → LeftAs how IsNew s → (x : Server) × IsNew x
some-left End IsNew s is = (s, is)
some-left Torn IsNew s is = (s, is)
some-left Fault IsNew s (inl is) = (s, is)
some-left Fault IsNew s (inr is) = (cut_off s, is)
some-left Bad IsNew s is = (s, is)
some-left ByRefusal IsNew s is = (s, is)
some-left Limit IsNew s is = (s, is)
