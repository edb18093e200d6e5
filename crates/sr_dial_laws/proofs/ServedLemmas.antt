-- Calls to a server that serves are explained by what it took.
use Rattle.std.proofs.Common.{◌≡◌, ℕ, Bool, true, false, List, [], ◌∷◌, ◌++◌, append_assoc, append-nil, refl, sym, ◌∙◌, ap, subst, Option, Some, None}
use Rattle.std.specs.Prelude.{◌&&◌, ◌||◌, IfSome, Result, Ok, Err}
use Rattle.std.specs.List.{list_all}
use Rattle.sr_cell.specs.declared.fault.Fault.{Fault}
use Rattle.sr_io.specs.Told.{Connection}
use Rattle.sr_message.specs.declared.message.Message.{Message}
use Rattle.sr_message.specs.declared.message.Message.TheVariants.{Hello, Resume, Ask, Write, Welcome, Notice, Rows, Reply, Written, Refused, Lapse}
use Rattle.sr_model.specs.Statements.{Tables}
use Rattle.sr_wire.specs.Spelling.{has_spelling, spelling}
use Rattle.sr_session.specs.Scenes.{taken}
use Rattle.sr_session.specs.Sessions.{Database, Session, with_version}
use Rattle.sr_links.specs.Honest.{Server, Input, Version, Frame, CutOff, IsPrefix, AreClosedBehind, IsClosedBehind, answer, cut_off, frame_of, frames_of, has_cut, is_cut_off, sent_for, server_after, server_at_last}
use Rattle.sr_links.specs.Steps.{given_of, requests_of}
use Rattle.sr_links.proofs.MendLemmas.{prefix-on}
use Rattle.sr_dial.specs.Calls.{Call, done_in, steps_in}
use Rattle.sr_talk.specs.Rounds.{at_rest}
use Rattle.sr_talk.specs.Serving.{Answers, Conversation, SentAs, spelled}
use Rattle.sr_talk.specs.declared.serve.How.{How}
use Rattle.sr_talk.specs.declared.serve.How.TheVariants.{End, Torn, Fault as HowFault, Bad, Refused as HowRefused, Limit}
use Rattle.sr_talk.proofs.TalkLemmas.{spelled-append}
use Rattle.sr_dial_laws.specs.Honest.{AreExplained, IsExplained, came_over}
use Rattle.sr_dial.specs.Runs.{SentAs as AreSent}
use Rattle.sr_dial_laws.specs.Served.{HaveInputs, IsServedCall, ServedCallsAreExplained, all_served, goes, unheard, with_another}
use Rattle.sr_dial_laws.proofs.HonestLemmas.{Fronts, fronts}

-- ---- beginnings

same-prefix : {X : Type 0} (xs : List X) → IsPrefix xs xs
same-prefix {X} xs = record { rest = []; all = sym (append-nil xs) }

-- what the client sent begins its requests
sent-begins : (short : Bool) (requests : List Message) (sent : List ℕ) → AreSent short requests sent → IsPrefix sent (spelled requests)
sent-begins false requests sent is = subst (λ bytes. IsPrefix bytes (spelled requests)) (sym is) (same-prefix (spelled requests))
sent-begins true requests sent most =
    let all : spelled requests ≡ spelled most.earlier ++ spelling most.last =
    ap spelled most.are ∙ (spelled-append most.earlier (most.last ∷ []) ∙ ap (λ bytes. spelled most.earlier ++ bytes) (append-nil (spelling most.last))) in
    record {
      rest = most.beginning.rest;
      all = all
          ∙ (ap (λ bytes. spelled most.earlier ++ bytes) most.beginning.all
          ∙ (sym (append_assoc (spelled most.earlier) most.part most.beginning.rest) ∙ ap (λ bytes. bytes ++ most.beginning.rest) (sym most.is)));
    }

-- what the server sent begins its answers
answers-begin : (how : How) (sent all : List ℕ) → SentAs how sent all → IsPrefix sent all
answers-begin End sent all is = subst (λ bytes. IsPrefix bytes all) (sym is) (same-prefix all)
answers-begin Torn sent all is = subst (λ bytes. IsPrefix bytes all) (sym is) (same-prefix all)
answers-begin HowFault sent all is = is
answers-begin Bad sent all is = subst (λ bytes. IsPrefix bytes all) (sym is) (same-prefix all)
answers-begin HowRefused sent all is = subst (λ bytes. IsPrefix bytes all) (sym is) (same-prefix all)
answers-begin Limit sent all is = subst (λ bytes. IsPrefix bytes all) (sym is) (same-prefix all)

told-one : (P : Connection → Type 0) (told : Option Connection) (t : Connection) → told ≡ Some t → IfSome told P → P t
told-one P None t is h = absurd (cc)
told-one P (Some u) t is h = subst P (let same : u ≡ t = cc in same) h

-- ---- the inputs of a conversation

module _ (C : Type 0) (Gives : Database → Message → Result Tables Fault → Type 0) where
  -- frames that are taken one after another, and then the session is closed
  record AreInputs (s : Server) (frames sent : List Message) (last : Server) : Type 0 where
    pub inputs : List Input
    pub uncut : has_cut inputs ≡ false
    pub frames_are : frames_of (inputs ++ CutOff ∷ []) ≡ frames
    pub sent_is : sent_for s (inputs ++ CutOff ∷ []) ≡ sent
    pub after : server_after s (inputs ++ CutOff ∷ []) ≡ cut_off last

  are-inputs : (s : Server) (frames sent : List Message) (last : Server) → Answers Gives s frames sent last → AreInputs s frames sent last
  are-inputs s [] sent last (none, same) = record { inputs = []; uncut = refl; frames_are = refl; sent_is = sym none; after = ap cut_off (sym same) }
  are-inputs s (m ∷ frames) sent last (result, more, spells, accepted, gives, is, others) =
      let r : AreInputs (answer s (Frame m result)).server frames more last = are-inputs (answer s (Frame m result)).server frames more last others in
      record {
        inputs = Frame m result ∷ r.inputs;
        uncut = r.uncut;
        frames_are = ap (λ ms. m ∷ ms) r.frames_are;
        sent_is = ap (λ ms. (answer s (Frame m result)).sent ++ ms) r.sent_is ∙ sym is;
        after = r.after;
      }

  -- the frames that were answered are of the format
  frames-spell : (s : Server) (frames sent : List Message) (last : Server) → Answers Gives s frames sent last → list_all has_spelling frames ≡ true
  frames-spell s [] sent last now = refl
  frames-spell s (m ∷ frames) sent last (result, more, spells, accepted, gives, is, others) =
      ap (λ b. b && list_all has_spelling frames) spells ∙ frames-spell (answer s (Frame m result)).server frames more last others

  record IsInput (db : Database) (call : Call C) (after : Server) : Type 0 where
    pub piece : List Input
    pub behind : IsClosedBehind piece
    pub explained : IsExplained (at_rest db) piece call
    pub then_is : server_after (at_rest db) piece ≡ at_rest after.database

  is-input : (db : Database) (call : Call C) (talk : Conversation) (after : Server) → IsServedCall C Gives db call talk after → IsInput db call after
  is-input db call talk after h =
      let i : AreInputs (at_rest db) talk.frames h.served.sent after = are-inputs (at_rest db) talk.frames h.served.sent after h.served.answers in
      let client_sent : IsPrefix h.client.sent (spelled (requests_of (steps_in (done_in call)))) =
      sent-begins (h.short || call.torn) (requests_of (steps_in (done_in call))) h.client.sent
      (told-one (λ t. AreSent (h.short || call.torn) (requests_of (steps_in (done_in call))) t.sent) call.told h.client h.client_is h.carried.sent) in
      let client_took : h.client.taken ≡ came_over call =
      told-one (λ t. t.taken ≡ spelled (given_of (steps_in (done_in call))) ++ call.left) call.told h.client h.client_is h.carried.taken in
      let server_took : h.server.taken ≡ spelled talk.frames ++ h.served.left =
      told-one (λ t. t.taken ≡ spelled talk.frames ++ h.served.left) talk.told h.server h.server_is h.served.taken in
      let server_sent : IsPrefix h.server.sent (spelled h.served.sent) =
      answers-begin talk.how h.server.sent (spelled h.served.sent) (told-one (λ t. SentAs talk.how t.sent (spelled h.served.sent)) talk.told h.server h.server_is h.served.bytes) in
      let asked : IsPrefix (spelled talk.frames ++ h.served.left) (spelled (requests_of (steps_in (done_in call)))) =
      prefix-on (spelled talk.frames ++ h.served.left) h.client.sent (spelled (requests_of (steps_in (done_in call)))) (subst (λ bytes. IsPrefix bytes h.client.sent) server_took h.ends.asked) client_sent in
      let came : IsPrefix (came_over call) (spelled h.served.sent) =
      prefix-on (came_over call) h.server.sent (spelled h.served.sent) (subst (λ bytes. IsPrefix bytes h.server.sent) client_took h.ends.answered) server_sent in
      let f : Fronts talk.frames (requests_of (steps_in (done_in call))) h.served.left =
      fronts talk.frames (requests_of (steps_in (done_in call))) h.served.left asked.rest (frames-spell (at_rest db) talk.frames h.served.sent after h.served.answers) h.requests asked.all in
      record {
        piece = i.inputs ++ CutOff ∷ [];
        behind = (i.inputs, refl, i.uncut);
        explained = record {
          frames = subst (λ ms. IsPrefix ms (requests_of (steps_in (done_in call)))) (sym i.frames_are) f.front;
          spells = subst (λ ms. list_all has_spelling ms ≡ true) (sym i.sent_is) h.answers;
          came = subst (λ ms. IsPrefix (came_over call) (spelled ms)) (sym i.sent_is) came;
        };
        then_is = i.after;
      }

  -- ---- conversations with others

  -- what they make of the versions
  record AreVersions (db last : Database) : Type 0 where
    pub inputs : List Input
    pub uncut : has_cut inputs ≡ false
    pub frames : frames_of inputs ≡ []
    pub sent : sent_for (at_rest db) inputs ≡ []
    pub after : server_after (at_rest db) inputs ≡ at_rest last

  same-version : (db : Database) → AreVersions db db
  same-version db = record { inputs = []; uncut = refl; frames = refl; sent = refl; after = refl }

  one-version : (db : Database) (tables : Tables) → AreVersions db (with_version db tables)
  one-version db tables = record { inputs = Version tables ∷ []; uncut = refl; frames = refl; sent = refl; after = refl }

  frame-version : (db : Database) (session : Option Session) (m : Message) (result : Result Tables Fault) → AreVersions db (taken db session m result).database
  frame-version db None m result = same-version db
  frame-version db (Some session) (Write k sql) (Ok tables) = one-version db tables
  frame-version db (Some session) (Write k sql) (Err fault) = same-version db
  frame-version db (Some session) (Hello wire client k) result = same-version db
  frame-version db (Some session) (Resume wire client k version holdings) result = same-version db
  frame-version db (Some session) (Ask k fresh parts) result = same-version db
  frame-version db (Some session) (Welcome k version kept) result = same-version db
  frame-version db (Some session) (Notice version told) result = same-version db
  frame-version db (Some session) (Rows k part rows) result = same-version db
  frame-version db (Some session) (Reply k version) result = same-version db
  frame-version db (Some session) (Written k version) result = same-version db
  frame-version db (Some session) (Refused k fault) result = same-version db
  frame-version db (Some session) (Lapse version) result = same-version db

  uncut-append : (xs ys : List Input) → has_cut xs ≡ false → has_cut ys ≡ false → has_cut (xs ++ ys) ≡ false
  uncut-append [] ys one two = two
  uncut-append (x ∷ xs) ys one two = by (is_cut_off x) one (λ none. uncut-append xs ys none two)
    where
      by : (b : Bool) → (b || has_cut xs) ≡ false → (has_cut xs ≡ false → has_cut (xs ++ ys) ≡ false) → (b || has_cut (xs ++ ys)) ≡ false
      by true wrong go = absurd (cc)
      by false none go = go none

  frames-append : (xs ys : List Input) → frames_of (xs ++ ys) ≡ frames_of xs ++ frames_of ys
  frames-append [] ys = refl
  frames-append (x ∷ xs) ys = ap (λ ms. frame_of x ++ ms) (frames-append xs ys) ∙ sym (append_assoc (frame_of x) (frames_of xs) (frames_of ys))

  sent-append : (s : Server) (xs ys : List Input) → sent_for s (xs ++ ys) ≡ sent_for s xs ++ sent_for (server_after s xs) ys
  sent-append s [] ys = refl
  sent-append s (x ∷ xs) ys =
      ap (λ ms. (answer s x).sent ++ ms) (sent-append (answer s x).server xs ys) ∙ sym (append_assoc (answer s x).sent (sent_for (answer s x).server xs) (sent_for (server_after (answer s x).server xs) ys))

  after-append : (s : Server) (xs ys : List Input) → server_after s (xs ++ ys) ≡ server_after (server_after s xs) ys
  after-append s [] ys = refl
  after-append s (x ∷ xs) ys = after-append (answer s x).server xs ys

  versions-on : (a b c : Database) → AreVersions a b → AreVersions b c → AreVersions a c
  versions-on a b c one two = record {
    inputs = one.inputs ++ two.inputs;
    uncut = uncut-append one.inputs two.inputs one.uncut two.uncut;
    frames = frames-append one.inputs two.inputs ∙ (ap (λ ms. ms ++ frames_of two.inputs) one.frames ∙ two.frames);
    sent = sent-append (at_rest a) one.inputs two.inputs ∙ (ap (λ ms. ms ++ sent_for (server_after (at_rest a) one.inputs) two.inputs) one.sent ∙ (ap (λ s. sent_for s two.inputs) one.after ∙ two.sent));
    after = after-append (at_rest a) one.inputs two.inputs ∙ (ap (λ s. server_after s two.inputs) one.after ∙ two.after);
  }

  answers-versions : (s : Server) (frames sent : List Message) (last : Server) → Answers Gives s frames sent last → AreVersions s.database last.database
  answers-versions s [] sent last (none, same) = subst (λ (t : Server). AreVersions s.database t.database) (sym same) (same-version s.database)
  answers-versions s (m ∷ frames) sent last (result, more, spells, accepted, gives, is, others) =
      versions-on s.database (answer s (Frame m result)).server.database last.database (frame-version s.database s.session m result) (answers-versions (answer s (Frame m result)).server frames more last others)

  -- the next call comes behind them
  behind-versions : (db mid last : Database) (call : Call C) (calls : List (Call C)) → AreVersions db mid → HaveInputs C Gives mid (call ∷ calls) last → HaveInputs C Gives db (call ∷ calls) last
  behind-versions db mid last call calls v h = by h.pieces h.behind h.explained h.after
    where
      by : (pieces : List (List Input)) → AreClosedBehind pieces → AreExplained (at_rest mid) pieces (call ∷ calls) → server_at_last (at_rest mid) pieces ≡ at_rest last → HaveInputs C Gives db (call ∷ calls) last
      by [] behind explained after = absurd explained
      by (piece ∷ pieces) ((inputs, is, uncut), more_behind) (one, more) after =
          let goes_on : server_after (at_rest db) (v.inputs ++ piece) ≡ server_after (at_rest mid) piece = after-append (at_rest db) v.inputs piece ∙ ap (λ s. server_after s piece) v.after in
          let says : sent_for (at_rest db) (v.inputs ++ piece) ≡ sent_for (at_rest mid) piece =
          sent-append (at_rest db) v.inputs piece ∙ (ap (λ ms. ms ++ sent_for (server_after (at_rest db) v.inputs) piece) v.sent ∙ ap (λ s. sent_for s piece) v.after) in
          let takes : frames_of (v.inputs ++ piece) ≡ frames_of piece = frames-append v.inputs piece ∙ ap (λ ms. ms ++ frames_of piece) v.frames in
          record {
            pieces = (v.inputs ++ piece) ∷ pieces;
            behind = (
              (v.inputs ++ inputs, ap (λ p. v.inputs ++ p) is ∙ sym (append_assoc v.inputs inputs (CutOff ∷ [])), uncut-append v.inputs inputs v.uncut uncut),
              more_behind,
            );
            explained = (
              record {
                frames = subst (λ ms. IsPrefix ms (requests_of (steps_in (done_in call)))) (sym takes) one.frames;
                spells = subst (λ ms. list_all has_spelling ms ≡ true) (sym says) one.spells;
                came = subst (λ ms. IsPrefix (came_over call) (spelled ms)) (sym says) one.came;
              },
              subst (λ s. AreExplained s pieces calls) (sym goes_on) more,
            );
            after = ap (λ s. server_at_last s pieces) goes_on ∙ after;
          }

  -- ---- one after another

  -- a call that found nobody
  nobody : (db last : Database) (call : Call C) (calls : List (Call C)) → came_over call ≡ [] → HaveInputs C Gives db calls last → HaveInputs C Gives db (call ∷ calls) last
  nobody db last call calls none h = record {
    pieces = (CutOff ∷ []) ∷ h.pieces;
    behind = (([], refl, refl), h.behind);
    explained = (
      record {
        frames = record { rest = requests_of (steps_in (done_in call)); all = refl };
        spells = refl;
        came = record { rest = []; all = sym (append-nil (came_over call) ∙ none) };
      },
      h.explained,
    );
    after = h.after;
  }

  pub served-calls-are-explained : ServedCallsAreExplained C Gives
  served-calls-are-explained db last calls talks (all_served now) = record { pieces = []; behind = tt; explained = tt; after = refl }
  served-calls-are-explained db last calls talks (goes was at_last call others talk more after one rest) =
      let i : IsInput db call after = is-input db call talk after one in
      let r : HaveInputs C Gives after.database others last = served-calls-are-explained after.database last others more rest in
      record {
        pieces = i.piece ∷ r.pieces;
        behind = (i.behind, r.behind);
        explained = (i.explained, subst (λ s. AreExplained s r.pieces others) (sym i.then_is) r.explained);
        after = ap (λ s. server_at_last s r.pieces) i.then_is ∙ r.after;
      }
  served-calls-are-explained db last calls talks (unheard was at_last call others more none rest) = nobody db last call others none (served-calls-are-explained db last others more rest)
  served-calls-are-explained db last calls talks (with_another was at_last call others talk more after one rest) =
      behind-versions db after.database last call others (answers-versions (at_rest db) talk.frames one.sent after one.answers) (served-calls-are-explained after.database last (call ∷ others) more rest)
