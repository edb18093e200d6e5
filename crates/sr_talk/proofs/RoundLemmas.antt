-- One connection more.
use Rattle.std.proofs.Common.{◌≡◌, ℕ, ◌+◌, ◌≤◌, List, [], ◌∷◌, ◌++◌, length, take, drop, Option, Some, None, arith, append_assoc, append-nil, refl, sym, ◌∙◌, ap, subst, length-append, option_map, option_to_list}
use Rattle.std.specs.Prelude.{◌≢◌, IfSome, Result}
use Rattle.std.specs.List.{All}
use Rattle.std.proofs.lemmas.Grind.{flat_map-append}
use Rattle.std.proofs.lemmas.List.{take-append-drop, length-take}
use Rattle.std.proofs.lemmas.List.Elements.{All-append, All-cons, All-nil}
use Rattle.sr_cell.specs.declared.fault.Fault.{Fault as TheFault}
use Rattle.sr_io.specs.Causes.{Rose}
use Rattle.sr_io.specs.Told.{Linking, Connection, OnlyFaults, sends, takes, taken_from, connections, connected_at, hung_up, next_peer, IsOver}
use Rattle.sr_message.specs.declared.message.Message.{Message}
use Rattle.sr_model.specs.Statements.{Tables}
use Rattle.sr_session.specs.Sessions.{Database}
use Rattle.sr_links.specs.Honest.{Server}
use Rattle.sr_talk.specs.Serving.{Answers, EndsAs, QuietAs, SentAs, IsWholeAs, CountsAs, FewerAs, Conversation, IsServed, AreServed, AreTold, RoseBy, all_told, count_faults, connection_line, connection_lines, frames_read, is_fault, spelled}
use Rattle.sr_talk.specs.Talked.{SendsSome, SentOn, ClosesAs, EndsAt, Talks, TalksInPart}
use Rattle.sr_talk.specs.Rounds.{at_rest, text_of, Rounds, RoundsInPart, SoMany}
use Rattle.sr_talk.specs.declared.serve.How.{How}
use Rattle.sr_talk.specs.declared.serve.How.TheVariants.{End, Torn, Fault, Bad, Refused, Limit}
use Rattle.sr_talk.specs.declared.serve.Served.{Served}
use Rattle.sr_talk.proofs.PeerLemmas.{keeps-peers}

-- ---- the connection that was made

-- what a link tells of a connection that was made there, took these bytes, and sent those
abbrev after : Option (List ℕ) → Option (List (List ℕ)) → List ℕ → List ℕ → Option Connection
after docked peers T S = option_map (sends S) (option_map (takes T) (next_peer docked peers))

-- the bytes that were sent, whatever the end
record Sent (how : How) (n : ℕ) (all : List ℕ) (l talked : Linking) (T : List ℕ) : Type 0 where
  pub bytes : List ℕ
  pub past : talked.past ≡ connections l
  pub present : talked.present ≡ after l.docked l.peers T bytes
  pub docked : talked.docked ≡ l.docked
  pub are : SentAs how bytes all
  pub fewer : (frames : ℕ) → n ≡ frames_read how frames → FewerAs how frames (length bytes) (length all)

sent : (how : How) (n : ℕ) (all : List ℕ) (l talked : Linking) (T : List ℕ) → SentOn how n all (taken_from T (connected_at l.docked l)) talked → Sent how n all l talked T
sent End n all l talked T is = record { bytes = all; past = ap (λ (l : Linking). l.past) is; present = ap (λ (l : Linking). l.present) is; docked = ap (λ (l : Linking). l.docked) is; are = refl; fewer = λ frames same. tt }
sent Torn n all l talked T is = record { bytes = all; past = ap (λ (l : Linking). l.past) is; present = ap (λ (l : Linking). l.present) is; docked = ap (λ (l : Linking). l.docked) is; are = refl; fewer = λ frames same. tt }
sent Bad n all l talked T is = record { bytes = all; past = ap (λ (l : Linking). l.past) is; present = ap (λ (l : Linking). l.present) is; docked = ap (λ (l : Linking). l.docked) is; are = refl; fewer = λ frames same. tt }
sent Refused n all l talked T is = record { bytes = all; past = ap (λ (l : Linking). l.past) is; present = ap (λ (l : Linking). l.present) is; docked = ap (λ (l : Linking). l.docked) is; are = refl; fewer = λ frames same. tt }
sent Limit n all l talked T is = record { bytes = all; past = ap (λ (l : Linking). l.past) is; present = ap (λ (l : Linking). l.present) is; docked = ap (λ (l : Linking). l.docked) is; are = refl; fewer = λ frames same. tt }
sent Fault n all l talked T s =
    let within = s.within in
    let size : length (take s.count all) ≡ s.count = length-take s.count all ∙ omega (arith, within) in
    record {
      bytes = take s.count all;
      past = s.only.past;
      present = s.only.present;
      docked = s.only.docked;
      are = record { rest = drop s.count all; all = sym (take-append-drop s.count all) };
      fewer = λ frames same reached. (let fewer = s.fewer (same ∙ reached) in omega (arith, size, fewer));
    }

-- how many frames were answered
counts-as : (how : How) (n frames : ℕ) → n ≡ frames_read how frames → EndsAt how n → CountsAs how frames
counts-as End n frames same below = omega (arith, same, below)
counts-as Torn n frames same below = omega (arith, same, below)
counts-as Fault n frames same within = omega (arith, same, within)
counts-as Bad n frames same below = omega (arith, same, below)
counts-as Refused n frames same within = omega (arith, same, within)
counts-as Limit n frames same reached = sym same ∙ reached

-- what is so of that connection, whatever is to come
told-after : (P : Connection → Type 0) (docked : Option (List ℕ)) (peers : Option (List (List ℕ))) (T S : List ℕ)
    → ((address coming : List ℕ) → docked ≡ Some address → P (record { address = address; sent = S; taken = T; coming = coming })) → IfSome (after docked peers T S) P
told-after P None peers T S each = tt
told-after P (Some address) None T S each = tt
told-after P (Some address) (Some []) T S each = tt
told-after P (Some address) (Some (bytes ∷ more)) T S each = each address (drop (length T) bytes) refl

told-over : (present : Option Connection) → IsOver present → IfSome present (λ t. t.coming ≡ [])
told-over None over = tt
told-over (Some t) over = over

told-any : (present : Option Connection) → IfSome present (λ t. Unit {0})
told-any None = tt
told-any (Some t) = tt

told-whole : (how : How) (old new : Linking) → ClosesAs how old new → IfSome new.present (λ t. IsWholeAs how t.coming)
told-whole End old new over = told-over new.present over
told-whole Torn old new over = told-over new.present over
told-whole Fault old new rose = told-any new.present
told-whole Bad old new none = told-any new.present
told-whole Refused old new none = told-any new.present
told-whole Limit old new none = told-any new.present

-- ---- which connections are told

-- these are told, where the address and the peers are
abbrev told-where : Option (List ℕ) → Option (List (List ℕ)) → List Conversation → Type 0
told-where docked peers cs = IfSome docked (λ address. IfSome peers (λ ps. All (λ (c : Conversation). c.told ≢ None) cs))

-- one that was made with a peer
one-told : (docked : Option (List ℕ)) (peers : Option (List (List ℕ))) (T S : List ℕ) (c : Conversation) → peers ≢ Some [] → c.told ≡ after docked peers T S → told-where docked peers (c ∷ [])
one-told None peers T S c some is = tt
one-told (Some address) None T S c some is = tt
one-told (Some address) (Some []) T S c some is = absurd (some refl)
one-told (Some address) (Some (bytes ∷ more)) T S c some is = All-cons (λ (c : Conversation). c.told ≢ None) c [] (λ none. absurd (cc)) (All-nil (λ (c : Conversation). c.told ≢ None))

none-told-where : (docked : Option (List ℕ)) (peers : Option (List (List ℕ))) → told-where docked peers []
none-told-where None peers = tt
none-told-where (Some address) None = tt
none-told-where (Some address) (Some ps) = All-nil (λ (c : Conversation). c.told ≢ None)

pub none-told : (l : Linking) → AreTold l []
none-told l = none-told-where l.docked l.peers

-- behind these, one more at a later link
pub more-told : (docked docked_now : Option (List ℕ)) (peers peers_now : Option (List (List ℕ))) (cs : List Conversation) (c : Conversation) → docked_now ≡ docked → IfSome peers (λ ps. peers_now ≢ None)
    → told-where docked peers cs → told-where docked_now peers_now (c ∷ []) → told-where docked peers (cs ++ c ∷ [])
more-told None docked_now peers peers_now cs c same stay before here = tt
more-told (Some address) docked_now None peers_now cs c same stay before here = tt
more-told (Some address) None (Some ps) peers_now cs c same stay before here = absurd (cc)
more-told (Some address) (Some now) (Some ps) None cs c same stay before here = absurd (stay refl)
more-told (Some address) (Some now) (Some ps) (Some others) cs c same stay before here = All-append (λ (c : Conversation). c.told ≢ None) cs (c ∷ []) before here

pub same-peers : (peers : Option (List (List ℕ))) → IfSome peers (λ ps. peers ≢ None)
same-peers None = tt
same-peers (Some ps) = λ none. absurd (cc)

pub peers-on : (one two three : Option (List (List ℕ))) → IfSome one (λ ps. two ≢ None) → IfSome two (λ ps. three ≢ None) → IfSome one (λ ps. three ≢ None)
peers-on None two three first then = tt
peers-on (Some ps) None three first then = absurd (first refl)
peers-on (Some ps) (Some others) three first then = then

-- ---- its faults

rose-by : (how : How) (before : ℕ) (old new : Linking) → old.faults ≡ before → before ≤ new.faults → ClosesAs how old new → RoseBy before (is_fault how) new.faults
rose-by End before old new same up closes = omega (arith, up)
rose-by Torn before old new same up closes = omega (arith, up)
rose-by Fault before old new same up closes = subst (λ n. Rose n new.faults) same closes
rose-by Bad before old new same up closes = omega (arith, up)
rose-by Refused before old new same up closes = omega (arith, up)
rose-by Limit before old new same up closes = omega (arith, up)

-- none, unless it ended by one
quiet-as : (how : How) (n : ℕ) (all T : List ℕ) (l made talked new : Linking) → made ≡ connected_at l.docked l → SentOn how n all (taken_from T made) talked → new ≡ hung_up talked → QuietAs how l.faults new.faults
quiet-as End n all T l made talked new is said gone = ap (λ (l : Linking). l.faults) gone ∙ (ap (λ (l : Linking). l.faults) said ∙ ap (λ (l : Linking). l.faults) is)
quiet-as Torn n all T l made talked new is said gone = ap (λ (l : Linking). l.faults) gone ∙ (ap (λ (l : Linking). l.faults) said ∙ ap (λ (l : Linking). l.faults) is)
quiet-as Fault n all T l made talked new is said gone = tt
quiet-as Bad n all T l made talked new is said gone = ap (λ (l : Linking). l.faults) gone ∙ (ap (λ (l : Linking). l.faults) said ∙ ap (λ (l : Linking). l.faults) is)
quiet-as Refused n all T l made talked new is said gone = ap (λ (l : Linking). l.faults) gone ∙ (ap (λ (l : Linking). l.faults) said ∙ ap (λ (l : Linking). l.faults) is)
quiet-as Limit n all T l made talked new is said gone = ap (λ (l : Linking). l.faults) gone ∙ (ap (λ (l : Linking). l.faults) said ∙ ap (λ (l : Linking). l.faults) is)

pub quiet-one : (how : How) (before now : ℕ) → is_fault how ≡ 0 → QuietAs how before now → now ≡ before
quiet-one End before now none quiet = quiet
quiet-one Torn before now none quiet = quiet
quiet-one Fault before now none quiet = absurd (cc)
quiet-one Bad before now none quiet = quiet
quiet-one Refused before now none quiet = quiet
quiet-one Limit before now none quiet = quiet

-- ---- its line

-- how many whole frames were read
abbrev read : Conversation → ℕ
read c = frames_read c.how (length c.frames)

module _ (Gives : Database → Message → Result Tables TheFault → Type 0) where
  -- what was said over the connection is a conversation
  served-as : (db : Database) (how : How) (n : ℕ) (frames answered : List Message) (left : List ℕ) (last : Server) (l talked : Linking) → Sent how n (spelled answered) l talked (spelled frames ++ left)
      → Answers Gives (at_rest db) frames answered last → EndsAs how last left → IfSome talked.present (λ t. IsWholeAs how t.coming) → n ≡ frames_read how (length frames) → EndsAt how n
      → IsServed Gives db (record { frames = frames; how = how; told = talked.present }) last
  served-as db how n frames answered left last l talked s answers ends whole count_is counts =
      let T : List ℕ = spelled frames ++ left in
      let all : List ℕ = spelled answered in
      record {
        sent = answered;
        left = left;
        answers = answers;
        ends = ends;
        taken = subst (λ p. IfSome p (λ t. t.taken ≡ T)) (sym s.present) (told-after (λ t. t.taken ≡ T) l.docked l.peers T s.bytes (λ address coming is. refl));
        bytes = subst (λ p. IfSome p (λ t. SentAs how t.sent all)) (sym s.present) (told-after (λ t. SentAs how t.sent all) l.docked l.peers T s.bytes (λ address coming is. s.are));
        whole = whole;
        counts = counts-as how n (length frames) count_is counts;
        fewer = subst (λ p. IfSome p (λ t. FewerAs how (length frames) (length t.sent) (length all))) (sym s.present)
            (told-after (λ t. FewerAs how (length frames) (length t.sent) (length all)) l.docked l.peers T s.bytes (λ address coming is. s.fewer (length frames) count_is));
      }

  -- it came at the docked address
  came-at : (how : How) (n : ℕ) (all T : List ℕ) (l talked : Linking) → Sent how n all l talked T → IfSome talked.present (λ t. l.docked ≡ Some t.address)
  came-at how n all T l talked s =
      subst (λ p. IfSome p (λ t. l.docked ≡ Some t.address)) (sym s.present) (told-after (λ t. l.docked ≡ Some t.address) l.docked l.peers T s.bytes (λ address coming is. is))

  pub round : (db : Database) (l made talked new : Linking) (served : Served) (IsAfter IsNew : Server → Type 0) → l.peers ≢ Some [] → made ≡ connected_at l.docked l
      → Talks Gives (at_rest db) made talked served.how served.frames IsAfter → ((s : Server) → IsAfter s → IsNew (at_rest s.database)) → new ≡ hung_up talked → l.faults ≤ talked.faults
      → Rounds Gives db l new served IsNew
  round db l made talked new served IsAfter IsNew some_peer made_is talks stands gone up =
      let T : List ℕ = spelled talks.frames ++ talks.left in
      let s : Sent served.how served.frames (spelled talks.sent) l talked T =
      sent served.how served.frames (spelled talks.sent) l talked T (subst (λ m. SentOn served.how served.frames (spelled talks.sent) (taken_from T m) talked) made_is talks.is) in
      let conversation : Conversation = record { frames = talks.frames; how = served.how; told = talked.present } in
      record {
        conversation = conversation;
        after = talks.after;
        how_is = refl;
        count_is = talks.count_is;
        is = served-as db served.how served.frames talks.frames talks.sent talks.left talks.after l talked s talks.answers talks.ends (told-whole served.how made talked talks.closes) talks.count_is talks.counts;
        made = ap connections gone ∙ (append-nil (connections talked) ∙ ap (λ x. x ++ option_to_list talked.present) s.past);
        came_at = came-at served.how served.frames (spelled talks.sent) T l talked s;
        hung_up = ap (λ (l : Linking). l.is_up) gone;
        is_told = one-told l.docked l.peers T s.bytes conversation some_peer s.present;
        docked = ap (λ (l : Linking). l.docked) gone ∙ s.docked;
        peers_stay = keeps-peers served.how served.frames (spelled talks.sent) T l made talked new made_is talks.is gone;
        faults = rose-by served.how l.faults made new (ap (λ (l : Linking). l.faults) made_is) (subst (λ (t : Linking). l.faults ≤ t.faults) (sym gone) up) (closes-on served.how made talked new talks.closes gone);
        quiet = quiet-as served.how served.frames (spelled talks.sent) T l made talked new made_is talks.is gone;
        stands = stands talks.after talks.stands;
      }
    where
      closes-on : (how : How) (old talked new : Linking) → ClosesAs how old talked → new ≡ hung_up talked → ClosesAs how old new
      closes-on End old talked new closes gone = subst (λ (l : Linking). IsOver l.present) (sym gone) tt
      closes-on Torn old talked new closes gone = subst (λ (l : Linking). IsOver l.present) (sym gone) tt
      closes-on Fault old talked new closes gone = subst (λ (l : Linking). Rose old.faults l.faults) (sym gone) closes
      closes-on Bad old talked new closes gone = tt
      closes-on Refused old talked new closes gone = tt
      closes-on Limit old talked new closes gone = tt

  -- ---- out of memory

  -- none was made
  abbrev pub none-made : (db : Database) (l new : Linking) → OnlyFaults l new → new.faults ≡ l.faults → RoundsInPart Gives db l new
  none-made db l new only same = record {
    cut_short = None;
    is = tt;
    made = ap (λ past. past ++ option_to_list new.present) only.past ∙ (ap (λ present. l.past ++ option_to_list present) only.present ∙ sym (append-nil (connections l)));
    came_at = tt;
    is_told = none-told l;
    faults_stay = same;
  }

  -- one was cut short
  pub one-cut-short : (db : Database) (l made talked : Linking) → l.peers ≢ Some [] → made ≡ connected_at l.docked l → TalksInPart Gives (at_rest db) made talked → RoundsInPart Gives db l talked
  one-cut-short db l made talked some_peer made_is talks =
      let T : List ℕ = spelled talks.frames ++ talks.left in
      let n : ℕ = length talks.frames in
      let s : Sent Fault n (spelled talks.sent) l talked T = sent Fault n (spelled talks.sent) l talked T (subst (λ m. SendsSome n (spelled talks.sent) (taken_from T m) talked) made_is talks.some) in
      let conversation : Conversation = record { frames = talks.frames; how = Fault; told = talked.present } in
      record {
        cut_short = Some conversation;
        is = record {
          failed = refl;
          after = talks.after;
          is = served-as db Fault n talks.frames talks.sent talks.left talks.after l talked s talks.answers tt (told-any talked.present) refl talks.few;
        };
        made = ap (λ x. x ++ option_to_list talked.present) s.past ∙ ap (λ x. connections l ++ x) (sym (append-nil (option_to_list talked.present)));
        came_at = came-at Fault n (spelled talks.sent) T l talked s;
        is_told = one-told l.docked l.peers T s.bytes conversation some_peer s.present;
        faults_stay = talks.faults_stay ∙ ap (λ (l : Linking). l.faults) made_is;
      }

  -- ---- several

  pub served-one : (db last : Database) (cs : List Conversation) (c : Conversation) (after : Server) → AreServed Gives db cs last → IsServed Gives last c after → AreServed Gives db (cs ++ c ∷ []) after.database
  served-one db last [] c after same is = (after, subst (λ x. IsServed Gives x c after) same is, refl)
  served-one db last (first ∷ cs) c after (mid, one, others) is = (mid, one, served-one mid.database last cs c after others is)

  pub told-one : (cs : List Conversation) (c : Conversation) → all_told (cs ++ c ∷ []) ≡ all_told cs ++ option_to_list c.told
  told-one [] c = append-nil (option_to_list c.told)
  told-one (first ∷ cs) c = ap (λ x. option_to_list first.told ++ x) (told-one cs c) ∙ sym (append_assoc (option_to_list first.told) (all_told cs) (option_to_list c.told))

  pub faults-one : (cs : List Conversation) (c : Conversation) → count_faults (cs ++ c ∷ []) ≡ count_faults cs + is_fault c.how
  faults-one [] c = omega arith
  faults-one (first ∷ cs) c = let more = faults-one cs c in omega (arith, more)

  lines-one : (i : ℕ) (cs : List Conversation) (c : Conversation) → connection_lines i (cs ++ c ∷ []) ≡ connection_lines i cs ++ connection_line (i + length cs) c.how (read c) ∷ []
  lines-one i [] c = ap (λ k. connection_line k c.how (read c) ∷ []) (omega arith)
  lines-one i (first ∷ cs) c =
      ap (λ x. connection_line i first.how (read first) ∷ x)
      (lines-one (i + 1) cs c ∙ ap (λ k. connection_lines (i + 1) cs ++ connection_line k c.how (read c) ∷ []) (omega arith))

  pub texts-one : (cs : List Conversation) (c : Conversation) → text_of (connection_lines 1 (cs ++ c ∷ [])) ≡ text_of (connection_lines 1 cs) ++ connection_line (length cs + 1) c.how (read c)
  texts-one cs c =
      ap text_of (lines-one 1 cs c ∙ ap (λ k. connection_lines 1 cs ++ connection_line k c.how (read c) ∷ []) (omega arith))
      ∙ (flat_map-append (λ line. line) (connection_lines 1 cs) (connection_line (length cs + 1) c.how (read c) ∷ [])
      ∙ ap (λ x. text_of (connection_lines 1 cs) ++ x) (append-nil (connection_line (length cs + 1) c.how (read c))))

  abbrev pub none-so-far : (db : Database) (l : Linking) (IsNow : Server → Type 0) → IsNow (at_rest db) → SoMany Gives db l l 0 IsNow
  none-so-far db l IsNow stands = record { conversations = []; last = db; served = refl; made = sym (append-nil (connections l)); came_at = All-nil (λ t. l.docked ≡ Some t.address); each_told = none-told l; hung_up = λ some. absurd (some refl); docked = refl; peers_stay = same-peers l.peers; number = refl; faults = omega arith; quiet = λ none. refl; stands = stands }

  pub all-at : (docked now : Option (List ℕ)) (cs : List Conversation) (c : Conversation) → now ≡ docked → All (λ t. docked ≡ Some t.address) (all_told cs) → IfSome c.told (λ t. now ≡ Some t.address)
      → All (λ t. docked ≡ Some t.address) (all_told (cs ++ c ∷ []))
  all-at docked now cs c same before here =
      subst (All (λ t. docked ≡ Some t.address)) (sym (told-one cs c)) (All-append (λ t. docked ≡ Some t.address) (all_told cs) (option_to_list c.told) before (by c.told here))
    where
      by : (told : Option Connection) → IfSome told (λ t. now ≡ Some t.address) → All (λ t. docked ≡ Some t.address) (option_to_list told)
      by None here = All-nil (λ t. docked ≡ Some t.address)
      by (Some t) here = All-cons (λ t. docked ≡ Some t.address) t [] (sym same ∙ here) (All-nil (λ t. docked ≡ Some t.address))

  -- what a link tells behind these, and one that was cut short, or none
  pub record WithCutShort (old new : Linking) (cs : List Conversation) (cut_short : Option Conversation) : Type 0 where
    pub made : connections new ≡ connections old ++ all_told (cs ++ option_to_list cut_short)
    pub came_at : All (λ t. old.docked ≡ Some t.address) (all_told (cs ++ option_to_list cut_short))
    pub each_told : AreTold old (cs ++ option_to_list cut_short)

  pub with-cut-short : (db : Database) (old now new : Linking) (count : ℕ) (IsNow : Server → Type 0) → (h : SoMany Gives db old now count IsNow) → (r : RoundsInPart Gives h.last now new) → WithCutShort old new h.conversations r.cut_short
  with-cut-short db old now new count IsNow h r = by r.cut_short r.made r.came_at r.is_told
    where
      by : (x : Option Conversation) → connections new ≡ connections now ++ all_told (option_to_list x) → IfSome x (λ c. IfSome c.told (λ t. now.docked ≡ Some t.address)) → AreTold now (option_to_list x)
          → WithCutShort old new h.conversations x
      by None made came_at told =
          let none : h.conversations ++ [] ≡ h.conversations = append-nil h.conversations in
          record {
            made = subst (λ cs. connections new ≡ connections old ++ all_told cs) (sym none) (made ∙ (append-nil (connections now) ∙ h.made));
            came_at = subst (λ cs. All (λ t. old.docked ≡ Some t.address) (all_told cs)) (sym none) h.came_at;
            each_told = subst (AreTold old) (sym none) h.each_told;
          }
      by (Some c) made came_at told = record {
        made = made ∙ (ap (λ x. connections now ++ x) (append-nil (option_to_list c.told)) ∙ (ap (λ x. x ++ option_to_list c.told) h.made
            ∙ (append_assoc (connections old) (all_told h.conversations) (option_to_list c.told) ∙ ap (λ x. connections old ++ x) (sym (told-one h.conversations c)))));
        came_at = all-at old.docked now.docked h.conversations c h.docked h.came_at came_at;
        each_told = more-told old.docked now.docked old.peers now.peers h.conversations c h.docked h.peers_stay h.each_told told;
      }

  abbrev pub one-more : (db : Database) (old now new : Linking) (count : ℕ) (served : Served) (IsNow IsNew : Server → Type 0) → (h : SoMany Gives db old now count IsNow) → Rounds Gives h.last now new served IsNew
      → SoMany Gives db old new (count + 1) IsNew
  one-more db old now new count served IsNow IsNew h r =
      let number = h.number in
      let before = h.faults in
      let here : RoseBy now.faults (is_fault r.conversation.how) new.faults = subst (λ how. RoseBy now.faults (is_fault how) new.faults) (sym r.how_is) r.faults in
      let sum = faults-one h.conversations r.conversation in
      record {
        conversations = h.conversations ++ r.conversation ∷ [];
        last = r.after.database;
        served = served-one db h.last h.conversations r.conversation r.after h.served r.is;
        made = r.made ∙ (ap (λ x. x ++ option_to_list r.conversation.told) h.made
            ∙ (append_assoc (connections old) (all_told h.conversations) (option_to_list r.conversation.told) ∙ ap (λ x. connections old ++ x) (sym (told-one h.conversations r.conversation))));
        came_at = all-at old.docked now.docked h.conversations r.conversation h.docked h.came_at r.came_at;
        each_told = more-told old.docked now.docked old.peers now.peers h.conversations r.conversation h.docked h.peers_stay h.each_told r.is_told;
        hung_up = λ some. r.hung_up;
        docked = r.docked ∙ h.docked;
        peers_stay = peers-on old.peers now.peers new.peers h.peers_stay r.peers_stay;
        number = omega (arith, number, length-append h.conversations (r.conversation ∷ []));
        faults = omega (arith, before, here, sum);
        quiet = λ none. (let how : is_fault r.conversation.how ≡ 0 = omega (arith, sum, none) in
            quiet-one served.how now.faults new.faults (subst (λ h. is_fault h ≡ 0) r.how_is how) r.quiet ∙ h.quiet (omega (arith, sum, none)));
        stands = r.stands;
      }

  pub same-line : (db : Database) (now new : Linking) (served : Served) (number : ℕ) (IsNew : Server → Type 0) (r : Rounds Gives db now new served IsNew)
      → connection_line number served.how served.frames ≡ connection_line number r.conversation.how (read r.conversation)
  same-line db now new served number IsNew r =
      ap (λ n. connection_line number served.how n) r.count_is ∙ ap (λ how. connection_line number how (frames_read how (length r.conversation.frames))) (sym r.how_is)
