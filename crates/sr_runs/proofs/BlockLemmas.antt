-- Which blocks the lines of an event are made of.
use Rattle.std.proofs.Common.{◌≡◌, ℕ, ◌+◌, Bool, true, false, List, [], ◌∷◌, ◌++◌, length, refl, sym, ◌∙◌, ap, Option, Some, None, inl, inr}
use Rattle.std.specs.Prelude.{map, Result, ◌⊎◌}
use Rattle.std.specs.List.{list_any}
use Rattle.std.proofs.lemmas.List.{append_assoc}
use Rattle.sr_cell.specs.declared.fault.Fault.{Fault}
use Rattle.sr_cell.specs.Cells.{Row}
use Rattle.sr_message.specs.declared.message.AskPart.{AskPart}
use Rattle.sr_message.specs.declared.message.Message.{Message}
use Rattle.sr_message.specs.declared.message.Message.TheVariants.{Hello, Resume, Ask, Write, Welcome, Notice, Rows, Reply, Written, Refused, Lapse}
use Rattle.sr_model.specs.Queries.{Query}
use Rattle.sr_history.specs.declared.mark.Mark.{Mark}
use Rattle.sr_history.specs.declared.mark.Mark.TheVariants.{Held, Dropped}
use Rattle.sr_script.specs.declared.line.TraceLine.{TraceLine}
use Rattle.sr_script.specs.declared.line.TraceLine.TheVariants as line
use Rattle.sr_session.specs.Sessions.{newest, serve_push}
use Rattle.sr_session.specs.Walks.{AskOut, Request, ResumeOut, WriteOut}
use Rattle.sr_session.specs.Clients.{Client}
use Rattle.sr_session.specs.Rules.{Answered, AskSent, Basis, CutStep, EvictStep, Outcome, QueryStep, ResumeSent, ResumeStep, TakeStep, WriteStep, already_cut, already_up, answers, applies, asks_once_more, cuts, evict_busy, evicts, evicts_none, forgets, is_welcomed, lays, next_query, number_of, query_answered, query_asks, query_busy, query_down, query_refused, refused_write, resumes, write_busy, write_down, write_sends, written}
use Rattle.sr_session.specs.Scenes.{CutOf, Did, Event, EvictOf, Happens, QueryOf, Report, ResumeOf, Scene, ToClient, WriteOf, basis_of, client_idle, client_of, client_took, cut, evicted, executed, not_executed, push_closed, pushed, queried, resumed, server_idle, server_took, taken, wrote}
use Rattle.sr_runs.specs.Lines.{answer_lines, ask_lines, fail_lines, lines_of, mark_line, mark_lines, part_line, resume_line, served_line}
use Rattle.sr_runs.proofs.Splits.{Side, found, in_left, in_right, lacks-both, lacks-map, one-head, split}

-- the line that a block of an answer or an ask begins with
abbrev pub is_head : TraceLine → Bool
is_head (line.Answer n query version rows) = true
is_head (line.Ask n request fresh parts) = true
is_head other = false

marks-lack : (n : ℕ) (marks : List Mark) → list_any is_head (mark_lines n marks) ≡ false
marks-lack n marks = lacks-map is_head (mark_line n) marks one
  where
    one : (m : Mark) → is_head (mark_line n m) ≡ false
    one (Held t attrs rects) = refl
    one (Dropped cause t attrs stamp rects) = refl

-- The lines of what came of an event: marks and a last line, or these with one block of an answer or an ask.
pub data Blocks (event : Event) : Report → Type 0 where
  plain : (report : Report) (marks : List Mark) (last : List TraceLine) → list_any is_head last ≡ false
      → lines_of event report ≡ mark_lines (client_of event) marks ++ last → Blocks event report
  an_answer : (query version : ℕ) (rows : List Row) (marks : List Mark) (last : List TraceLine) → list_any is_head last ≡ false
      → lines_of event (Did (Answered query version rows marks)) ≡ answer_lines (client_of event) query version rows ++ (mark_lines (client_of event) marks ++ last)
      → Blocks event (Did (Answered query version rows marks))
  an_ask : (drops : List Mark) (request : ℕ) (fresh : Bool) (parts : List AskPart) (last : List TraceLine) → list_any is_head last ≡ false
      → lines_of event (Did (AskSent drops request fresh parts)) ≡ mark_lines (client_of event) drops ++ (ask_lines (client_of event) request fresh parts ++ last)
      → Blocks event (Did (AskSent drops request fresh parts))

fails-lack : (n x : ℕ) (ended : Option Request) → list_any is_head (fail_lines n ended ++ line.CutDone n x ∷ []) ≡ false
fails-lack n x None = refl
fails-lack n x (Some (AskOut number query meaning fresh parts)) = refl
fails-lack n x (Some (WriteOut number)) = refl
fails-lack n x (Some (ResumeOut number)) = refl

resume-lacks : (n : ℕ) (m : Message) → list_any is_head (resume_line n (ResumeSent m)) ≡ false
resume-lacks n (Hello wire client k) = refl
resume-lacks n (Resume wire client k at holdings) = refl
resume-lacks n (Ask k fresh parts) = refl
resume-lacks n (Write k sql) = refl
resume-lacks n (Welcome k at kept) = refl
resume-lacks n (Notice at told) = refl
resume-lacks n (Rows k part rows) = refl
resume-lacks n (Reply k at) = refl
resume-lacks n (Written k at) = refl
resume-lacks n (Refused k fault) = refl
resume-lacks n (Lapse at) = refl

served-lacks : (n sent : ℕ) (m : Message) → list_any is_head (served_line n sent m) ≡ false
served-lacks n sent (Hello wire client k) = refl
served-lacks n sent (Resume wire client k at holdings) = refl
served-lacks n sent (Ask k fresh parts) = refl
served-lacks n sent (Write k sql) = refl
served-lacks n sent (Welcome k at kept) = refl
served-lacks n sent (Notice at told) = refl
served-lacks n sent (Rows k part rows) = refl
served-lacks n sent (Reply k at) = refl
served-lacks n sent (Written k at) = refl
served-lacks n sent (Refused k fault) = refl
served-lacks n sent (Lapse at) = refl

module _ (b : Basis) (n : ℕ) where
  query-blocks : (text : Result Query Fault) (c : Client) (o : Outcome) (new : Client) → QueryStep b c text o new → Blocks (QueryOf n text) (Did o)
  query-blocks text c o new (query_refused fault) = plain _ [] (line.QuerySql n fault ∷ []) refl refl
  query-blocks text c o new (query_busy q request out) = plain _ [] (line.QueryBusy n (number_of request) ∷ []) refl refl
  query-blocks text c o new (query_answered q rows marks after out asks are step) =
      an_answer (next_query c) c.version rows marks (line.QueryAnswered n (next_query c) ∷ []) refl
      (append_assoc (answer_lines n (next_query c) c.version rows) (mark_lines n marks) (line.QueryAnswered n (next_query c) ∷ []))
  query-blocks text c o new (query_down q out down left) = plain _ [] (line.QueryDown n c.cuts ∷ []) refl refl
  query-blocks text c o new (query_asks q drops old ask others fresh out before up asks few mode) =
      an_ask drops old.next_request fresh (ask ∷ others) (line.QueryAsked n old.next_request ∷ []) refl
      (append_assoc (mark_lines n drops) (ask_lines n old.next_request fresh (ask ∷ others)) (line.QueryAsked n old.next_request ∷ []))

  take-blocks : (m : Message) (c : Client) (o : Outcome) (new : Client) → TakeStep b c m o new → Blocks (ToClient n) (Did o)
  take-blocks m c o new (lays request x out laid own) = plain _ [] (line.ClientLaid n ∷ []) refl refl
  take-blocks m c o new (applies w told drops out later met) = plain _ drops (line.ClientApplied n w ∷ []) refl refl
  take-blocks m c o new (forgets w drops out later all) = plain _ drops (line.ClientForgot n w ∷ []) refl refl
  take-blocks m c o new (answers number query q fresh parts w rows marks after out whole later are step) =
      an_answer query w rows marks (line.ClientAnswered n ∷ []) refl (append_assoc (answer_lines n query w rows) (mark_lines n marks) (line.ClientAnswered n ∷ []))
  take-blocks m c o new (asks_once_more number query q fresh parts w drops whole out again later all asks few) =
      an_ask drops c.next_request true whole (line.ClientAsked n c.next_request ∷ []) refl
      (append_assoc (mark_lines n drops) (ask_lines n c.next_request true whole) (line.ClientAsked n c.next_request ∷ []))
  take-blocks m c o new (written number w drops out later d) = plain _ drops (line.ClientWritten n number w ∷ []) refl refl
  take-blocks m c o new (refused_write number fault drops out later d) = plain _ drops (line.ClientRefused n number fault ∷ []) refl refl
  take-blocks m c o new (is_welcomed number w keeps drops out later d) = plain _ drops (line.ClientWelcome n w keeps ∷ []) refl refl

  write-blocks : (sql : List ℕ) (c : Client) (o : Outcome) (new : Client) → WriteStep sql c o new → Blocks (WriteOf n sql) (Did o)
  write-blocks sql c o new (write_busy request out) = plain _ [] (line.WriteBusy n (number_of request) ∷ []) refl refl
  write-blocks sql c o new (write_down out down) = plain _ [] (line.WriteDown n c.cuts ∷ []) refl refl
  write-blocks sql c o new (write_sends out up) = plain _ [] (line.WriteSent n c.next_request ∷ []) refl refl

  evict-blocks : (place : ℕ) (c : Client) (o : Outcome) (new : Client) → EvictStep b place c o new → Blocks (EvictOf n place) (Did o)
  evict-blocks place c o new (evict_busy request out) = plain _ [] (line.EvictBusy n (number_of request) ∷ []) refl refl
  evict-blocks place c o new (evicts_none classes out are few) = plain _ [] (line.EvictNone n (length classes) ∷ []) refl refl
  evict-blocks place c o new (evicts classes chosen d out are at drop) = plain _ (d ∷ []) (line.EvictDropped n ∷ []) refl refl

  cut-blocks : (c : Client) (o : Outcome) (new : Client) → CutStep c o new → Blocks (CutOf n) (Did o)
  cut-blocks c o new (already_cut down) = plain _ [] (line.CutAlready n c.cuts ∷ []) refl refl
  cut-blocks c o new (cuts up) = plain _ [] (fail_lines n c.out ++ line.CutDone n (c.cuts + 1) ∷ []) (fails-lack n (c.cuts + 1) c.out) refl

  resume-blocks : (c : Client) (o : Outcome) (new : Client) → ResumeStep b.schema c o new → Blocks (ResumeOf n) (Did o)
  resume-blocks c o new (already_up up) = plain _ [] (line.ResumeUp n ∷ []) refl refl
  resume-blocks c o new (resumes m down is) = plain _ [] (resume_line n (ResumeSent m)) (resume-lacks n m) refl

pub blocks : (s new : Scene) (event : Event) (report : Report) → Happens s event report new → Blocks event report
blocks s new event report (executed tables) = plain _ [] (line.ExecVersion (newest s.database + 1) ∷ []) refl refl
blocks s new event report (not_executed fault) = plain _ [] (line.ExecRefused fault ∷ []) refl refl
blocks s new event report (queried n text old o c is step) = query-blocks (basis_of s) n text old.client o c step
blocks s new event report (wrote n sql old o c is step) = write-blocks (basis_of s) n sql old.client o c step
blocks s new event report (evicted n place old o c is step) = evict-blocks (basis_of s) n place old.client o c step
blocks s new event report (cut n old o c is step) = cut-blocks (basis_of s) n old.client o c step
blocks s new event report (resumed n old o c is step) = resume-blocks (basis_of s) n old.client o c step
blocks s new event report (pushed n old session is opened) = plain _ [] (line.PushSent n (length (serve_push s.database session).sent) ∷ []) refl refl
blocks s new event report (push_closed n old is closed) = plain _ [] (line.PushClosed n ∷ []) refl refl
blocks s new event report (server_idle n result old is empty) = plain _ [] (line.ServerEmpty n ∷ []) refl refl
blocks s new event report (server_took n result old m queue is first) =
    let sent = length (taken s.database old.connection.session m result).served.sent in
    plain _ [] (served_line n sent m) (served-lacks n sent m) refl
blocks s new event report (client_idle n old is empty) = plain _ [] (line.ClientEmpty n ∷ []) refl refl
blocks s new event report (client_took n old m queue o c is first step) = take-blocks (basis_of s) n m old.client o c step

-- ---- what stands at the head of a block

-- the line is that of an answer, and its rows stand behind it
pub record HeadsAnswer (event : Event) (report : Report) (l : TraceLine) (own : List TraceLine) : Type 0 where
  pub query : ℕ
  pub version : ℕ
  pub rows : List Row
  pub marks : List Mark
  pub report_is : report ≡ Did (Answered query version rows marks)
  pub line_is : line.Answer (client_of event) query version (length rows) ≡ l
  pub more : List TraceLine
  pub own_is : own ≡ map line.Row rows ++ more

-- the line is that of an ask, and its parts stand behind it
pub record HeadsAsk (event : Event) (report : Report) (l : TraceLine) (own : List TraceLine) : Type 0 where
  pub drops : List Mark
  pub request : ℕ
  pub fresh : Bool
  pub parts : List AskPart
  pub report_is : report ≡ Did (AskSent drops request fresh parts)
  pub line_is : line.Ask (client_of event) request fresh (length parts) ≡ l
  pub more : List TraceLine
  pub own_is : own ≡ map part_line parts ++ more

pub lacks-here : (lines front : List TraceLine) (l : TraceLine) (own : List TraceLine) → list_any is_head lines ≡ false → is_head l ≡ true → lines ≡ front ++ l ∷ own → ⊥
lacks-here lines front l own lacks is there =
    let wrong : false ≡ true = sym lacks ∙ (ap (list_any is_head) there ∙ found is_head front l own is) in absurd (cc)

pub heads : (event : Event) (report : Report) → Blocks event report → (front : List TraceLine) (l : TraceLine) (own : List TraceLine) → is_head l ≡ true
    → lines_of event report ≡ front ++ l ∷ own → HeadsAnswer event report l own ⊎ HeadsAsk event report l own
heads event report (plain r marks last lacks are) front l own is there =
    absurd (lacks-here (mark_lines (client_of event) marks ++ last) front l own (lacks-both is_head (mark_lines (client_of event) marks) last (marks-lack (client_of event) marks) lacks) is (sym are ∙ there))
heads event report (an_answer query version rows marks last lacks are) front l own is there =
    let n = client_of event in
    let behind : list_any is_head (map line.Row rows ++ (mark_lines n marks ++ last)) ≡ false =
    lacks-both is_head (map line.Row rows) (mark_lines n marks ++ last) (lacks-map is_head line.Row rows (λ row. refl)) (lacks-both is_head (mark_lines n marks) last (marks-lack n marks) lacks) in
    let two = one-head is_head (line.Answer n query version (length rows)) (map line.Row rows ++ (mark_lines n marks ++ last)) front l own behind is (sym are ∙ there) in
    inl (record { query = query; version = version; rows = rows; marks = marks; report_is = refl; line_is = two.0; more = mark_lines n marks ++ last; own_is = sym two.1 })
heads event report (an_ask drops request fresh parts last lacks are) front l own is there = go (split (mark_lines n drops) (ask_lines n request fresh parts ++ last) front l own (sym are ∙ there))
  where
    n : ℕ
    n = client_of event

    behind : list_any is_head (map part_line parts ++ last) ≡ false
    behind = lacks-both is_head (map part_line parts) last (lacks-map is_head part_line parts (λ part. refl)) lacks

    go : Side (mark_lines n drops) (ask_lines n request fresh parts ++ last) front l own → HeadsAnswer event report l own ⊎ HeadsAsk event report l own
    go (in_left mid e f) = absurd (lacks-here (mark_lines n drops) front l mid (marks-lack n drops) is e)
    go (in_right mid e f) =
        let two = one-head is_head (line.Ask n request fresh (length parts)) (map part_line parts ++ last) mid l own behind is f in
        inr (record { drops = drops; request = request; fresh = fresh; parts = parts; report_is = refl; line_is = two.0; more = last; own_is = sym two.1 })
