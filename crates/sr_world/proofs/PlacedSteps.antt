-- What a client does leaves what it holds and what it asks where they are placed, and its lines are placed.
use Rattle.std.proofs.Common.{zero, suc, ◌≡◌, ◌+◌, ℕ, Bool, true, false, List, [], ◌∷◌, ◌++◌, map, refl, sym, subst, Option, Some, None}
use Rattle.std.specs.Prelude.{Result, Ok, Err}
use Rattle.std.specs.List.{AllByRecursion}
use Rattle.sr_cell.specs.declared.cause.Cause.TheVariants.{Asked, Fresh, Lapsed, Pieces}
use Rattle.sr_cell.specs.declared.fault.Fault.{Fault}
use Rattle.sr_cell.specs.declared.table.Table.{Table}
use Rattle.sr_cell.specs.Cells.{Row}
use Rattle.sr_message.specs.declared.message.AskPart.{AskPart}
use Rattle.sr_message.specs.declared.message.Message.{Message}
use Rattle.sr_message.specs.declared.message.Message.TheVariants as message
use Rattle.sr_model.specs.Queries.{Query, rows_of}
use Rattle.sr_history.specs.declared.mark.Mark.{Mark}
use Rattle.sr_history.specs.declared.mark.Mark.TheVariants.{Held, Dropped}
use Rattle.sr_history.specs.Marks.{with_marks}
use Rattle.sr_history.specs.Classes.{Class}
use Rattle.sr_script.specs.Printable.{IsRow}
use Rattle.sr_script.specs.declared.line.TraceLine.{TraceLine}
use Rattle.sr_script.specs.declared.line.TraceLine.TheVariants as line
use Rattle.sr_session.specs.Sessions.{tables_of}
use Rattle.sr_session.specs.Walks.{Request, AskOut, WriteOut, ResumeOut, has_lapse, version_after}
use Rattle.sr_session.specs.Clients.{Client}
use Rattle.sr_session.specs.Rules.{AnswerStep, ResumeSent, AnswersWith, next_query, Answering, Basis, Before, CutStep, DropsFor, EvictStep, Outcome, QueryStep, Renews, ResumeStep, TakeStep, WriteStep}
use Rattle.sr_session.specs.Rules.{renewed, given_up, as_it_is, emptied, query_refused, query_busy, query_answered, query_down, query_asks, answering_now, answering_then, cause_afresh}
use Rattle.sr_session.specs.Rules.{lays, applies, forgets, answers, asks_once_more, written, refused_write, is_welcomed, evict_busy, evicts_none, evicts, write_busy, write_down, write_sends, already_cut, cuts, already_up, resumes}
use Rattle.sr_session.specs.Scenes.{Scene, basis_of}
use Rattle.sr_runs.specs.Lines.{answer_lines, ask_lines, cut_line, details, evict_line, fail_lines, mark_line, mark_lines, part_line, query_line, resume_line, served_line, taken_line, write_line}
use Rattle.sr_script.specs.Printable.{IsPlaced}
use Rattle.sr_world.proofs.Placed.{ArePlacedMarks, IsPlacedAsk, IsPlacedClass, IsPlacedMark, IsPlacedPart, absorbed-placed, all-append, all-dropped, all-get, all-map, asks-placed, budgets-placed, classes-placed, drop-placed, holds-placed, with-placed}
use Rattle.sr_world.proofs.PlacedExplained.{IsPlacedText}

abbrev pub ArePlaced : List Table → List TraceLine → Type 0
ArePlaced schema lines = AllByRecursion (IsPlaced schema) lines

-- ---- a client

-- where an ask is out, its query and its parts
abbrev pub IsPlacedOut : List Table → Option Request → Type 0
IsPlacedOut schema None = Unit {0}
IsPlacedOut schema (Some (AskOut number query meaning fresh parts)) = AllByRecursion (IsPlacedPart schema) meaning.parts × AllByRecursion (IsPlacedAsk schema) parts
IsPlacedOut schema (Some (WriteOut number)) = Unit {0}
IsPlacedOut schema (Some (ResumeOut number)) = Unit {0}

abbrev pub IsPlacedClient : List Table → Client → Type 0
IsPlacedClient schema c = ArePlacedMarks schema c.marks × IsPlacedOut schema c.out

-- the lines of a step, and the client that it leaves
abbrev pub Leaves : List Table → List TraceLine → Client → Type 0
Leaves schema lines new = ArePlaced schema lines × IsPlacedClient schema new

-- ---- lines of details

line-of-mark : (schema : List Table) (n : ℕ) (mark : Mark) → IsPlacedMark schema mark → IsPlaced schema (mark_line n mark)
line-of-mark schema n (Held t attrs rects) is = is
line-of-mark schema n (Dropped cause t attrs stamp rects) is = is

marks-lines : (schema : List Table) (n : ℕ) (marks : List Mark) → ArePlacedMarks schema marks → ArePlaced schema (mark_lines n marks)
marks-lines schema n [] all = tt
marks-lines schema n (mark ∷ marks) all = (line-of-mark schema n mark all.0, marks-lines schema n marks all.1)

-- marks, and a line of no table behind them
marks-and : (schema : List Table) (n : ℕ) (marks : List Mark) (last : TraceLine) → ArePlacedMarks schema marks → IsPlaced schema last → ArePlaced schema (mark_lines n marks ++ last ∷ [])
marks-and schema n marks last all is = all-append (IsPlaced schema) (mark_lines n marks) (last ∷ []) (marks-lines schema n marks all) (is, tt)

rows-lines : (schema : List Table) (rows : List Row) → AllByRecursion IsRow rows → ArePlaced schema (map line.Row rows)
rows-lines schema [] all = tt
rows-lines schema (row ∷ rows) all = (all.0, rows-lines schema rows all.1)

answer-and : (schema : List Table) (n query version : ℕ) (rows : List Row) (marks : List Mark) (last : TraceLine) → AllByRecursion IsRow rows → ArePlacedMarks schema marks → IsPlaced schema last
    → ArePlaced schema ((answer_lines n query version rows ++ mark_lines n marks) ++ last ∷ [])
answer-and schema n query version rows marks last signed all is =
    all-append (IsPlaced schema) (answer_lines n query version rows ++ mark_lines n marks) (last ∷ [])
    (all-append (IsPlaced schema) (answer_lines n query version rows) (mark_lines n marks) (tt, rows-lines schema rows signed) (marks-lines schema n marks all)) (is, tt)

asks-and : (schema : List Table) (n request : ℕ) (fresh : Bool) (drops : List Mark) (parts : List AskPart) (last : TraceLine) → ArePlacedMarks schema drops → AllByRecursion (IsPlacedAsk schema) parts
    → IsPlaced schema last → ArePlaced schema ((mark_lines n drops ++ ask_lines n request fresh parts) ++ last ∷ [])
asks-and schema n request fresh drops parts last all asked is =
    all-append (IsPlaced schema) (mark_lines n drops ++ ask_lines n request fresh parts) (last ∷ [])
    (all-append (IsPlaced schema) (mark_lines n drops) (ask_lines n request fresh parts) (marks-lines schema n drops all)
    (tt, all-map (IsPlaced schema) part_line parts asked)) (is, tt)

-- ---- an answer

renews-placed : (b : Basis) (a : Answering) (c : Client) (marks : List Mark) → ArePlacedMarks b.schema c.marks → AllByRecursion (IsPlacedAsk b.schema) a.asked → Renews b a c marks
    → ArePlacedMarks b.schema marks
renews-placed b a c marks all asked r =
    let own = holds-placed b.schema a.asked r.held asked r.holds in
    let first = with-placed b.schema c.marks r.held all own in
    let absorbed = absorbed-placed b.schema (with_marks c.marks r.held) a.queries r.absorbs.0 r.absorbed (classes-placed b.schema (with_marks c.marks r.held) a.queries r.absorbs.0 first r.absorbs.1) r.absorbs.2 in
    let second = with-placed b.schema (with_marks c.marks r.held) r.absorbed first absorbed in
    let drops = budgets-placed b.schema b.limits (b.count a.version) a.queries (with_marks (with_marks c.marks r.held) r.absorbed) r.drops second r.budgets in
    subst (ArePlacedMarks b.schema) (sym r.all)
    (all-append (IsPlacedMark b.schema) r.held (r.absorbed ++ r.drops) own (all-append (IsPlacedMark b.schema) r.absorbed r.drops absorbed drops))

answer-placed : (b : Basis) (a : Answering) (c new : Client) (marks : List Mark) → ArePlacedMarks b.schema c.marks → AllByRecursion (IsPlacedAsk b.schema) a.asked → AnswerStep b a c marks new
    → ArePlacedMarks b.schema marks × IsPlacedClient b.schema new
answer-placed b a c new marks all asked (renewed ms r) =
    let own = renews-placed b a c marks all asked r in (own, (with-placed b.schema c.marks marks all own, tt))
answer-placed b a c new marks all asked (given_up ms g) =
    let own = all-dropped b.schema c.marks c.queries Pieces marks all g.drops in (own, (with-placed b.schema c.marks marks all own, tt))

-- ---- what a client does

-- the rows of each query at each version have numbers such as an i64 holds
abbrev pub AnswersSigned : Scene → Type 0
AnswersSigned s = (v : ℕ) (q : Query) → AllByRecursion IsRow (rows_of q (tables_of s.database v))

before-placed : (b : Basis) (q : Query) (c old : Client) (drops : List Mark) → ArePlacedMarks b.schema c.marks → Before b q c drops old
    → ArePlacedMarks b.schema drops × ArePlacedMarks b.schema old.marks
before-placed b q c old drops all as_it_is = (tt, all)
before-placed b q c old drops all (emptied ds d) = let own = all-dropped b.schema c.marks c.queries Pieces drops all d.all in (own, with-placed b.schema c.marks drops all own)

pub query-placed : (s : Scene) (n : ℕ) (c new : Client) (text : Result Query Fault) (o : Outcome) → AnswersSigned s → IsPlacedClient s.database.schema c
    → IsPlacedText s.database.schema text → QueryStep (basis_of s) c text o new → Leaves s.database.schema (details n o ++ query_line n o) new
query-placed s n c new text o signed own asked (query_refused fault) = ((tt, tt), own)
query-placed s n c new text o signed own asked (query_busy q request busy) = ((tt, tt), own)
query-placed s n c new text o signed own asked (query_answered q rows marks after idle asks with step) =
    let did = answer-placed (basis_of s) (answering_now c q) c new marks own.0 tt step in
    (answer-and s.database.schema n (next_query c) c.version rows marks (line.QueryAnswered n (next_query c)) (subst (AllByRecursion IsRow) (sym with) (signed c.version q)) did.0 tt, did.1)
query-placed s n c new text o signed own asked (query_down q idle down left) = ((tt, tt), own)
query-placed s n c new text o signed own asked (query_asks q drops old ask others fresh idle before up asks few is) =
    let was = before-placed (basis_of s) q c old drops own.0 before in
    let parts = asks-placed s.database.schema old.marks q.parts (ask ∷ others) asks asked in
    (asks-and s.database.schema n old.next_request fresh drops (ask ∷ others) (line.QueryAsked n old.next_request) was.0 parts tt, (was.1, (asked, parts)))

drops-for : (b : Basis) (lapsed : Bool) (version : ℕ) (c : Client) (drops : List Mark) → ArePlacedMarks b.schema c.marks → DropsFor lapsed b version c drops → ArePlacedMarks b.schema drops
drops-for b true version c drops all is = all-dropped b.schema c.marks c.queries Lapsed drops all is
drops-for b false version c drops all is = budgets-placed b.schema b.limits (b.count version) c.queries c.marks drops all is

-- the marks of what was laid by, and the client with nothing out any more
settles-and : (s : Scene) (n : ℕ) (c : Client) (drops : List Mark) (last : TraceLine) → IsPlaced s.database.schema last → IsPlacedClient s.database.schema c → ArePlacedMarks s.database.schema drops
    → ArePlaced s.database.schema (mark_lines n drops ++ last ∷ []) × ArePlacedMarks s.database.schema (with_marks c.marks drops)
settles-and s n c drops last is own all = (marks-and s.database.schema n drops last all is, with-placed s.database.schema c.marks drops own.0 all)

out-is : (schema : List Table) (c : Client) (out : Option Request) → c.out ≡ out → IsPlacedClient schema c → IsPlacedOut schema out
out-is schema c out is own = subst (IsPlacedOut schema) is own.1

pub take-placed : (s : Scene) (n : ℕ) (c new : Client) (m : Message) (o : Outcome) → AnswersSigned s → IsPlacedClient s.database.schema c → TakeStep (basis_of s) c m o new
    → Leaves s.database.schema (details n o ++ taken_line n o) new
take-placed s n c new m o signed own (lays request message out laid is) = ((tt, tt), own)
take-placed s n c new m o signed own (applies version told drops idle later met) =
    let all = budgets-placed s.database.schema s.limits ((basis_of s).count version) c.queries c.marks drops own.0 met in
    let did = settles-and s n c drops (line.ClientApplied n version) tt own all in (did.0, (did.1, own.1))
take-placed s n c new m o signed own (forgets version drops idle later dropped) =
    let all = all-dropped s.database.schema c.marks c.queries Lapsed drops own.0 dropped in
    let did = settles-and s n c drops (line.ClientForgot n version) tt own all in (did.0, (did.1, own.1))
take-placed s n c new m o signed own (answers number query q fresh parts version rows marks after out kept later with step) =
    let asked = out-is s.database.schema c (Some (AskOut number query q fresh parts)) out own in
    let did = answer-placed (basis_of s) (answering_then c query q parts version) c new marks own.0 asked.1 step in
    (answer-and s.database.schema n query version rows marks (line.ClientAnswered n) (subst (AllByRecursion IsRow) (sym with) (signed version q)) did.0 tt, did.1)
take-placed s n c new m o signed own (asks_once_more number query q fresh parts version drops whole out lost later dropped asks few) =
    let asked = out-is s.database.schema c (Some (AskOut number query q fresh parts)) out own in
    let all = all-dropped s.database.schema c.marks c.queries Lapsed drops own.0 dropped in
    let again = asks-placed s.database.schema (with_marks c.marks drops) q.parts whole asks asked.0 in
    (asks-and s.database.schema n c.next_request true drops whole (line.ClientAsked n c.next_request) all again tt, (with-placed s.database.schema c.marks drops own.0 all, (asked.0, again)))
take-placed s n c new m o signed own (written number version drops out later dropped) =
    let did = settles-and s n c drops (line.ClientWritten n number version) tt own (drops-for (basis_of s) (has_lapse c.laid) version c drops own.0 dropped) in (did.0, (did.1, tt))
take-placed s n c new m o signed own (refused_write number fault drops out later dropped) =
    let did = settles-and s n c drops (line.ClientRefused n number fault) tt own
    (drops-for (basis_of s) (has_lapse c.laid) (version_after c.version c.laid) c drops own.0 dropped) in (did.0, (did.1, tt))
take-placed s n c new m o signed own (is_welcomed number version true drops out later dropped) =
    let did = settles-and s n c drops (line.ClientWelcome n version true) tt own (drops-for (basis_of s) (has_lapse c.laid) version c drops own.0 dropped) in (did.0, (did.1, tt))
take-placed s n c new m o signed own (is_welcomed number version false drops out later dropped) =
    let all = all-dropped s.database.schema c.marks c.queries (cause_afresh (has_lapse c.laid)) drops own.0 dropped in
    let did = settles-and s n c drops (line.ClientWelcome n version false) tt own all in (did.0, (did.1, tt))

pub evict-placed : (s : Scene) (n place : ℕ) (c new : Client) (o : Outcome) → IsPlacedClient s.database.schema c → EvictStep (basis_of s) place c o new
    → Leaves s.database.schema (details n o ++ evict_line n o) new
evict-placed s n place c new o own (evict_busy request busy) = ((tt, tt), own)
evict-placed s n place c new o own (evicts_none classes idle are few) = ((tt, tt), own)
evict-placed s n place c new o own (evicts classes chosen d idle are there dropped) =
    let class = all-get (IsPlacedClass s.database.schema) classes place chosen (classes-placed s.database.schema c.marks c.queries classes own.0 are) there in
    let mark = drop-placed s.database.schema c.marks c.queries Asked chosen d class dropped in
    (marks-and s.database.schema n (d ∷ []) (line.EvictDropped n) (mark, tt) tt, ((mark, own.0), own.1))

pub write-placed : (schema : List Table) (n : ℕ) (sql : List ℕ) (c new : Client) (o : Outcome) → IsPlacedClient schema c → WriteStep sql c o new
    → Leaves schema (details n o ++ write_line n o) new
write-placed schema n sql c new o own (write_busy request busy) = ((tt, tt), own)
write-placed schema n sql c new o own (write_down idle down) = ((tt, tt), own)
write-placed schema n sql c new o own (write_sends idle up) = ((tt, tt), (own.0, tt))

fails-placed : (schema : List Table) (n cut : ℕ) (ended : Option Request) → ArePlaced schema (fail_lines n ended ++ line.CutDone n cut ∷ [])
fails-placed schema n cut None = (tt, tt)
fails-placed schema n cut (Some (AskOut number query meaning fresh parts)) = (tt, (tt, tt))
fails-placed schema n cut (Some (WriteOut number)) = (tt, (tt, tt))
fails-placed schema n cut (Some (ResumeOut number)) = (tt, (tt, tt))

pub cut-placed : (schema : List Table) (n : ℕ) (c new : Client) (o : Outcome) → IsPlacedClient schema c → CutStep c o new → Leaves schema (details n o ++ cut_line n o) new
cut-placed schema n c new o own (already_cut down) = ((tt, tt), own)
cut-placed schema n c new o own (cuts up) = (fails-placed schema n (c.cuts + 1) c.out, (own.0, tt))

resume-line-placed : (schema : List Table) (n : ℕ) (m : Message) → ArePlaced schema (resume_line n (ResumeSent m))
resume-line-placed schema n (message.Hello wire client k) = (tt, tt)
resume-line-placed schema n (message.Resume wire client k version holdings) = (tt, tt)
resume-line-placed schema n (message.Ask k fresh parts) = tt
resume-line-placed schema n (message.Write k sql) = tt
resume-line-placed schema n (message.Welcome k version kept) = tt
resume-line-placed schema n (message.Notice version told) = tt
resume-line-placed schema n (message.Rows k part rows) = tt
resume-line-placed schema n (message.Reply k version) = tt
resume-line-placed schema n (message.Written k version) = tt
resume-line-placed schema n (message.Refused k fault) = tt
resume-line-placed schema n (message.Lapse version) = tt

pub resume-placed : (schema : List Table) (n : ℕ) (c new : Client) (o : Outcome) → IsPlacedClient schema c → ResumeStep schema c o new → Leaves schema (details n o ++ resume_line n o) new
resume-placed schema n c new o own (already_up up) = ((tt, tt), own)
resume-placed schema n c new o own (resumes m down is) = (resume-line-placed schema n m, (own.0, tt))

pub served-placed : (schema : List Table) (n sent : ℕ) (m : Message) → ArePlaced schema (served_line n sent m)
served-placed schema n sent (message.Hello wire client k) = (tt, tt)
served-placed schema n sent (message.Resume wire client k version holdings) = (tt, tt)
served-placed schema n sent (message.Ask k fresh parts) = (tt, tt)
served-placed schema n sent (message.Write k sql) = (tt, tt)
served-placed schema n sent (message.Welcome k version kept) = tt
served-placed schema n sent (message.Notice version told) = tt
served-placed schema n sent (message.Rows k part rows) = tt
served-placed schema n sent (message.Reply k version) = tt
served-placed schema n sent (message.Written k version) = tt
served-placed schema n sent (message.Refused k fault) = tt
served-placed schema n sent (message.Lapse version) = tt
