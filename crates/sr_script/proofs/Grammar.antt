-- The grammar of the lines of a trace: which words follow one another, and which line they tell.
use Rattle.std.proofs.Common.{ℕ, List, [], ◌∷◌, Option, Some, None, codes, if◌then◌else◌}
use Rattle.std.specs.Str.{bytes_eq}
use Rattle.sr_cell.specs.declared.fault.Fault.{Fault}
use Rattle.sr_box.specs.Points.{Rect}
use Rattle.sr_script.specs.declared.line.RequestKind.TheVariants as kind
use Rattle.sr_script.specs.declared.line.TraceLine.{TraceLine}
use Rattle.sr_script.specs.declared.line.TraceLine.TheVariants as line
use Rattle.sr_script.proofs.WordKinds.{Kind, word, number, number_or, cause, mode, fail, kept, why, table, attrs_in, rects_in, row, Value}

pub data Grammar : Type 0 where
  tells : TraceLine → Grammar
  next : (k : Kind) → (Value k → Grammar) → Grammar

-- a word that no line has here
abbrev never : Grammar
never = tells line.Pieces

-- what follows a word
abbrev pub found : List (List ℕ × Grammar) → List ℕ → Grammar
found [] w = never
found (form ∷ forms) w = if bytes_eq w form.0 then form.1 else found forms w

abbrev choose : List (List ℕ × Grammar) → Grammar
choose forms = next word (found forms)

abbrev one : (ℕ → TraceLine) → Grammar
one f = next number (λ k. tells (f k))

abbrev two : (ℕ → ℕ → TraceLine) → Grammar
two f = next number (λ k. one (f k))

abbrev sql : (Fault → TraceLine) → Grammar
sql f = next why (λ w. next number (λ at. tells (f (record { why = w; at = at }))))

abbrev place : (ℕ → ℕ → Grammar) → Grammar
place f = next table (λ t. next (attrs_in t) (f t))

abbrev rects : (ℕ → ℕ → List Rect → TraceLine) → Grammar
rects f = place (λ t attrs. next (rects_in t) (λ rects. tells (f t attrs rects)))

abbrev stamped : (ℕ → ℕ → ℕ → List Rect → TraceLine) → Grammar
stamped f = place (λ t attrs. next number (λ stamp. next (rects_in t) (λ rects. tells (f t attrs stamp rects))))

-- what follows the number of the client
abbrev query : ℕ → Grammar
query n = choose (
    (codes "answered", one (line.QueryAnswered n)) ∷
    (codes "asked", one (line.QueryAsked n)) ∷
    (codes "sql", sql (line.QuerySql n)) ∷
    (codes "busy", one (line.QueryBusy n)) ∷
    (codes "down", one (line.QueryDown n)) ∷
    [])

abbrev write : ℕ → Grammar
write n = choose (
    (codes "sent", one (line.WriteSent n)) ∷
    (codes "sql", sql (line.WriteSql n)) ∷
    (codes "busy", one (line.WriteBusy n)) ∷
    (codes "down", one (line.WriteDown n)) ∷
    [])

abbrev push : ℕ → Grammar
push n = choose (
    (codes "sent", one (line.PushSent n)) ∷
    (codes "closed", tells (line.PushClosed n)) ∷
    [])

abbrev toserver : ℕ → Grammar
toserver n = choose (
    (codes "empty", tells (line.ServerEmpty n)) ∷
    (codes "hello", one (line.ServerTook n kind.Hello)) ∷
    (codes "resume", one (line.ServerTook n kind.Resume)) ∷
    (codes "ask", one (line.ServerTook n kind.Ask)) ∷
    (codes "write", one (line.ServerTook n kind.Write)) ∷
    [])

abbrev toclient : ℕ → Grammar
toclient n = choose (
    (codes "empty", tells (line.ClientEmpty n)) ∷
    (codes "laid", tells (line.ClientLaid n)) ∷
    (codes "applied", one (line.ClientApplied n)) ∷
    (codes "answered", tells (line.ClientAnswered n)) ∷
    (codes "asked", one (line.ClientAsked n)) ∷
    (codes "written", two (line.ClientWritten n)) ∷
    (codes "refused", next number (λ k. sql (line.ClientRefused n k))) ∷
    (codes "forgot", one (line.ClientForgot n)) ∷
    (codes "welcome", next number (λ v. next kept (λ b. tells (line.ClientWelcome n v b)))) ∷
    [])

abbrev evict : ℕ → Grammar
evict n = choose (
    (codes "dropped", tells (line.EvictDropped n)) ∷
    (codes "busy", one (line.EvictBusy n)) ∷
    (codes "none", one (line.EvictNone n)) ∷
    [])

abbrev resume : ℕ → Grammar
resume n = choose (
    (codes "sent", one (line.ResumeSent n)) ∷
    (codes "up", tells (line.ResumeUp n)) ∷
    [])

abbrev exec : Grammar
exec = choose (
    (codes "version", one line.ExecVersion) ∷
    (codes "refused", sql line.ExecRefused) ∷
    [])

abbrev explain : ℕ → Option ℕ → Grammar
explain n None = sql (line.ExplainSql n)
explain n (Some v) = tells (line.Explained n v)

abbrev cut : ℕ → Option ℕ → Grammar
cut n None = one (line.CutAlready n)
cut n (Some x) = tells (line.CutDone n x)

-- what follows the number of the event
abbrev pub lines : Grammar
lines = choose (
    (codes "answer", next number (λ n. next number (λ q. two (line.Answer n q)))) ∷
    (codes "row", next row (λ cells. tells (line.Row cells))) ∷
    (codes "held", next number (λ n. rects (line.Held n))) ∷
    (codes "drop", next number (λ n. next cause (λ why. stamped (line.Drop n why)))) ∷
    (codes "ask", next number (λ n. next number (λ k. next mode (λ fresh. one (line.Ask n k fresh))))) ∷
    (codes "part", rects line.Part) ∷
    (codes "fail", next number (λ n. next fail (λ what. one (line.Fail n what)))) ∷
    (codes "pieces", tells line.Pieces) ∷
    (codes "need", place (λ t attrs. tells (line.Need t attrs))) ∷
    (codes "probe", stamped line.Probe) ∷
    (codes "rest", rects line.Rest) ∷
    (codes "victim", next number (λ i. place (λ t attrs. two (line.Victim i t attrs)))) ∷
    (codes "exec", exec) ∷
    (codes "query", next number query) ∷
    (codes "write", next number write) ∷
    (codes "push", next number push) ∷
    (codes "toserver", next number toserver) ∷
    (codes "toclient", next number toclient) ∷
    (codes "settle", two line.Settled) ∷
    (codes "evict", next number evict) ∷
    (codes "explain", next number (λ n. next (number_or (codes "sql")) (explain n))) ∷
    (codes "cut", next number (λ n. next (number_or (codes "already")) (cut n))) ∷
    (codes "resume", next number resume) ∷
    [])
