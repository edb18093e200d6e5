-- A text is spelled by the grammar in one way: it tells one line, and what follows.
use Rattle.std.proofs.Common.{◌≡◌, ℕ, true, List, [], ◌∷◌, ◌++◌, Some, None, codes, refl, sym, ap, subst, ◌∙◌, append_assoc}
use Rattle.sr_cell.specs.declared.table.Table.{Table}
use Rattle.sr_script.specs.declared.line.RequestKind.TheVariants as kind
use Rattle.sr_script.specs.declared.line.TraceLine.{TraceLine}
use Rattle.sr_script.specs.declared.line.TraceLine.TheVariants as line
use Rattle.sr_script.specs.TraceText.{ended, line_words}
use Rattle.sr_script.specs.Printable.{IsNamed, IsPrintable}
use Rattle.sr_script.proofs.Plain.{is_stop, others_are}
use Rattle.sr_script.proofs.WordKinds.{Value, word_text, Stands, word_cut}
use Rattle.sr_script.proofs.Grammar.{Grammar, tells, next, lines}

-- the byte behind a word: the end of the line behind the last
abbrev separator : Grammar → ℕ
separator (tells l) = 10
separator (next k f) = 32

separates : (g : Grammar) → is_stop (separator g) ≡ true
separates (tells l) = refl
separates (next k f) = refl

-- the text begins with a spelling of the line, and this is what follows
abbrev pub Spells : List Table → Grammar → TraceLine → List ℕ → List ℕ → Type 0
Spells schema (tells l) m text after = (l ≡ m) × (text ≡ after)
Spells schema (next k f) m text after =
    (v : Value k) × (rest : List ℕ) × Stands schema k v (separator (f v)) × (text ≡ word_text schema k v ++ (separator (f v) ∷ rest)) × Spells schema (f v) m rest after

pub one_line : (schema : List Table) → IsNamed schema → (g : Grammar) (l m : TraceLine) (text x y : List ℕ) → Spells schema g l text x → Spells schema g m text y → (l ≡ m) × (x ≡ y)
one_line schema named (tells k) l m text x y one other = (sym one.0 ∙ other.0, sym one.1 ∙ other.1)
one_line schema named (next k f) l m text x y (v, rest, stands, is, more) (w, rest_too, stands_too, is_too, more_too) =
    let same = word_cut schema named k v w (separator (f v)) (separator (f w)) rest rest_too stands stands_too (separates (f v)) (separates (f w)) (sym is ∙ is_too) in
    let left = others_are (separator (f v)) (separator (f w)) rest rest_too same.1 in
    one_line schema named (f v) l m rest x y more (subst (λ z. Spells schema (f v) m z y) (sym left) (subst (λ z. Spells schema (f z) m rest_too y) (sym same.0) more_too))

-- words with one blank between two, the end of the line, and what follows
abbrev pub spelled : List (List ℕ) → List ℕ → List ℕ
spelled [] after = 10 ∷ after
spelled (w ∷ []) after = w ++ (10 ∷ after)
spelled (w ∷ u ∷ ws) after = w ++ (32 ∷ spelled (u ∷ ws) after)

pub ended_is : (ws : List (List ℕ)) (after : List ℕ) → ended ws ++ after ≡ spelled ws after
ended_is [] after = refl
ended_is (w ∷ []) after = append_assoc w (10 ∷ []) after
ended_is (w ∷ u ∷ ws) after = append_assoc w (32 ∷ ended (u ∷ ws)) after ∙ ap (λ z. w ++ (32 ∷ z)) (ended_is (u ∷ ws) after)

-- each line that can be printed is spelled by its words
pub line_is : (schema : List Table) (l : TraceLine) (after : List ℕ) → IsPrintable schema l → Spells schema lines l (spelled (line_words schema l) after) after
line_is schema (line.Answer n q v rows) after p = (codes "answer", _, refl, refl, (n, _, p.0, refl, (q, _, p.1, refl, (v, _, p.2, refl, (rows, _, p.3, refl, (refl, refl))))))
line_is schema (line.Row row) after p = (codes "row", _, refl, refl, (row, _, (p, refl), refl, (refl, refl)))
line_is schema (line.Held n t attrs rects) after p = (codes "held", _, refl, refl, (n, _, p.0, refl, (t, _, p.1.0, refl, (attrs, _, p.1, refl, (rects, _, (p.1.0, p.2, refl), refl, (refl, refl))))))
line_is schema (line.Drop n why t attrs stamp rects) after p = (codes "drop", _, refl, refl, (n, _, p.0, refl, (why, _, tt, refl, (t, _, p.2.0, refl, (attrs, _, p.2, refl, (stamp, _, p.1, refl, (rects, _, (p.2.0, p.3, refl), refl, (refl, refl))))))))
line_is schema (line.Ask n k fresh parts) after p = (codes "ask", _, refl, refl, (n, _, p.0, refl, (k, _, p.1, refl, (fresh, _, tt, refl, (parts, _, p.2, refl, (refl, refl))))))
line_is schema (line.Part t attrs rects) after p = (codes "part", _, refl, refl, (t, _, p.0.0, refl, (attrs, _, p.0, refl, (rects, _, (p.0.0, p.1, refl), refl, (refl, refl)))))
line_is schema (line.Fail n what k) after p = (codes "fail", _, refl, refl, (n, _, p.0, refl, (what, _, tt, refl, (k, _, p.1, refl, (refl, refl)))))
line_is schema line.Pieces after p = (codes "pieces", _, refl, refl, (refl, refl))
line_is schema (line.Need t attrs) after p = (codes "need", _, refl, refl, (t, _, p.0, refl, (attrs, _, p, refl, (refl, refl))))
line_is schema (line.Probe t attrs stamp rects) after p = (codes "probe", _, refl, refl, (t, _, p.1.0, refl, (attrs, _, p.1, refl, (stamp, _, p.0, refl, (rects, _, (p.1.0, p.2, refl), refl, (refl, refl))))))
line_is schema (line.Rest t attrs rects) after p = (codes "rest", _, refl, refl, (t, _, p.0.0, refl, (attrs, _, p.0, refl, (rects, _, (p.0.0, p.1, refl), refl, (refl, refl)))))
line_is schema (line.Victim place t attrs stamp rows) after p = (codes "victim", _, refl, refl, (place, _, p.0, refl, (t, _, p.3.0, refl, (attrs, _, p.3, refl, (stamp, _, p.1, refl, (rows, _, p.2, refl, (refl, refl)))))))
line_is schema (line.ExecVersion v) after p = (codes "exec", _, refl, refl, (codes "version", _, refl, refl, (v, _, p, refl, (refl, refl))))
line_is schema (line.ExecRefused fault) after p = (codes "exec", _, refl, refl, (codes "refused", _, refl, refl, (fault.why, _, tt, refl, (fault.at, _, p, refl, (refl, refl)))))
line_is schema (line.QueryAnswered n q) after p = (codes "query", _, refl, refl, (n, _, p.0, refl, (codes "answered", _, refl, refl, (q, _, p.1, refl, (refl, refl)))))
line_is schema (line.QueryAsked n k) after p = (codes "query", _, refl, refl, (n, _, p.0, refl, (codes "asked", _, refl, refl, (k, _, p.1, refl, (refl, refl)))))
line_is schema (line.QuerySql n fault) after p = (codes "query", _, refl, refl, (n, _, p.0, refl, (codes "sql", _, refl, refl, (fault.why, _, tt, refl, (fault.at, _, p.1, refl, (refl, refl))))))
line_is schema (line.QueryBusy n k) after p = (codes "query", _, refl, refl, (n, _, p.0, refl, (codes "busy", _, refl, refl, (k, _, p.1, refl, (refl, refl)))))
line_is schema (line.QueryDown n x) after p = (codes "query", _, refl, refl, (n, _, p.0, refl, (codes "down", _, refl, refl, (x, _, p.1, refl, (refl, refl)))))
line_is schema (line.WriteSent n k) after p = (codes "write", _, refl, refl, (n, _, p.0, refl, (codes "sent", _, refl, refl, (k, _, p.1, refl, (refl, refl)))))
line_is schema (line.WriteSql n fault) after p = (codes "write", _, refl, refl, (n, _, p.0, refl, (codes "sql", _, refl, refl, (fault.why, _, tt, refl, (fault.at, _, p.1, refl, (refl, refl))))))
line_is schema (line.WriteBusy n k) after p = (codes "write", _, refl, refl, (n, _, p.0, refl, (codes "busy", _, refl, refl, (k, _, p.1, refl, (refl, refl)))))
line_is schema (line.WriteDown n x) after p = (codes "write", _, refl, refl, (n, _, p.0, refl, (codes "down", _, refl, refl, (x, _, p.1, refl, (refl, refl)))))
line_is schema (line.PushSent n frames) after p = (codes "push", _, refl, refl, (n, _, p.0, refl, (codes "sent", _, refl, refl, (frames, _, p.1, refl, (refl, refl)))))
line_is schema (line.PushClosed n) after p = (codes "push", _, refl, refl, (n, _, p, refl, (codes "closed", _, refl, refl, (refl, refl))))
line_is schema (line.ServerEmpty n) after p = (codes "toserver", _, refl, refl, (n, _, p, refl, (codes "empty", _, refl, refl, (refl, refl))))
line_is schema (line.ServerTook n kind.Hello frames) after p = (codes "toserver", _, refl, refl, (n, _, p.0, refl, (codes "hello", _, refl, refl, (frames, _, p.1, refl, (refl, refl)))))
line_is schema (line.ServerTook n kind.Resume frames) after p = (codes "toserver", _, refl, refl, (n, _, p.0, refl, (codes "resume", _, refl, refl, (frames, _, p.1, refl, (refl, refl)))))
line_is schema (line.ServerTook n kind.Ask frames) after p = (codes "toserver", _, refl, refl, (n, _, p.0, refl, (codes "ask", _, refl, refl, (frames, _, p.1, refl, (refl, refl)))))
line_is schema (line.ServerTook n kind.Write frames) after p = (codes "toserver", _, refl, refl, (n, _, p.0, refl, (codes "write", _, refl, refl, (frames, _, p.1, refl, (refl, refl)))))
line_is schema (line.ClientEmpty n) after p = (codes "toclient", _, refl, refl, (n, _, p, refl, (codes "empty", _, refl, refl, (refl, refl))))
line_is schema (line.ClientLaid n) after p = (codes "toclient", _, refl, refl, (n, _, p, refl, (codes "laid", _, refl, refl, (refl, refl))))
line_is schema (line.ClientApplied n v) after p = (codes "toclient", _, refl, refl, (n, _, p.0, refl, (codes "applied", _, refl, refl, (v, _, p.1, refl, (refl, refl)))))
line_is schema (line.ClientAnswered n) after p = (codes "toclient", _, refl, refl, (n, _, p, refl, (codes "answered", _, refl, refl, (refl, refl))))
line_is schema (line.ClientAsked n k) after p = (codes "toclient", _, refl, refl, (n, _, p.0, refl, (codes "asked", _, refl, refl, (k, _, p.1, refl, (refl, refl)))))
line_is schema (line.ClientWritten n k v) after p = (codes "toclient", _, refl, refl, (n, _, p.0, refl, (codes "written", _, refl, refl, (k, _, p.1, refl, (v, _, p.2, refl, (refl, refl))))))
line_is schema (line.ClientRefused n k fault) after p = (codes "toclient", _, refl, refl, (n, _, p.0, refl, (codes "refused", _, refl, refl, (k, _, p.1, refl, (fault.why, _, tt, refl, (fault.at, _, p.2, refl, (refl, refl)))))))
line_is schema (line.ClientForgot n v) after p = (codes "toclient", _, refl, refl, (n, _, p.0, refl, (codes "forgot", _, refl, refl, (v, _, p.1, refl, (refl, refl)))))
line_is schema (line.ClientWelcome n v kept) after p = (codes "toclient", _, refl, refl, (n, _, p.0, refl, (codes "welcome", _, refl, refl, (v, _, p.1, refl, (kept, _, tt, refl, (refl, refl))))))
line_is schema (line.Settled n frames) after p = (codes "settle", _, refl, refl, (n, _, p.0, refl, (frames, _, p.1, refl, (refl, refl))))
line_is schema (line.EvictDropped n) after p = (codes "evict", _, refl, refl, (n, _, p, refl, (codes "dropped", _, refl, refl, (refl, refl))))
line_is schema (line.EvictBusy n k) after p = (codes "evict", _, refl, refl, (n, _, p.0, refl, (codes "busy", _, refl, refl, (k, _, p.1, refl, (refl, refl)))))
line_is schema (line.EvictNone n count) after p = (codes "evict", _, refl, refl, (n, _, p.0, refl, (codes "none", _, refl, refl, (count, _, p.1, refl, (refl, refl)))))
line_is schema (line.Explained n v) after p = (codes "explain", _, refl, refl, (n, _, p.0, refl, (Some v, _, p.1, refl, (refl, refl))))
line_is schema (line.ExplainSql n fault) after p = (codes "explain", _, refl, refl, (n, _, p.0, refl, (None, _, (refl, refl), refl, (fault.why, _, tt, refl, (fault.at, _, p.1, refl, (refl, refl))))))
line_is schema (line.CutDone n x) after p = (codes "cut", _, refl, refl, (n, _, p.0, refl, (Some x, _, p.1, refl, (refl, refl))))
line_is schema (line.CutAlready n x) after p = (codes "cut", _, refl, refl, (n, _, p.0, refl, (None, _, (refl, refl), refl, (x, _, p.1, refl, (refl, refl)))))
line_is schema (line.ResumeSent n k) after p = (codes "resume", _, refl, refl, (n, _, p.0, refl, (codes "sent", _, refl, refl, (k, _, p.1, refl, (refl, refl)))))
line_is schema (line.ResumeUp n) after p = (codes "resume", _, refl, refl, (n, _, p, refl, (codes "up", _, refl, refl, (refl, refl))))
