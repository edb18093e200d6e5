-- The text of a trace tells its lines.
use Rattle.std.proofs.Common.{◌≡◌, ℕ, ◌<◌, ◌^◌, List, [], ◌∷◌, ◌++◌, refl, sym, ap, ap₂, subst, ◌∙◌, append_assoc}
use Rattle.std.specs.Prelude.{decimal}
use Rattle.sr_cell.specs.declared.table.Table.{Table}
use Rattle.sr_script.specs.declared.line.TraceLine.{TraceLine}
use Rattle.sr_script.specs.TraceText.{ended, line_words, line_text, trace_text}
use Rattle.sr_script.specs.Printable.{IsNamed, IsPrintable, TextsTellLines}
use Rattle.sr_script.proofs.Plain.{others_are, decimal_cut}
use Rattle.sr_script.proofs.Grammar.{lines}
use Rattle.sr_script.proofs.Spelled.{Spells, one_line, spelled, ended_is, line_is}

text_is : (schema : List Table) (number : ℕ) (l : TraceLine) (after : List ℕ) → line_text schema number l ++ after ≡ decimal number ++ (32 ∷ spelled (line_words schema l) after)
unfolding line_text
text_is schema number l after =
    append_assoc (decimal number) (32 ∷ ended (line_words schema l)) after ∙ ap (λ z. decimal number ++ (32 ∷ z)) (ended_is (line_words schema l) after)

-- a text with a stop in it is not empty
not_empty : (a x : List ℕ) (p : ℕ) → a ++ (p ∷ x) ≡ [] → ⊥
not_empty [] x p e = cc
not_empty (b ∷ a) x p e = cc

first_line : (schema : List Table) → IsNamed schema → (m n : ℕ) (l k : TraceLine) (x y : List ℕ) → (m < 2 ^ 64) × IsPrintable schema l → (n < 2 ^ 64) × IsPrintable schema k
    → line_text schema m l ++ x ≡ line_text schema n k ++ y → (m ≡ n) × (l ≡ k) × (x ≡ y)
first_line schema named m n l k x y f g e =
    let numbers = decimal_cut m n (spelled (line_words schema l) x) (spelled (line_words schema k) y) 32 32 f.0 g.0 refl refl (sym (text_is schema m l x) ∙ e ∙ text_is schema n k y) in
    let texts = others_are 32 32 (spelled (line_words schema l) x) (spelled (line_words schema k) y) numbers.1 in
    let same = one_line schema named lines l k (spelled (line_words schema k) y) x y
    (subst (λ z. Spells schema lines l z x) texts (line_is schema l x f.1)) (line_is schema k y g.1) in
    (numbers.0, same.0, same.1)

pub texts_tell_lines : TextsTellLines
texts_tell_lines schema [] [] named f g e = refl
texts_tell_lines schema [] (b ∷ other) named f g e =
    absurd (not_empty (decimal b.0) (spelled (line_words schema b.1) (trace_text schema other)) 32 (sym (text_is schema b.0 b.1 (trace_text schema other)) ∙ sym e))
texts_tell_lines schema (a ∷ one) [] named f g e =
    absurd (not_empty (decimal a.0) (spelled (line_words schema a.1) (trace_text schema one)) 32 (sym (text_is schema a.0 a.1 (trace_text schema one)) ∙ e))
texts_tell_lines schema (a ∷ one) (b ∷ other) named f g e =
    let first = first_line schema named a.0 b.0 a.1 b.1 (trace_text schema one) (trace_text schema other) f.0 g.0 e in
    let line : a ≡ b = ap₂ (λ number l. (number, l)) first.0 first.1 in
    ap₂ (λ z zs. z ∷ zs) line (texts_tell_lines schema one other named f.1 g.1 first.2)
