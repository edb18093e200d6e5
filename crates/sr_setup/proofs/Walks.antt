-- The lines of a file, judged one after another.
use Rattle.std.proofs.Common.{◌≡◌, ℕ, ◌+◌, ◌<◌, ◌≤◌, true, false, List, [], ◌∷◌, ◌++◌, length, refl, sym, ap, subst, ◌∙◌, arith, append_assoc}
use Rattle.std.specs.Prelude.{Option, Some, None}
use Rattle.std.specs.List.{AllZip}
use Rattle.std.specs.Str.{is_utf8}
use Rattle.std.specs.Str.Lossy.{utf8_valid_len}
use Rattle.sr_cell.proofs.Lists.{AllZip-push}
use Rattle.sr_lines.specs.Lines.{lines_of}
use Rattle.sr_setup.specs.Files.{or_later, first_fault, exec_fault}

-- ---- the first bad line

-- none of the lines in front of the rest has a fault, and the rest begins with line `number`
pub record Judged (fault : List ℕ → Option ℕ) (bytes : List ℕ) (number : ℕ) (rest : List ℕ) : Type 0 where
  pub counted : number + length rest ≤ length bytes + 1
  pub inside : length rest ≤ length bytes
  pub same : first_fault fault 1 (lines_of bytes) ≡ first_fault fault number (lines_of rest)

-- the fault of the rest, by its first line
by_first : (fault : List ℕ → Option ℕ) (bytes rest after line : List ℕ) (number : ℕ) (at : Option ℕ) → Judged fault bytes number rest → lines_of rest ≡ line ∷ lines_of after → fault line ≡ at
    → first_fault fault 1 (lines_of bytes) ≡ or_later number (first_fault fault (number + 1) (lines_of after)) at
by_first fault bytes rest after line number at so_far cut is =
    so_far.same ∙ (ap (first_fault fault number) cut ∙ ap (or_later number (first_fault fault (number + 1) (lines_of after))) is)

pub judged_more : (fault : List ℕ → Option ℕ) (bytes rest after line : List ℕ) (number : ℕ) → Judged fault bytes number rest → lines_of rest ≡ line ∷ lines_of after → length after < length rest → fault line ≡ None
    → Judged fault bytes (number + 1) after
judged_more fault bytes rest after line number so_far cut shorter good = record {
  counted = let h = so_far.counted in omega (arith, h, shorter);
  inside = let h = so_far.inside in omega (arith, h, shorter);
  same = by_first fault bytes rest after line number None so_far cut good;
}

-- ---- lines that are read

-- these are the lines in front of the rest, each of which says what its text says
pub record LinesBefore {L : Type 0} (Says : List ℕ → L → Type 0) (bytes rest : List ℕ) (lines : List L) : Type 0 where
  pub texts : List (List ℕ)
  pub split : lines_of bytes ≡ texts ++ lines_of rest
  pub are : AllZip Says texts lines

pub more_lines : {L : Type 0} (Says : List ℕ → L → Type 0) (bytes rest after text : List ℕ) (lines next : List L) (line : L) → LinesBefore Says bytes rest lines → lines_of rest ≡ text ∷ lines_of after → Says text line
    → next ≡ lines ++ line ∷ [] → LinesBefore Says bytes after next
more_lines Says bytes rest after text lines next line so_far cut is same = record {
  texts = so_far.texts ++ text ∷ [];
  split = so_far.split ∙ (ap (λ (z : List (List ℕ)). so_far.texts ++ z) cut ∙ sym (append_assoc so_far.texts (text ∷ []) (lines_of after)));
  are = subst (AllZip Says (so_far.texts ++ text ∷ [])) (sym same) (AllZip-push Says so_far.texts lines text line so_far.are is);
}

-- ---- a line of an exec file

pub text_fault : (line : List ℕ) → is_utf8 line ≡ true → exec_fault line ≡ None
text_fault line is = rw is refl

pub other_fault : (line : List ℕ) → is_utf8 line ≡ false → exec_fault line ≡ Some (utf8_valid_len line)
other_fault line is = rw is refl
