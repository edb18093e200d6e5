-- Reading the lines of a script, one after another.
use Rattle.std.proofs.Common.{◌≡◌, ℕ, zero, suc, ◌+◌, ◌<◌, ◌≤◌, Bool, true, false, List, [], ◌∷◌, ◌++◌, length, drop, refl, sym, ap, subst, ◌∙◌, arith, append_assoc}
use Rattle.std.specs.Prelude.{◌==◌, ◌&&◌, ◌||◌, slice_index_or, if◌then◌else◌}
use Rattle.std.specs.List.{AllZip}
use Rattle.std.proofs.lemmas.Slice.Zip.{AllZip-long}
use Rattle.std.proofs.lemmas.List.{drop_all}
use Rattle.sr_cell.proofs.Lists.{AllZip-push}
use Rattle.sr_lines.specs.Lines.{lines_of, before_line, begins_with_feed}
use Rattle.sr_lines.specs.Script.{Creating, first_outside}
use Rattle.sr_reader.specs.declared.line.Line.{Line}
use Rattle.sr_reader.specs.LineSeen.{line_seen}
use Rattle.sr_reader.specs.Lined.{IsLine, AreLines, stage_by, is_event, GoesOn}

-- ---- the walk

-- what the walk keeps: these lines stand in front of the rest, and the first that is outside is the rest's
pub record Cut (clients : ℕ) (bytes : List ℕ) (number : ℕ) (rest : List ℕ) (running : Bool) (lines : List Line) : Type 0 where
  pub counted : number + length rest ≤ length bytes + 1
  pub inside : length rest ≤ length bytes
  pub texts : List (List ℕ)
  pub split : lines_of bytes ≡ texts ++ lines_of rest
  pub are : AllZip (IsLine clients) texts lines
  pub outside : first_outside clients 1 Creating (lines_of bytes) ≡ first_outside clients number (stage_by running) (lines_of rest)

pub cut_line : (clients : ℕ) (bytes rest after text : List ℕ) (number : ℕ) (running : Bool) (lines : List Line) (line : Line) → Cut clients bytes number rest running lines → lines_of rest ≡ text ∷ lines_of after → length after < length rest
    → IsLine clients text line → GoesOn clients text running line → Cut clients bytes (number + 1) after (running || is_event (line_seen line)) (lines ++ line ∷ [])
cut_line clients bytes rest after text number running lines line so_far cut shorter is on = record {
  counted = let h = so_far.counted in omega arith;
  inside = let h = so_far.inside in omega arith;
  texts = so_far.texts ++ text ∷ [];
  split = so_far.split ∙ (ap (λ z. so_far.texts ++ z) cut ∙ sym (append_assoc so_far.texts (text ∷ []) (lines_of after)));
  are = AllZip-push (IsLine clients) so_far.texts lines text line so_far.are is;
  outside = so_far.outside ∙ (ap (first_outside clients number (stage_by running)) cut ∙ on number (λ next. first_outside clients (number + 1) next (lines_of after)));
}

-- ---- a line by its index

at_line : {A B : Type 0} (R : A → B → Type 0) (xs : List A) (ys : List B) (i : ℕ) (d y : B) → AllZip R xs ys → i < length ys → slice_index_or ys i d ≡ y → (x : A) × (drop i xs ≡ x ∷ drop (i + 1) xs) × R x y
at_line R [] [] i d y all inside is = absurd (omega (arith, inside))
at_line R [] (b ∷ ys) i d y all inside is = absurd all
at_line R (a ∷ xs) [] i d y all inside is = absurd all
at_line R (a ∷ xs) (b ∷ ys) zero d y all inside is = (a, refl, subst (λ z. R a z) is all.0)
at_line R (a ∷ xs) (b ∷ ys) (suc i) d y all inside is =
    let more = at_line R xs ys i d y all.1 (omega (arith, inside)) is in
    let next : suc i + 1 ≡ suc (i + 1) = omega arith in
    (more.0, rw next more.1, more.2)

pub line_here : (clients : ℕ) (bytes : List ℕ) (lines items : List Line) (i : ℕ) (d line : Line) → items ≡ lines → AreLines clients bytes lines → i < length items → slice_index_or items i d ≡ line
    → (text : List ℕ) × (drop i (lines_of bytes) ≡ text ∷ drop (i + 1) (lines_of bytes)) × IsLine clients text line
line_here clients bytes lines items i d line same are inside is =
    at_line (IsLine clients) (lines_of bytes) items i d line (subst (λ z. AreLines clients bytes z) (sym same) are) inside is

pub none_here : (clients : ℕ) (bytes : List ℕ) (lines items : List Line) (i : ℕ) → items ≡ lines → AreLines clients bytes lines → length items ≤ i → drop i (lines_of bytes) ≡ []
none_here clients bytes lines items i same are past =
    drop_all i (lines_of bytes) (omega (arith, ap length same, past, AllZip-long (IsLine clients) (lines_of bytes) lines are))

-- ---- no more lines than bytes

before_few : (b : ℕ) (lines : List (List ℕ)) (n : ℕ) → length lines ≤ n → length (before_line b lines) ≤ n + 1
before_few b [] n few = omega arith
before_few b (line ∷ lines) n few = omega (arith, few)

few_by : (b : ℕ) (bytes : List ℕ) (feed drops : Bool) → length (lines_of bytes) ≤ length bytes → length (if feed then [] ∷ lines_of bytes else (if drops then lines_of bytes else before_line b (lines_of bytes))) ≤ length bytes + 1
few_by b bytes true drops few = omega (arith, few)
few_by b bytes false true few = omega (arith, few)
few_by b bytes false false few = before_few b (lines_of bytes) (length bytes) few

pub few_lines : (bytes : List ℕ) → length (lines_of bytes) ≤ length bytes
few_lines [] = omega arith
few_lines (b ∷ bytes) = let h = few_by b bytes (b == 10) (b == 13 && begins_with_feed bytes) (few_lines bytes) in omega (arith, h)
