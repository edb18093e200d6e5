-- Tokens behind tokens, and lists of them item by item.
use Rattle.std.proofs.Common.{◌≡◌, ℕ, suc, ◌+◌, ◌-◌, ◌<◌, ◌≤◌, List, [], ◌∷◌, ◌++◌, length, get_or, take, drop, refl, sym, ap, ◌∙◌, arith, drop-cons, add-one, append_assoc, append-nil}
use Rattle.std.specs.Prelude.{codes, if◌then◌else◌, ◌||◌, ◌==◌}
use Rattle.sr_cell.specs.declared.table.Column.{Column}
use Rattle.sr_grammar.specs.Printed.{mark, column, columns_behind}
use Rattle.std.proofs.Math.Seq.{take-length}
use Rattle.sr_grammar.specs.Tokens.{Tok}
use Rattle.sr_grammar.specs.Spaced.{is_close, spaced}
use Rattle.sr_print.specs.Writes.{Page, stroke, written}

pub written_append : (page : Page) (x y : List Tok) → written page (x ++ y) ≡ written (written page x) y
written_append page [] y = refl
written_append page (t ∷ x) y = written_append (stroke page t.kind t.text) x y

-- one item more is written, and the rest is left
pub one_more : {A : Type 0} (all others : List A → List Tok) (one : A → List Tok) → ((x : A) (xs : List A) → all (x ∷ xs) ≡ one x ++ others xs)
    → (items : List A) (i : ℕ) (item : A) (page mid : Page) → i < length items → item ≡ get_or items i item → mid ≡ written page (one item)
    → written mid (others (drop (i + 1) items)) ≡ written page (all (drop i items))
one_more all others one step items i item page mid within is e =
    let front : drop i items ≡ item ∷ drop (i + 1) items = drop-cons items i item within ∙ ap (λ k. get_or items i item ∷ drop k items) (sym (add-one i)) ∙ ap (λ x. x ∷ drop (i + 1) items) (sym is) in
    rw (front, step, written_append, e) refl

-- one column more is written behind its comma, and the rest is left
pub column_more : (key i : ℕ) (others : List Column) (one : Column) (page mid : Page) → i < length others → one ≡ get_or others i one
    → mid ≡ written page (mark (codes ",") ∷ column (key == i + 1) one)
    → written mid (columns_behind key (i + 1 + 1) (drop (i + 1) others)) ≡ written page (columns_behind key (i + 1) (drop i others))
column_more key i others one page mid within is e =
    let front : drop i others ≡ one ∷ drop (i + 1) others = drop-cons others i one within ∙ ap (λ k. get_or others i one ∷ drop k others) (sym (add-one i)) ∙ ap (λ x. x ∷ drop (i + 1) others) (sym is) in
    rw (front, e) (sym (written_append page (mark (codes ",") ∷ column (key == i + 1) one) (columns_behind key (i + 1 + 1) (drop (i + 1) others))))

-- the first item is written, and the others are left
pub first_of_list : {A : Type 0} (all others : List A → List Tok) (one : A → List Tok) → ((x : A) (xs : List A) → all (x ∷ xs) ≡ one x ++ others xs)
    → (items : List A) (item : A) (page mid : Page) → 1 ≤ length items → item ≡ get_or items 0 item → mid ≡ written page (one item)
    → written mid (others (take (length items - 1) (drop 1 items))) ≡ written page (all items)
first_of_list all others one step [] item page mid within is e = absurd (omega arith)
first_of_list all others one step (x ∷ xs) item page mid within is e =
    let count : suc (length xs) - 1 ≡ length xs = omega arith in
    rw (count, take-length, step, written_append, e, is) refl

-- what is written are the tokens with their blanks
pub written_text : (page : Page) (ts : List Tok) → (written page ts).text ≡ page.text ++ spaced page.tight ts
unfolding stroke
written_text page [] = sym (append-nil page.text)
written_text page (t ∷ ts) = written_text (stroke page t.kind t.text) ts ∙ append_assoc page.text _ _ ∙ ap (λ s. page.text ++ s) (append_assoc (if page.tight || is_close t then [] else codes " ") _ _)
