-- Whose the words of a script are.
use Rattle.std.proofs.Common.{◌≡◌, ℕ, ◌+◌, Bool, true, false, List, [], ◌∷◌, ◌++◌, refl}
use Rattle.std.specs.Prelude.{◌&&◌, Option, Some, None, Result, Ok, Err}
use Rattle.std.specs.Option.{is_some}
use Rattle.sr_cell.specs.Clients.{most_clients}
use Rattle.sr_keyset.specs.Lines.{are_own, words_at, words_from}
use Rattle.sr_lines.specs.Script.{Line, Silent, CreateLine, EventLine, Words, line_of}
use Rattle.sr_setup.specs.ClientFiles.{client_fault, doer_of, read_fault, words_fault}
use Rattle.sr_setup.specs.Files.{first_fault}
use Rattle.sr_setup.proofs.ClientWalks.{first_good}

own-doer : (id : ℕ) (line : List ℕ) (doer : Option ℕ) → words_fault id line doer ≡ None → is_some doer ≡ true
own-doer id line None good = absurd cc
own-doer id line (Some n) good = refl

own-line : (id n : ℕ) (line : List ℕ) (r : Result Line ℕ) → read_fault id line r ≡ None → are_own (words_at n r) ≡ true
own-line id n line (Ok Silent) good = refl
own-line id n line (Ok (CreateLine sql)) good = refl
own-line id n line (Ok (EventLine words)) good = rw (own-doer id line (doer_of words) good) refl
own-line id n line (Err place) good = refl

own-both : (xs ys : List (ℕ × Words)) → are_own xs ≡ true → are_own ys ≡ true → are_own (xs ++ ys) ≡ true
own-both [] ys one other = other
own-both (x ∷ xs) ys one other = go (is_some (doer_of x.1)) one (own-both xs ys)
  where
    go : (b : Bool) → (b && are_own xs) ≡ true → (are_own xs ≡ true → are_own ys ≡ true → are_own (xs ++ ys) ≡ true) → (b && are_own (xs ++ ys)) ≡ true
    go true both more = more both other
    go false both more = absurd cc

-- the words of a script without a fault are its client's own
pub own-words : (id n : ℕ) (lines : List (List ℕ)) → first_fault (client_fault id) n lines ≡ None → are_own (words_from n lines) ≡ true
own-words id n [] good = refl
own-words id n (line ∷ lines) good =
    let both = first_good (client_fault id) n line lines good in
    own-both (words_at n (line_of most_clients line)) (words_from (n + 1) lines) (own-line id n line (line_of most_clients line) both.0) (own-words id (n + 1) lines both.1)
