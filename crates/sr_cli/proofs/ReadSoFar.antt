-- What is read of some files, one after another.
use Rattle.std.proofs.Common.{◌≡◌, ℕ, ◌<◌, ◌+◌, List, [], ◌∷◌, ◌++◌, length, drop, get_or, Option, Some, None, inl, inr, refl, subst, sym, ap, append_assoc, ◌∙◌}
use Rattle.std.proofs.lemmas.List.{drop_more}
use Rattle.std.specs.List.{AllZip}
use Rattle.sr_load.specs.declared.fill.Load.{Load}
use Rattle.sr_io.specs.Causes.{Rose}
use Rattle.sr_io.specs.Told.{Reading}
use Rattle.sr_cli.specs.Files.{IsLoad, IsTooLong, SomeTooLong, IsHeldLoad, names_of}
use Rattle.sr_cli.specs.Leaves.{NotRead}
use Rattle.sr_cli.specs.declared.file.ReadFault.{ReadFault}
use Rattle.sr_cli.specs.declared.file.ReadFault.TheVariants as read
use Rattle.sr_words.specs.declared.command.LoadWord.{LoadWord}
use Rattle.sr_cli.specs.Seen.{AddsLoad}

-- the words in front of the rest were read as these loads
pub record ReadSoFar (held : List ℕ → Option (List ℕ)) (words : List LoadWord) (loads : List Load) (rest : List LoadWord) : Type 0 where
  pub front : List LoadWord
  pub split : words ≡ front ++ rest
  pub read : AllZip (IsLoad held) front loads

-- ---- at the start and at the end

pub none_read : (held : List ℕ → Option (List ℕ)) (words : List LoadWord) (loads : List Load) → loads ≡ [] → ReadSoFar held words loads words
none_read held words loads none = record { front = []; split = refl; read = subst (AllZip (IsLoad held) []) (sym none) tt }

append-none : (words : List LoadWord) → words ++ [] ≡ words
append-none [] = refl
append-none (w ∷ ws) = ap (λ (x : List LoadWord). w ∷ x) (append-none ws)

pub all_read : (held : List ℕ → Option (List ℕ)) (words : List LoadWord) (loads : List Load) (rest : List LoadWord) → rest ≡ [] → ReadSoFar held words loads rest → AllZip (IsLoad held) words loads
all_read held words loads rest none so_far =
    let all : words ≡ so_far.front = so_far.split ∙ (ap (λ (x : List LoadWord). so_far.front ++ x) none ∙ append-none so_far.front) in
    subst (λ ws. AllZip (IsLoad held) ws loads) (sym all) so_far.read

-- ---- one load more

zip-push : (held : List ℕ → Option (List ℕ)) (words : List LoadWord) (loads : List Load) (word : LoadWord) (load : Load)
    → AllZip (IsLoad held) words loads → IsLoad held word load → AllZip (IsLoad held) (words ++ word ∷ []) (loads ++ load ∷ [])
zip-push held [] [] word load zip is = (is, tt)
zip-push held [] (l ∷ ls) word load zip is = absurd zip
zip-push held (w ∷ ws) [] word load zip is = absurd zip
zip-push held (w ∷ ws) (l ∷ ls) word load zip is = (zip.0, zip-push held ws ls word load zip.1 is)

more : (held : List ℕ → Option (List ℕ)) (words : List LoadWord) (loads : List Load) (word : LoadWord) (load : Load) (rest : List LoadWord)
    → ReadSoFar held words loads (word ∷ rest) → IsLoad held word load → ReadSoFar held words (loads ++ load ∷ []) rest
more held words loads word load rest so_far is = record {
  front = so_far.front ++ word ∷ [];
  split = so_far.split ∙ sym (append_assoc so_far.front (word ∷ []) rest);
  read = zip-push held so_far.front loads word load so_far.read is;
}

-- the words from this one on
from_here : (words : List LoadWord) (i : ℕ) (word : LoadWord) → i < length words → word ≡ get_or words i word → drop i words ≡ word ∷ drop (i + 1) words
from_here words i word within is = drop_more words i word within ∙ ap (λ (w : LoadWord). w ∷ drop (i + 1) words) (sym is)

-- one word more was read
pub one_read : (held : List ℕ → Option (List ℕ)) (words : List LoadWord) (i : ℕ) (word : LoadWord) (old new : List Load) → i < length words → word ≡ get_or words i word
    → ReadSoFar held words old (drop i words) → AddsLoad held word old new → ReadSoFar held words new (drop (i + 1) words)
one_read held words i word old new within is so_far (load, read, same) =
    let here = subst (ReadSoFar held words old) (from_here words i word within is) so_far in
    subst (λ ls. ReadSoFar held words ls (drop (i + 1) words)) (sym same) (more held words old word load (drop (i + 1) words) here read)

-- ---- a load that is not read

long-behind : (held : List ℕ → Option (List ℕ)) (left : Option (List ℕ)) (front : List LoadWord) (loads : List Load) (rest : List LoadWord)
    → AllZip (IsLoad held) front loads → SomeTooLong held left (names_of rest) → SomeTooLong held left (names_of (front ++ rest))
long-behind held left [] loads rest read long = long
long-behind held left (w ∷ ws) [] rest read long = absurd read
long-behind held left (w ∷ ws) (l ∷ ls) rest read long = inr (l.bytes, read.0.read, long-behind held left ws ls rest read.1 long)

pub only-long : (held : List ℕ → Option (List ℕ)) (left : Option (List ℕ)) (name : List ℕ) → SomeTooLong held left (name ∷ []) → IsTooLong (held name) left
only-long held left name (inl long) = long
only-long held left name (inr (read, what, wrong)) = absurd wrong

-- they are not all read, if the next one is not
pub one_not_read : (held : List ℕ → Option (List ℕ)) (words : List LoadWord) (i : ℕ) (word : LoadWord) (loads : List Load) (first mid last : Reading) (fault : ReadFault) → i < length words → word ≡ get_or words i word
    → ReadSoFar held words loads (drop i words) → mid.faults ≡ first.faults → NotRead held (word.file ∷ []) mid last fault → NotRead held (names_of words) first last fault
one_not_read held words i word loads first mid last read.Fault within is so_far same rose = subst (λ n. Rose n last.faults) same rose
one_not_read held words i word loads first mid last read.NoMemory within is so_far same stay = stay ∙ same
one_not_read held words i word loads first mid last read.TooLong within is so_far same (long, stay) =
    let here = subst (ReadSoFar held words loads) (from_here words i word within is) so_far in (
      subst (λ ws. SomeTooLong held last.left (names_of ws)) (sym here.split) (long-behind held last.left here.front loads (word ∷ drop (i + 1) words) here.read (inl (only-long held last.left word.file long))),
      stay ∙ same,
    )

held-behind : (held : List ℕ → Option (List ℕ)) (front rest : List LoadWord) (loads : List Load) → AllZip (IsHeldLoad held) (front ++ rest) loads
    → (others : List Load) × AllZip (IsHeldLoad held) rest others
held-behind held [] rest loads zip = (loads, zip)
held-behind held (w ∷ ws) rest [] zip = absurd zip
held-behind held (w ∷ ws) rest (l ∷ ls) zip = held-behind held ws rest ls zip.1

first-held : (held : List ℕ → Option (List ℕ)) (word : LoadWord) (rest : List LoadWord) (loads : List Load) → AllZip (IsHeldLoad held) (word ∷ rest) loads
    → held word.file ≡ None → ⊥
first-held held word rest [] zip none = zip
first-held held word rest (l ∷ ls) zip none = let is : Some l.bytes ≡ None = sym zip.0.bytes ∙ none in absurd cc

-- not all files are held, if the next one is not
pub one_unheld : (held : List ℕ → Option (List ℕ)) (words : List LoadWord) (i : ℕ) (word : LoadWord) (loads : List Load) → i < length words → word ≡ get_or words i word
    → ReadSoFar held words loads (drop i words) → held word.file ≡ None → (all : List Load) → ¬ AllZip (IsHeldLoad held) words all
one_unheld held words i word loads within is so_far none all zip =
    let here = subst (ReadSoFar held words loads) (from_here words i word within is) so_far in
    let others = held-behind held here.front (word ∷ drop (i + 1) words) all (subst (λ ws. AllZip (IsHeldLoad held) ws all) here.split zip) in
    first-held held word (drop (i + 1) words) others.0 others.1 none
