-- What was read of files that are held is what is held.
use Rattle.std.proofs.Common.{◌≡◌, ℕ, ◌≤◌, ◌<◌, ◌^◌, List, [], ◌∷◌, length, Option, Some, None, IfSome, inl, inr, arith, sym, ap, subst, refl, ◌∙◌, IsTrue, true, rules}
use Rattle.std.specs.Prelude.{nat_lt}
use Rattle.std.specs.List.{AllZip, list_all}
use Rattle.std.proofs.lemmas.Grind.{common_steps}
use Rattle.std.proofs.lemmas.Bool.Decides.{nat_tests}
use Rattle.std.specs.Io.KnownBytes.{Consumes}
use Rattle.sr_load.specs.declared.fill.Load.{Load}
use Rattle.sr_cli.specs.Files.{IsWhatIsHeld, IsLoad, IsTooLong, SomeTooLong, IsHeldLoad, SomeLong, names_of}
use Rattle.sr_words.specs.declared.command.LoadWord.{LoadWord}

pub same_bytes : (held : Option (List ℕ)) (bytes read : List ℕ) → held ≡ Some bytes → IsWhatIsHeld held read → read ≡ bytes
same_bytes held bytes read is what = subst (λ h. IfSome h (λ b. read ≡ b)) is what.told

abbrev load_from : List ℕ → List ℕ → Load
load_from table bytes = record { table = table; bytes = bytes }

same_load : (held : List ℕ → Option (List ℕ)) (word : LoadWord) (a b : Load) → IsLoad held word a → IsHeldLoad held word b → a ≡ b
same_load held word a b read is =
    let table : a.table ≡ b.table = read.table ∙ sym is.table in
    let bytes : a.bytes ≡ b.bytes = same_bytes (held word.file) b.bytes a.bytes is.bytes read.read in
    ap (λ (t : List ℕ). load_from t a.bytes) table ∙ ap (λ (x : List ℕ). load_from b.table x) bytes

pub same_loads : (held : List ℕ → Option (List ℕ)) (words : List LoadWord) (xs ys : List Load) → AllZip (IsLoad held) words xs → AllZip (IsHeldLoad held) words ys → xs ≡ ys
same_loads held [] [] [] read is = refl
same_loads held [] [] (y ∷ ys) read is = absurd is
same_loads held [] (x ∷ xs) ys read is = absurd read
same_loads held (word ∷ words) [] ys read is = absurd read
same_loads held (word ∷ words) (x ∷ xs) [] read is = absurd is
same_loads held (word ∷ words) (x ∷ xs) (y ∷ ys) read is =
    let first : x ≡ y = same_load held word x y read.0 is.0 in
    let rest : xs ≡ ys = same_loads held words xs ys read.1 is.1 in
    cc

pub some_short : (held : List ℕ → Option (List ℕ)) (words : List LoadWord) (loads : List Load) → AllZip (IsLoad held) words loads → ¬ SomeLong loads
some_short held [] [] read long = long
some_short held [] (load ∷ loads) read long = absurd read
some_short held (word ∷ words) [] read long = long
some_short held (word ∷ words) (load ∷ loads) read (inl long) = let w = read.0.read.within_limit in omega (arith, long, w)
some_short held (word ∷ words) (load ∷ loads) read (inr long) = some_short held words loads read.1 long

-- what was read has fewer than 2^32 bytes
pub are_short : (held : List ℕ → Option (List ℕ)) (words : List LoadWord) (loads : List Load) → AllZip (IsLoad held) words loads
    → IsTrue (list_all (λ load. nat_lt (length load.bytes) (2 ^ 32)) loads)
are_short held [] [] read = search rules
are_short held [] (load ∷ loads) read = absurd read
are_short held (word ∷ words) [] read = absurd read
are_short held (word ∷ words) (load ∷ loads) read =
    let w = read.0.read.within_limit in
    let first : nat_lt (length load.bytes) (2 ^ 32) ≡ true = grind (arith, nat_tests) in
    let rest = are_short held words loads read.1 in
    rw first rest

-- bytes that were read are no more than those that were there
read_within : (script : List ℕ) (left : Option (List ℕ)) (bytes : List ℕ) → Consumes (Some script) left bytes → length bytes ≤ length script
read_within script None bytes consumed = absurd consumed
read_within script (Some rest) bytes consumed = grind (arith, common_steps)

pub too_long_held : (held left : Option (List ℕ)) (bytes : List ℕ) → held ≡ Some bytes → IsTooLong held left → 67108864 < length bytes
too_long_held held left bytes is long =
    let t : IsTooLong (Some bytes) left = subst (λ h. IsTooLong h left) is long in
    let within : length t.bytes ≤ length bytes = read_within bytes left t.bytes t.consumed in
    omega (arith, t.which, within)

pub some_long_held : (held : List ℕ → Option (List ℕ)) (left : Option (List ℕ)) (words : List LoadWord) (loads : List Load) → AllZip (IsHeldLoad held) words loads
    → SomeTooLong held left (names_of words) → SomeLong loads
some_long_held held left [] [] are long = long
some_long_held held left [] (load ∷ loads) are long = absurd long
some_long_held held left (word ∷ words) [] are long = absurd are
some_long_held held left (word ∷ words) (load ∷ loads) are (inl long) = inl (too_long_held (held word.file) left load.bytes are.0.bytes long)
some_long_held held left (word ∷ words) (load ∷ loads) are (inr (read, what, long)) = inr (some_long_held held left words loads are.1 long)
