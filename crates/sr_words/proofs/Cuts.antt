-- How a word is cut.
use Rattle.std.proofs.Common.{◌≡◌, ℕ, ◌==◌, false, List, length, None, ap, arith}
use Rattle.std.specs.Prelude.{nat_lt}
use Rattle.std.specs.List.{position, position_or_len}
use Rattle.std.proofs.lemmas.Bool.Decides.{nat_tests}
use Rattle.std.proofs.lemmas.Str.Pattern.{IsSplitOnceResult, split_once_first}
use Rattle.sr_words.specs.Words.{cut_at, cut_word}

no_place : (word : List ℕ) → position_or_len (λ b. b == 61) word ≡ length word → position (λ b. b == 61) word ≡ None
no_place word h = let t : nat_lt (position_or_len (λ b. b == 61) word) (length word) ≡ false = grind (arith, nat_tests) in rw t

-- a word without `=` is not cut
pub uncut : (word : List ℕ) → IsSplitOnceResult 61 word None → cut_word word ≡ None
uncut word split = ap (cut_at word) (no_place word (split_once_first 61 word None split (omega arith)))
