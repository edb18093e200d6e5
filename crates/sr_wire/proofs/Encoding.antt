-- A length that is put in front once the body is written.
use Rattle.std.proofs.Common.{◌≡◌, ℕ, ◌+◌, List, ◌++◌, length, drop, ap, ◌∙◌, arith}
use Rattle.std.proofs.lemmas.List.{drop_at, length-append}
use Rattle.sr_bytes.specs.Spelling.{count_bytes}
use Rattle.sr_wire.proofs.Frames.{count_length}

pub record IsBehind (out body : List ℕ) : Type 0 where
  pub size : length out ≡ 4 + length body
  pub rest : drop 4 out ≡ body

pub behind_count : (n : ℕ) (out body : List ℕ) → out ≡ count_bytes n ++ body → IsBehind out body
behind_count n out body e = record {
  size = omega (arith, ap length e, count_length n, length-append (count_bytes n) body);
  rest = ap (drop 4) e ∙ drop_at (count_bytes n) body 4 (count_length n);
}
