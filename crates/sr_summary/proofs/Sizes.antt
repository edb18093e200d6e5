-- How long a script is.
use Rattle.std.proofs.Common.{◌≡◌, ℕ, zero, suc, ◌+◌, ◌*◌, ◌<◌, ◌≤◌, ◌^◌, Bool, true, false, length, refl, arith, length-append, lit<, lit≤}
use Rattle.std.specs.Prelude.{decimal, nat_lt, ◌==◌, if◌then◌else◌}
use Rattle.std.proofs.lemmas.Fmt.{length-decimal-le}
use Rattle.std.proofs.lemmas.Bool.Decides.{nat_tests}
use Rattle.sr_generate.specs.Script.{after, drawn, create_line, insert_line, insert, range_line, range_query, point_line, point_query, update_line, update, push, of_kind, event, line_at, lines_from, script}

-- a number below 1,000 has at most three digits
few_digits : (n : ℕ) → n < 1000 → length (decimal n) ≤ 3
few_digits n below = length-decimal-le 3 n (lit< tt) (omega (arith, below)) (omega (arith, below))

short_insert : (k a b : ℕ) → k < 1000 → a < 1000 → b < 1000 → length (insert_line k a b) ≤ 100
short_insert k a b small_k small_a small_b =
    let dk = few_digits k small_k in
    let da = few_digits a small_a in
    let db = few_digits b small_b in
    simp (length-append) (omega (arith, dk, da, db))

short_range : (low high : ℕ) → low < 1000 → high < 1000 → length (range_line low high) ≤ 100
short_range low high small_l small_h =
    let dl = few_digits low small_l in
    let dh = few_digits high small_h in
    simp (length-append) (omega (arith, dl, dh))

short_point : (value below : ℕ) → value < 1000 → below < 1000 → length (point_line value below) ≤ 100
short_point value below small_v small_b =
    let dv = few_digits value small_v in
    let db = few_digits below small_b in
    simp (length-append) (omega (arith, dv, db))

short_update : (a k : ℕ) → a < 1000 → k < 1000 → length (update_line a k) ≤ 100
short_update a k small_a small_k =
    let da = few_digits a small_a in
    let dk = few_digits k small_k in
    simp (length-append) (omega (arith, da, dk))

-- a draw is below its bound
small : (many state : ℕ) → 0 < many → drawn many state < many
small many state some = search (arith)

short_kind : (kind state : ℕ) → length (of_kind kind state).line ≤ 100
short_kind kind state = by (nat_lt kind 6) (kind == 6) (nat_lt kind 9)
  where
    by : (p q r : Bool) → length (if p then range_query state else (if q then point_query state else (if r then update state else push state))).line ≤ 100
    by true q r = short_range _ _ (let s = small 900 (after state) (lit< tt) in omega (arith, s)) (let s = small 900 (after state) (lit< tt) in let t = small 100 (after (after state)) (lit< tt) in omega (arith, s, t))
    by false true r = short_point _ _ (let s = small 100 (after state) (lit< tt) in omega (arith, s)) (small 1000 (after (after state)) (lit< tt))
    by false false true = short_update _ _ (small 1000 (after state) (lit< tt)) (let s = small 200 (after (after state)) (lit< tt) in omega (arith, s))
    by false false false = lit≤ tt

short_line : (number state : ℕ) → length (line_at number state).line ≤ 100
short_line number state = by (nat_lt number 200) refl
  where
    by : (p : Bool) → nat_lt number 200 ≡ p → length (if p then insert number state else event state).line ≤ 100
    by true is = short_insert _ _ _ (let h : number < 200 = grind (arith, nat_tests) in omega (arith, h)) (small 1000 (after state) (lit< tt)) (let s = small 100 (after (after state)) (lit< tt) in omega (arith, s))
    by false is = short_kind (drawn 10 (after state)) (after state)

short_lines : (lines number state : ℕ) → length (lines_from lines number state) ≤ lines * 100
unfolding lines_from
short_lines zero number state = lit≤ tt
short_lines (suc lines) number state =
    let one = short_line number state in
    let more = short_lines lines (number + 1) (line_at number state).state in
    let both = length-append (line_at number state).line (lines_from lines (number + 1) (line_at number state).state) in
    omega (arith, one, more, both)

-- it has fewer than 2^32 bytes
pub short_script : (seed events : ℕ) → events ≤ 100000 → length (script seed events) < 2 ^ 32
short_script seed events few =
    let lines = short_lines (200 + events) 0 seed in
    let both = length-append create_line (lines_from (200 + events) 0 seed) in
    omega (arith, lines, both, few)
