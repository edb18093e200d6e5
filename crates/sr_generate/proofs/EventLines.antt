-- Each line behind the first is an event.
use Rattle.std.proofs.Common.{◌≡◌, ℕ, ◌<◌, Bool, true, false, List, [], ◌∷◌, ◌++◌, length, take, drop, Some, Ok, refl, ◌∙◌, arith, append_assoc, lit<}
use Rattle.std.specs.Prelude.{◌==◌, ◌||◌, codes, decimal, nat_eq, nat_lt, if◌then◌else◌}
use Rattle.std.specs.List.{starts_with}
use Rattle.std.proofs.lemmas.Bool.Decides.{nat_tests}
use Rattle.sr_token.specs.Tokens.{begin, first_token, tokens_from}
use Rattle.sr_token.specs.declared.token.TokenKind.TheVariants as token
use Rattle.sr_grammar.specs.Tokens.{Key, is, tokens_of, word_seen}
use Rattle.sr_lines.specs.Script.{Words, ExecSql, QuerySql, PushTo, EventLine, begins_create, behind, event_line, is_blank, line_of}
use Rattle.sr_generate.specs.Script.{after, drawn, insert_line, insert, range_line, range_query, point_line, point_query, update_line, update, push_line, push, of_kind, event, line_at}
use Rattle.sr_generate.proofs.PlainTexts.{is_plain, plain-append, plain-decimal, utf8-plain}

-- a printable text with a line feed, which is an event of one client
pub record IsEvent (line : List ℕ) : Type 0 where
  pub front : List ℕ
  pub words : Words
  pub is : line ≡ front ++ (10 ∷ [])
  pub plain : is_plain front ≡ true
  pub read : line_of 1 front ≡ Ok (EventLine words)

some-bytes : (b : ℕ) (s : List ℕ) → (0 == length (b ∷ s)) ≡ false
some-bytes b s = grind (arith, nat_tests)

-- whether a text whose first token is a word begins a CREATE
begins-with : (text : List ℕ) (n : ℕ) → begin text 0 ≡ 0 → (0 == length text) ≡ false → first_token (drop 0 text) ≡ Some (token.Word, n)
    → begins_create (tokens_of text) ≡ is Key (codes "CREATE") (word_seen 0 (take n (drop 0 text)))
unfolding tokens_from
begins-with text n first some word = rw (first, some, word) refl

event-read : (front : List ℕ) (n : ℕ) → is_plain front ≡ true → (is_blank front || starts_with nat_eq front (codes "#")) ≡ false
    → begin front 0 ≡ 0 → (0 == length front) ≡ false → first_token (drop 0 front) ≡ Some (token.Word, n) → is Key (codes "CREATE") (word_seen 0 (take n (drop 0 front))) ≡ false
    → line_of 1 front ≡ event_line 1 front
event-read front n plain says first some word other =
    let text = utf8-plain front plain in
    let no : begins_create (tokens_of front) ≡ false = begins-with front n first some word ∙ other in
    rw (text, says, no) refl

plain-number : (n : ℕ) (rest : List ℕ) → n < 1000 → is_plain rest ≡ true → is_plain (decimal n ++ rest) ≡ true
plain-number n rest h plain = plain-append (decimal n) rest (plain-decimal n (omega (arith, h))) plain

-- ---- of each kind

abbrev insert_front : ℕ → ℕ → ℕ → List ℕ
insert_front k a b = codes "exec INSERT INTO t VALUES (" ++ (decimal k ++ (codes ", " ++ (decimal a ++ (codes ", " ++ (decimal b ++ codes ")")))))

event-insert : (k a b : ℕ) → k < 1000 → a < 1000 → b < 1000 → IsEvent (insert_line k a b)
event-insert k a b small_k small_a small_b =
    let front = insert_front k a b in
    let plain : is_plain front ≡ true =
    plain-number k (codes ", " ++ (decimal a ++ (codes ", " ++ (decimal b ++ codes ")")))) small_k
    (plain-number a (codes ", " ++ (decimal b ++ codes ")")) small_a (plain-number b (codes ")") small_b refl)) in
    record {
      front = front;
      words = ExecSql (behind front);
      is = simp append_assoc;
      plain = plain;
      read = event-read front 4 plain refl refl (some-bytes 101 (drop 1 front)) refl refl;
    }

abbrev range_front : ℕ → ℕ → List ℕ
range_front low high = codes "query 1 SELECT k, a FROM t WHERE a BETWEEN " ++ (decimal low ++ (codes " AND " ++ decimal high))

event-range : (low high : ℕ) → low < 1000 → high < 1000 → IsEvent (range_line low high)
event-range low high small_low small_high =
    let front = range_front low high in
    let plain : is_plain front ≡ true =
    plain-number low (codes " AND " ++ decimal high) small_low (plain-decimal high (omega (arith, small_high))) in
    record {
      front = front;
      words = QuerySql 1 (behind (behind front));
      is = simp append_assoc;
      plain = plain;
      read = event-read front 5 plain refl refl (some-bytes 113 (drop 1 front)) refl refl;
    }

abbrev point_front : ℕ → ℕ → List ℕ
point_front value below = codes "query 1 SELECT k FROM t WHERE b = " ++ (decimal value ++ (codes " AND a < " ++ decimal below))

event-point : (value below : ℕ) → value < 1000 → below < 1000 → IsEvent (point_line value below)
event-point value below small_value small_below =
    let front = point_front value below in
    let plain : is_plain front ≡ true =
    plain-number value (codes " AND a < " ++ decimal below) small_value (plain-decimal below (omega (arith, small_below))) in
    record {
      front = front;
      words = QuerySql 1 (behind (behind front));
      is = simp append_assoc;
      plain = plain;
      read = event-read front 5 plain refl refl (some-bytes 113 (drop 1 front)) refl refl;
    }

abbrev update_front : ℕ → ℕ → List ℕ
update_front a k = codes "exec UPDATE t SET a = " ++ (decimal a ++ (codes " WHERE k = " ++ decimal k))

event-update : (a k : ℕ) → a < 1000 → k < 1000 → IsEvent (update_line a k)
event-update a k small_a small_k =
    let front = update_front a k in
    let plain : is_plain front ≡ true =
    plain-number a (codes " WHERE k = " ++ decimal k) small_a (plain-decimal k (omega (arith, small_k))) in
    record {
      front = front;
      words = ExecSql (behind front);
      is = simp append_assoc;
      plain = plain;
      read = event-read front 4 plain refl refl (some-bytes 101 (drop 1 front)) refl refl;
    }

event-push : IsEvent push_line
event-push = record { front = codes "push 1"; words = PushTo 1; is = refl; plain = refl; read = event-read (codes "push 1") 4 refl refl refl refl refl refl }

-- ---- all

-- a draw is below its bound
small : (many state : ℕ) → 0 < many → drawn many state < many
small many state some = search (arith)

event-kind : (kind state : ℕ) → IsEvent (of_kind kind state).line
event-kind kind state = by (nat_lt kind 6) (kind == 6) (nat_lt kind 9)
  where
    by : (p q r : Bool) → IsEvent (if p then range_query state else (if q then point_query state else (if r then update state else push state))).line
    by true q r = event-range _ _ (let s = small 900 (after state) (lit< tt) in omega (arith, s)) (let s = small 900 (after state) (lit< tt) in let t = small 100 (after (after state)) (lit< tt) in omega (arith, s, t))
    by false true r = event-point _ _ (let s = small 100 (after state) (lit< tt) in omega (arith, s)) (small 1000 (after (after state)) (lit< tt))
    by false false true = event-update _ _ (small 1000 (after state) (lit< tt)) (let s = small 200 (after (after state)) (lit< tt) in omega (arith, s))
    by false false false = event-push

pub event-at : (number state : ℕ) → IsEvent (line_at number state).line
event-at number state = by (nat_lt number 200) refl
  where
    by : (p : Bool) → nat_lt number 200 ≡ p → IsEvent (if p then insert number state else event state).line
    by true is = event-insert _ _ _ (let h : number < 200 = grind (arith, nat_tests) in omega (arith, h)) (small 1000 (after state) (lit< tt)) (let s = small 100 (after (after state)) (lit< tt) in omega (arith, s))
    by false is = event-kind (drawn 10 (after state)) (after state)
