-- Reading rules one by one reads all of them.
use Rattle.std.proofs.Common.{◌≡◌, ℕ, zero, suc, ◌+◌, ◌<◌, Bool, true, false, List, [], ◌∷◌, ◌++◌, Option, Some, None, Err, refl, sym, ap, ◌∙◌, append_assoc, arith}
use Rattle.std.specs.Prelude.{codes}
use Rattle.std.proofs.lemmas.List.{append-nil}
use Rattle.sr_grammar.specs.declared.statement.ColumnRule.{ColumnRule}
use Rattle.sr_grammar.specs.declared.statement.ColumnRule.TheVariants.{PrimaryKey, NotNull, Null, Check as Checks}
use Rattle.sr_grammar.specs.Tokens.{Tok}
use Rattle.sr_grammar.specs.Columns.{Left, all_left}
use Rattle.sr_grammar_laws.specs.Reading.{Reading, Got, Fails, Reader, ◌>>=◌, and_then, nothing, next_is}
use Rattle.sr_grammar_laws.specs.Readers.{key, in_parens, check, may, rules}
use Rattle.sr_grammar_laws.proofs.Loops.{with_front}
use Rattle.sr_sql.specs.Rules.{rule, without}
use Rattle.sr_sql.specs.Views.{Reads}
use Rattle.sr_sql.specs.declared.stop.Stop.{Stop}
use Rattle.sr_sql.specs.declared.stop.Stop.TheVariants as stop

may_true : (left : Bool) (word : List ℕ) (ts : List Tok) → next_is (may left word) ts ≡ true → left ≡ true
may_true true word ts e = refl
may_true false word [] e = absurd cc
may_true false word (t ∷ ts) e = absurd cc

unfoldable pub one_if : Bool → ℕ
one_if true = 1
one_if false = 0

-- how many rules may still stand
unfoldable pub how_many : Left → ℕ
how_many left = one_if left.primary + (one_if left.null + one_if left.check)

-- what is read behind a rule, if there is one
abbrev After : Left → Reading (Option ColumnRule) → Reading (List ColumnRule)
After left (Got None rest) = Got [] rest
After left (Got (Some r) rest) = rules (how_many (without left r)) (without left r) rest >>= λ more end. Got (r ∷ more) end
After left (Fails deep bad) = Fails deep bad

two : {A : Type 0} (left : Left) (r : Reading ℕ) (w : Reader A) (x : A → ColumnRule)
    → (r >>= λ _. and_then w (λ a. and_then (rules (how_many (without left (x a))) (without left (x a))) (λ more. nothing (x a ∷ more)))) ≡ After left (r >>= λ _. and_then w (λ a. nothing (Some (x a))))
two left (Fails deep bad) w x = refl
two {A = A} left (Got at mid) w x = go (w mid)
  where
    go : (r : Reading A) → (r >>= λ a. and_then (rules (how_many (without left (x a))) (without left (x a))) (λ more. nothing (x a ∷ more))) ≡ After left (r >>= λ a. nothing (Some (x a)))
    go (Got a end) = refl
    go (Fails deep bad) = refl

single : (left : Left) (r : Reading ℕ) (x : ColumnRule)
    → (r >>= λ _. and_then (rules (how_many (without left x)) (without left x)) (λ more. nothing (x ∷ more))) ≡ After left (r >>= λ _. nothing (Some x))
single left (Got at mid) x = refl
single left (Fails deep bad) x = refl

one_less : (left : Left) → (left.primary ≡ true → how_many left ≡ suc (how_many (record left { primary = false })))
    × (left.null ≡ true → how_many left ≡ suc (how_many (record left { null = false })))
    × (left.check ≡ true → how_many left ≡ suc (how_many (record left { check = false })))
unfolding how_many one_if
one_less left = (λ e. rw e (omega arith), λ e. rw e (omega arith), λ e. rw e (omega arith))

none_more : (k : ℕ) (left : Left) (ts : List Tok) → next_is (may left.primary (codes "PRIMARY")) ts ≡ false → next_is (may left.null (codes "NOT")) ts ≡ false
    → next_is (may left.null (codes "NULL")) ts ≡ false → next_is (may left.check (codes "CHECK")) ts ≡ false → rules k left ts ≡ Got [] ts
unfolding rules
none_more zero left ts a b c d = refl
none_more (suc k) left ts a b c d = rw (a, b, c, d) refl

rules_by : (left : Left) (ts : List Tok) → rules (how_many left) left ts ≡ After left (rule left ts)
unfolding rule rules
rules_by left ts = go (next_is (may left.primary (codes "PRIMARY")) ts) (next_is (may left.null (codes "NOT")) ts) (next_is (may left.null (codes "NULL")) ts) (next_is (may left.check (codes "CHECK")) ts) refl refl refl refl
  where
    go : (a b c d : Bool) → next_is (may left.primary (codes "PRIMARY")) ts ≡ a → next_is (may left.null (codes "NOT")) ts ≡ b → next_is (may left.null (codes "NULL")) ts ≡ c
        → next_is (may left.check (codes "CHECK")) ts ≡ d → rules (how_many left) left ts ≡ After left (rule left ts)
    go true b c d p q r s = rw ((one_less left).0 (may_true left.primary (codes "PRIMARY") ts p), p) (two left (key (codes "PRIMARY") ts) (key (codes "KEY")) (λ _. PrimaryKey))
    go false true c d p q r s = rw ((one_less left).1 (may_true left.null (codes "NOT") ts q), p, q) (two left (key (codes "NOT") ts) (key (codes "NULL")) (λ _. NotNull))
    go false false true d p q r s = rw ((one_less left).1 (may_true left.null (codes "NULL") ts r), p, q, r) (single left (key (codes "NULL") ts) Null)
    go false false false true p q r s = rw ((one_less left).2 (may_true left.check (codes "CHECK") ts s), p, q, r, s) (two left (key (codes "CHECK") ts) (in_parens check) (λ range. Checks range))
    go false false false false p q r s = rw (none_more (how_many left) left ts p q r s, p, q, r, s) refl

-- a rule that was read might stand
found_two : {A : Type 0} (r : Reading ℕ) (w : Reader A) (x : A → ColumnRule) (found : ColumnRule) (rest : List Tok) → (r >>= λ _. and_then w (λ a. nothing (Some (x a)))) ≡ Got (Some found) rest → (a : A) × (found ≡ x a)
found_two (Fails deep bad) w x found rest e = absurd cc
found_two {A = A} (Got at mid) w x found rest e = go (w mid) e
  where
    go : (r : Reading A) → (r >>= λ a. nothing (Some (x a))) ≡ Got (Some found) rest → (a : A) × (found ≡ x a)
    go (Got a end) e = let k : x a ≡ found = cc in (a, sym k)
    go (Fails deep bad) e = absurd cc

found_one : (r : Reading ℕ) (x found : ColumnRule) (rest : List Tok) → (r >>= λ _. nothing (Some x)) ≡ Got (Some found) rest → found ≡ x
found_one (Fails deep bad) x found rest e = absurd cc
found_one (Got at mid) x found rest e = let k : x ≡ found = cc in sym k

pub rules_less : (left : Left) (ts : List Tok) (found : ColumnRule) (rest : List Tok) → rule left ts ≡ Got (Some found) rest → how_many (without left found) < how_many left
unfolding rule
rules_less left ts found rest e = go (next_is (may left.primary (codes "PRIMARY")) ts) (next_is (may left.null (codes "NOT")) ts) (next_is (may left.null (codes "NULL")) ts) (next_is (may left.check (codes "CHECK")) ts) refl refl refl refl
  where
    go : (a b c d : Bool) → next_is (may left.primary (codes "PRIMARY")) ts ≡ a → next_is (may left.null (codes "NOT")) ts ≡ b → next_is (may left.null (codes "NULL")) ts ≡ c
        → next_is (may left.check (codes "CHECK")) ts ≡ d → how_many (without left found) < how_many left
    go true b c d p q r s =
        let f = found_two (key (codes "PRIMARY") ts) (key (codes "KEY")) (λ _. PrimaryKey) found rest (rw p at e) in
        let less = (one_less left).0 (may_true left.primary (codes "PRIMARY") ts p) in
        rw f.1 (omega (arith, less))
    go false true c d p q r s =
        let f = found_two (key (codes "NOT") ts) (key (codes "NULL")) (λ _. NotNull) found rest (rw (p, q) at e) in
        let less = (one_less left).1 (may_true left.null (codes "NOT") ts q) in
        rw f.1 (omega (arith, less))
    go false false true d p q r s =
        let f = found_one (key (codes "NULL") ts) Null found rest (rw (p, q, r) at e) in
        let less = (one_less left).1 (may_true left.null (codes "NULL") ts r) in
        rw f (omega (arith, less))
    go false false false true p q r s =
        let f = found_two (key (codes "CHECK") ts) (in_parens check) (λ range. Checks range) found rest (rw (p, q, r, s) at e) in
        let less = (one_less left).2 (may_true left.check (codes "CHECK") ts s) in
        rw f.1 (omega (arith, less))
    go false false false false p q r s = let f : Got None ts ≡ Got (Some found) rest = rw (p, q, r, s) at e in absurd (let k : None ≡ Some found = cc in cc)

-- what was read before, and what is still read, is all
pub record Ruling (front : List ColumnRule) (left : Left) (ts : List Tok) (total : Reading (List ColumnRule)) : Type 0 where
  pub so_far : with_front front (rules (how_many left) left ts) ≡ total

all_three : how_many all_left ≡ 3
unfolding how_many one_if
all_three = refl

pub ruling_first : (ts : List Tok) → Ruling [] all_left ts (rules 3 all_left ts)
ruling_first ts = record { so_far = rw all_three (go (rules 3 all_left ts)) }
  where
    go : (r : Reading (List ColumnRule)) → with_front [] r ≡ r
    go (Got y end) = refl
    go (Fails deep bad) = refl

pub ruling_on : (front : List ColumnRule) (left : Left) (ts : List Tok) (found : ColumnRule) (rest : List Tok) (total : Reading (List ColumnRule)) → rule left ts ≡ Got (Some found) rest
    → Ruling front left ts total → Ruling (front ++ found ∷ []) (without left found) rest total
ruling_on front left ts found rest total e ruling =
    record { so_far = sym (regroup (rules (how_many (without left found)) (without left found) rest)) ∙ ap (with_front front) (sym (rules_by left ts ∙ ap (After left) e)) ∙ ruling.so_far }
  where
    regroup : (read : Reading (List ColumnRule)) → with_front front (read >>= λ y end. Got (found ∷ y) end) ≡ with_front (front ++ found ∷ []) read
    regroup (Got y end) = ap (λ z. Got z end) (sym (append_assoc front (found ∷ []) y))
    regroup (Fails deep bad) = refl

pub ruling_done : (front : List ColumnRule) (left : Left) (ts rest : List Tok) (total : Reading (List ColumnRule)) → rule left ts ≡ Got None rest → Ruling front left ts total → total ≡ Got front rest
ruling_done front left ts rest total e ruling = sym ruling.so_far ∙ ap (with_front front) (rules_by left ts ∙ ap (After left) e) ∙ ap (λ z. Got z rest) (append-nil front)

ruling_wrong : (front : List ColumnRule) (left : Left) (ts bad : List Tok) (deep : Bool) (total : Reading (List ColumnRule)) → rule left ts ≡ Fails deep bad → Ruling front left ts total → total ≡ Fails deep bad
ruling_wrong front left ts bad deep total e ruling = sym ruling.so_far ∙ ap (with_front front) (rules_by left ts ∙ ap (After left) e)

pub ruling_stops : (front : List ColumnRule) (left : Left) (old ts bad : List Tok) (e : Stop) → Reads {X = Option ColumnRule} (λ r. r) (rule left) ts (Err e) bad → Ruling front left ts (rules 3 all_left old)
    → Reads {X = List ColumnRule} (λ x. x) (rules 3 all_left) old (Err e) bad
ruling_stops front left old ts bad stop.Grammar r ruling = ruling_wrong front left ts bad false _ r ruling
ruling_stops front left old ts bad stop.Deep r ruling = ruling_wrong front left ts bad true _ r ruling
ruling_stops front left old ts bad stop.Memory r ruling = tt
