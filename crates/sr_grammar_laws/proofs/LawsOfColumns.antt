-- The readers of a CREATE keep their rules.
use Rattle.std.proofs.Common.{◌≡◌, ℕ, pos, zero, suc, Bool, true, false, List, [], ◌∷◌, ◌++◌, inl, inr, refl, sym, ◌∙◌}
use Rattle.std.specs.Prelude.{◌&&◌, codes}
use Rattle.std.specs.Str.{bytes_eq}
use Rattle.std.proofs.lemmas.Bool.{cond-false}
use Rattle.sr_cell.specs.declared.table.Kind.TheVariants as kinds
use Rattle.sr_grammar.specs.declared.statement.ColumnRule.TheVariants.{PrimaryKey, NotNull, Null, Check as Checks}
use Rattle.sr_grammar.specs.Tokens.{Key, Number, Mark, Tok, is, is_kind, of_kind}
use Rattle.sr_grammar.specs.Words.{place_of, number_of, minus}
use Rattle.sr_grammar.specs.Trees.{Defines}
use Rattle.sr_grammar.specs.Rules.{Rule, One, Nothing, ◌>>=◌ as ◌▸◌, ◌or◌}
use Rattle.sr_grammar.specs.Columns.{Left, all_left, Only, IsNumber, IsKind, IsCheck, IsRules, IsColumn, IsCreate}
use Rattle.sr_grammar_laws.specs.Reading.{Reader, next_is, branch}
use Rattle.sr_grammar_laws.specs.Readers.{number, kind, check, may, rules, column, create}
use Rattle.sr_grammar_laws.proofs.Good.{or_test, next_or, or_next, next_apart}
use Rattle.sr_grammar_laws.proofs.Deep.{Both, both_nothing, both_then, both_branch}
use Rattle.sr_grammar_laws.proofs.Words.{no_more, none_more, Begins, Apart, begins_one, begins_then, begins_token, is-apart, of_kind-is, is-of_kind, chosen, both_after, both_map, both_more, both_list, both_parens}
use Rattle.sr_grammar_laws.proofs.Firsts.{begins_not, not_apart, BeginsNot, not_or, not_after}
use Rattle.sr_grammar_laws.proofs.LawsOfConditions.{number_one, name_one}

-- ---- numbers, kinds and ranges

number_begins : {B : Type 0} (Q : ℕ → Rule B) → Begins (One number_of ▸ Q) (of_kind Number)
number_begins Q = begins_then _ Q _ (begins_one number_of (of_kind Number) (λ t a e. chosen (of_kind Number t) _ a e))

pub both_number : Both number number IsNumber IsNumber no_more
unfolding number
both_number =
    both_branch (is Mark (codes "-")) _ _ _ _ _ _ _ _ no_more
    (both_after Mark (codes "-") _ _ _ _ no_more refl (λ _. both_map _ _ _ _ no_more minus number_one))
    (both_map _ _ _ _ no_more (λ n. pos n) number_one)
    (begins_then _ _ _ (begins_token Mark (codes "-")))
    (begins_not _ (of_kind Number) _ no_more (number_begins _) (of_kind-is Number Mark _ refl))

pub both_kind : Both kind kind IsKind IsKind no_more
unfolding kind
both_kind =
    both_branch (is Key (codes "INT")) _ _ _ _ _ _ _ _ no_more
    (both_after Key (codes "INT") _ _ _ _ no_more refl (λ _. both_nothing kinds.Num no_more))
    (both_branch (is Key (codes "INTEGER")) _ _ _ _ _ _ _ _ no_more
    (both_after Key (codes "INTEGER") _ _ _ _ no_more refl (λ _. both_nothing kinds.Num no_more))
    (both_after Key (codes "TEXT") _ _ _ _ no_more refl (λ _. both_nothing kinds.Str no_more))
    (begins_then _ _ _ (begins_token Key (codes "INTEGER")))
    (not_after Key (codes "TEXT") _ _ _ (is-apart Key Key _ _ refl)))
    (begins_then _ _ _ (begins_token Key (codes "INT")))
    (not_or _ _ _ _ (not_after Key (codes "INTEGER") _ _ _ (is-apart Key Key _ _ refl)) (not_after Key (codes "TEXT") _ _ _ (is-apart Key Key _ _ refl)))

pub both_check : Both check check IsCheck IsCheck no_more
unfolding check
both_check =
    both_then _ _ _ _ no_more _ _ _ _ no_more name_one
    (λ name. both_after Key (codes "BETWEEN") _ _ _ _ no_more refl (λ _.
    both_then _ _ _ _ no_more _ _ _ _ no_more both_number
    (λ low. both_after Key (codes "AND") _ _ _ _ no_more refl (λ _. both_map _ _ _ _ no_more _ both_number))
    (λ a x b y rest u v w. none_more (y ++ rest))))
    (λ a x b y rest u v w. none_more (y ++ rest))

-- ---- rules, each at most once

-- an equal reader, and a rule with the same spellings
both_like : {A : Type 0} (p q : Reader A) (P R : Rule A) (more : Tok → Bool) → ((ts : List Tok) → p ts ≡ q ts) → ((a : A) (x : List Tok) → P a x → R a x) → ((a : A) (x : List Tok) → R a x → P a x) → Both p p P P more → Both q q R R more
both_like {A = A} p q P R more same to from b = record {
  good = record {
    sound = λ ts a rest e. let s = b.good.sound ts a rest (same ts ∙ e) in (s.0, s.1, to a s.0 s.2);
    complete = λ a front rest h m. sym (same (front ++ rest)) ∙ b.good.complete a front rest (from a front h) m;
    viable = λ ts d bad e. let s = b.good.viable ts d bad (same ts ∙ e) in (s.0, s.1, s.2, s.3, to s.2 (s.0 ++ s.3) s.4);
    stays_ok = λ a front r r' f e. sym (same (front ++ r')) ∙ b.good.stays_ok a front r r' f (same (front ++ r) ∙ e);
    stays_err = λ d front r r' f e. sym (same (front ++ r')) ∙ b.good.stays_err d front r r' f (same (front ++ r) ∙ e);
    value = b.good.value;
    spelling = b.good.spelling;
    some = to b.good.value b.good.spelling b.good.some;
  };
  wider = λ a x h. h;
  got = λ ts a rest e. e;
  fails = λ ts bad e. e;
  deep = λ ts bad e. let s = b.deep ts bad (same ts ∙ e) in (s.0, s.1, s.2, s.3, s.4, s.5, s.6, to s.5 (s.0 ++ s.1 ∷ s.6) s.7);
}

-- a rule that may stand is told apart by its first word; one that may not is never looked for
both_only : {A : Type 0} (b : Bool) (w : List ℕ) (p : Reader A) (q : Reader A) (P Q : Rule A) (more : Tok → Bool)
    → Both p p P P more → Both q q Q Q more → Begins P (is Key w)
    → ((a : A) (x rest : List Tok) → Q a x → next_is more rest ≡ false → next_is (may b w) (x ++ rest) ≡ false)
    → Both (branch (may b w) p q) (branch (may b w) p q) (Only b P or Q) (Only b P or Q) more
both_only {A = A} true w p q P Q more hp hq begins apart =
    both_like (branch (may true w) p q) (branch (may true w) p q) (P or Q) (Only true P or Q) more (λ ts. refl)
    (λ a x h. elim h [ inl k ↦ inl (refl, k) | inr k ↦ inr k ])
    (λ a x h. elim h [ inl k ↦ inl k.1 | inr k ↦ inr k ])
    (both_branch (may true w) p p q q P P Q Q more hp hq begins apart)
both_only {A = A} false w p q P Q more hp hq begins apart =
    both_like q (branch (may false w) p q) Q (Only false P or Q) more (λ ts. sym (cond-false _ _ _ (nothing_next ts)))
    (λ a x h. inr h)
    (λ a x h. elim h [ inl k ↦ absurd (let e = k.0 in cc e) | inr k ↦ k ])
    hq
  where
    nothing_next : (ts : List Tok) → next_is (may false w) ts ≡ false
    nothing_next [] = refl
    nothing_next (t ∷ ts) = refl

-- what goes on with the rules of a column
abbrev pub rules_more : Left → Tok → Bool
rules_more left = or_test (may left.primary (codes "PRIMARY")) (or_test (may left.null (codes "NOT")) (or_test (may left.null (codes "NULL")) (or_test (may left.check (codes "CHECK")) no_more)))

may_apart : (b : Bool) (v w : List ℕ) → (is_kind Key Key && bytes_eq v w) ≡ false → Apart (is Key v) (may b w)
may_apart true v w d t e = is-apart Key Key v w d t e
may_apart false v w d t e = refl

not_only : {B : Type 0} (b c : Bool) (v w : List ℕ) (Q : ℕ → Rule B) (more : Tok → Bool) → (is_kind Key Key && bytes_eq v w) ≡ false → BeginsNot (Only b (One (place_of Key v) ▸ Q)) (may c w) more
not_only b c v w Q more d a x rest h stop = next_apart (is Key v) (may c w) (may_apart c v w d) (x ++ rest) (begins_then _ Q _ (begins_token Key v) a x rest h.1)

not_nothing : {A : Type 0} (b : A) (g more : Tok → Bool) → ((ts : List Tok) → next_is more ts ≡ false → next_is g ts ≡ false) → BeginsNot (Nothing b) g more
not_nothing b g more h a x rest p stop = rw p.1 (h rest stop)

never_may : (w : List ℕ) (ts : List Tok) → next_is (may false w) ts ≡ false
never_may w [] = refl
never_may w (t ∷ ts) = refl

-- the four tests behind the rules
first_more : (left : Left) (ts : List Tok) → next_is (rules_more left) ts ≡ false → next_is (may left.primary (codes "PRIMARY")) ts ≡ false
first_more left ts e = (next_or (may left.primary (codes "PRIMARY")) _ ts e).0

second_more : (left : Left) (ts : List Tok) → next_is (rules_more left) ts ≡ false → next_is (may left.null (codes "NOT")) ts ≡ false
second_more left ts e = (next_or (may left.null (codes "NOT")) _ ts (next_or (may left.primary (codes "PRIMARY")) _ ts e).1).0

behind_two : (left : Left) (ts : List Tok) → next_is (rules_more left) ts ≡ false → next_is (or_test (may left.null (codes "NULL")) (or_test (may left.check (codes "CHECK")) no_more)) ts ≡ false
behind_two left ts e = (next_or (may left.null (codes "NOT")) _ ts (next_or (may left.primary (codes "PRIMARY")) _ ts e).1).1

third_more : (left : Left) (ts : List Tok) → next_is (rules_more left) ts ≡ false → next_is (may left.null (codes "NULL")) ts ≡ false
third_more left ts e = (next_or (may left.null (codes "NULL")) _ ts (behind_two left ts e)).0

fourth_more : (left : Left) (ts : List Tok) → next_is (rules_more left) ts ≡ false → next_is (may left.check (codes "CHECK")) ts ≡ false
fourth_more left ts e = (next_or (may left.check (codes "CHECK")) no_more ts (next_or (may left.null (codes "NULL")) _ ts (behind_two left ts e)).1).0

all_four : (a b c : Bool) (ts : List Tok) → next_is (may a (codes "PRIMARY")) ts ≡ false → next_is (may b (codes "NOT")) ts ≡ false → next_is (may b (codes "NULL")) ts ≡ false → next_is (may c (codes "CHECK")) ts ≡ false → next_is (rules_more (record { primary = a; null = b; check = c })) ts ≡ false
all_four a b c ts e f g h =
    or_next (may a (codes "PRIMARY")) _ ts e (or_next (may b (codes "NOT")) _ ts f (or_next (may b (codes "NULL")) _ ts g (or_next (may c (codes "CHECK")) no_more ts h (none_more ts))))

-- neither NULL nor NOT NULL again
none_of_null : (left : Left) (ts : List Tok) → next_is (rules_more left) ts ≡ false → next_is (rules_more (record left { null = false })) ts ≡ false
none_of_null left ts e = all_four left.primary false left.check ts (first_more left ts e) (never_may (codes "NOT") ts) (never_may (codes "NULL") ts) (fourth_more left ts e)

pub both_rules : (k : ℕ) (left : Left) → Both (rules k left) (rules k left) (IsRules k left) (IsRules k left) (rules_more left)
unfolding rules
both_rules zero left = both_nothing [] (rules_more left)
both_rules (suc k) left =
    let more : Tok → Bool = rules_more left in
    both_only left.primary (codes "PRIMARY") _ _ _ _ more
    (both_after Key (codes "PRIMARY") _ _ _ _ more refl (λ _. both_after Key (codes "KEY") _ _ _ _ more refl (λ _.
    both_map _ _ _ _ more (λ r. PrimaryKey ∷ r) (both_more _ _ _ _ _ more (λ ts e. all_four false left.null left.check ts (never_may (codes "PRIMARY") ts) (second_more left ts e) (third_more left ts e) (fourth_more left ts e)) (both_rules k (record left { primary = false }))))))
    (both_only left.null (codes "NOT") _ _ _ _ more
    (both_after Key (codes "NOT") _ _ _ _ more refl (λ _. both_after Key (codes "NULL") _ _ _ _ more refl (λ _.
    both_map _ _ _ _ more (λ r. NotNull ∷ r) (both_more _ _ _ _ _ more (none_of_null left) (both_rules k (record left { null = false }))))))
    (both_only left.null (codes "NULL") _ _ _ _ more
    (both_after Key (codes "NULL") _ _ _ _ more refl (λ _.
    both_map _ _ _ _ more (λ r. Null ∷ r) (both_more _ _ _ _ _ more (none_of_null left) (both_rules k (record left { null = false })))))
    (both_only left.check (codes "CHECK") _ _ _ _ more
    (both_after Key (codes "CHECK") _ _ _ _ more refl (λ _.
    both_then _ _ _ _ no_more _ _ _ _ more (both_parens _ _ _ _ no_more both_check (not_apart _))
    (λ range. both_map _ _ _ _ more (λ r. Checks range ∷ r) (both_more _ _ _ _ _ more (λ ts e. all_four left.primary left.null false ts (first_more left ts e) (second_more left ts e) (third_more left ts e) (never_may (codes "CHECK") ts)) (both_rules k (record left { check = false }))))
    (λ a x b y rest u v w. none_more (y ++ rest))))
    (both_nothing [] more)
    (begins_then _ _ _ (begins_token Key (codes "CHECK")))
    (not_nothing [] _ more (fourth_more left)))
    (begins_then _ _ _ (begins_token Key (codes "NULL")))
    (not_or _ _ _ more (not_only left.check left.null (codes "CHECK") (codes "NULL") _ more refl) (not_nothing [] _ more (third_more left))))
    (begins_then _ _ _ (begins_token Key (codes "NOT")))
    (not_or _ _ _ more (not_only left.null left.null (codes "NULL") (codes "NOT") _ more refl) (not_or _ _ _ more (not_only left.check left.null (codes "CHECK") (codes "NOT") _ more refl) (not_nothing [] _ more (second_more left)))))
    (begins_then _ _ _ (begins_token Key (codes "PRIMARY")))
    (not_or _ _ _ more (not_only left.null left.primary (codes "NOT") (codes "PRIMARY") _ more refl)
    (not_or _ _ _ more (not_only left.null left.primary (codes "NULL") (codes "PRIMARY") _ more refl)
    (not_or _ _ _ more (not_only left.check left.primary (codes "CHECK") (codes "PRIMARY") _ more refl) (not_nothing [] _ more (first_more left)))))

-- ---- columns

abbrev pub column_more : Tok → Bool
column_more = rules_more all_left

pub both_column : Both column column IsColumn IsColumn column_more
unfolding column
both_column =
    both_then _ _ _ _ no_more _ _ _ _ column_more name_one
    (λ name. both_then _ _ _ _ no_more _ _ _ _ column_more both_kind
    (λ k. both_map _ _ _ _ column_more _ (both_rules 3 all_left))
    (λ a x b y rest u v w. none_more (y ++ rest)))
    (λ a x b y rest u v w. none_more (y ++ rest))

-- a mark that does not go on with a column
ends_column : (m : List ℕ) → Apart (is Mark m) column_more
ends_column m t e = rw (is_key-mark (codes "PRIMARY"), is_key-mark (codes "NOT"), is_key-mark (codes "NULL"), is_key-mark (codes "CHECK")) refl
  where
    is_key-mark : (w : List ℕ) → is Key w t ≡ false
    is_key-mark w = of_kind-is Mark Key w refl t (is-of_kind Mark m t e)

pub both_create : Both create create IsCreate IsCreate no_more
unfolding create
both_create =
    both_after Key (codes "CREATE") _ _ _ _ no_more refl (λ _.
    both_after Key (codes "TABLE") _ _ _ _ no_more refl (λ _.
    both_then _ _ _ _ no_more _ _ _ _ no_more name_one
    (λ name. both_map _ _ _ _ no_more (Defines name.text)
    (both_parens _ _ _ _ (or_test (is Mark (codes ",")) column_more)
    (both_list (λ a all. a ∷ all) Mark (codes ",") _ _ _ _ column_more refl both_column (ends_column (codes ",")))
    close_apart))
    (λ a x b y rest u v w. none_more (y ++ rest))))
  where
    close_apart : Apart (is Mark (codes ")")) (or_test (is Mark (codes ",")) column_more)
    close_apart t e = rw (is-apart Mark Mark (codes ")") (codes ",") refl t e) (ends_column (codes ")") t e)
