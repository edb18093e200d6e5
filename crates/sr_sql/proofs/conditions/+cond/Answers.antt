use Rattle.std.proofs.Common.{◌≡◌, ◌+◌, ◌-◌, false, ◌++◌, ◌∷◌, [], map, length, true, rules, arith}
use Rattle.std.specs.Prelude.{codes}
use Rattle.std.proofs.lemmas.List.{map_push, length-append}
use Rattle.sr_grammar.specs.Tokens.{Key, Mark, is}
use Rattle.sr_grammar.specs.Words.{place_of}
use Rattle.sr_grammar_laws.specs.Reading.{and_then, nothing, next_is}
use Rattle.sr_grammar_laws.specs.Readers.{in_parens, unit, cond_of, conj_of, comparison, list}
use Rattle.sr_grammar_laws.proofs.Loops.{one_shrinks, goes_on}
use Rattle.sr_sql.proofs.Shrinking.{unit_less, conj_less}
use Rattle.sr_grammar.specs.Seen.{cond_seen}
use Rattle.sr_grammar.specs.Trees.{Not}
use Rattle.sr_sql.proofs.Trees.{unit_not, unit_paren, unit_test, reads_same}
use Rattle.sr_sql.proofs.conditions.+cond.Goals as goal

pub unit-returns-in-Some : goal.unit-returns-in-Some
unit-returns-in-Some t c =
    let came = rw c.in-Some.is at c.maybe_word.ensures in
    reads_same cond_seen (unit c.args.levels) (and_then (unit (c.args.levels - 1)) (λ c. nothing (Not c))) c.args.cursor.now c.maybe_word.new.self c.negated.new.cursor c.negated.result
    (unit_not c.args.levels c.args.cursor.now c.maybe_word.new.self c.in-Some.field-0 c.if-levels-eq0.false came.0 came.1) c.negated.ensures

pub unit-returns-then-is_mark : goal.unit-returns-then-is_mark
unit-returns-then-is_mark t c =
    let other = rw c.in_default.is at c.maybe_word.ensures in
    let paren : next_is (is Mark (codes "(")) c.args.cursor.now ≡ true = search rules in
    reads_same cond_seen (unit c.args.levels) (in_parens (cond_of (unit (c.args.levels - 1)))) c.args.cursor.now c.maybe_word.new.self c.enclosed.new.cursor c.enclosed.result
    (rw other.1 (unit_paren c.args.levels c.args.cursor.now c.if-levels-eq0.false other.0 paren)) c.enclosed.ensures

pub unit-returns : goal.unit-returns
unit-returns t c =
    let other = rw c.in_default.is at c.maybe_word.ensures in
    let paren : next_is (is Mark (codes "(")) c.args.cursor.now ≡ false = search rules in
    reads_same cond_seen (unit c.args.levels) comparison c.args.cursor.now c.maybe_word.new.self c.comparison.new.cursor c.comparison.result
    (rw other.1 (unit_test c.args.levels c.args.cursor.now c.if-levels-eq0.false other.0 paren)) c.comparison.ensures

pub conj-more-preserved : goal.conj-more-preserved
conj-more-preserved t c =
    let came = rw c.in-Some.is at c.maybe_word.ensures in
    let x = c.in_ok-unit.field-0 in
    let n = c.args.levels in
    let e : map cond_seen c.push-in-Some.new.self.items ≡ map cond_seen c.more.all.items ++ cond_seen x ∷ [] = rw c.in_ok-push-2.ensures.items (map_push cond_seen c.more.all.items x) in
    let two : length c.push-in-Some.new.self.items ≡ length c.more.all.items + 1 = rw c.in_ok-push-2.ensures.items (simp length-append) in
    let some = c.more.invariant.some in
    record {
      going = rw e (goes_on Key (codes "AND") (unit n) (unit_less n) (map cond_seen c.more.all.items) c.more.cursor c.maybe_word.new.self c.in-Some.field-0 (cond_seen x) c.unit-in-Some.new.cursor (list Key (codes "AND") (unit n) c.args.cursor.now) came.0 came.1 c.in_ok-unit.ensures c.more.invariant.going);
      some = omega (arith, two);
      first = λ h. absurd (omega (arith, two, some, h));
    }

pub conj-more-smaller : goal.conj-more-smaller
conj-more-smaller t c =
    let came = rw c.in-Some.is at c.maybe_word.ensures in
    let one = one_shrinks (place_of Key (codes "AND")) c.more.cursor c.in-Some.field-0 c.maybe_word.new.self came.1 in
    let two = unit_less c.args.levels c.maybe_word.new.self (cond_seen c.in_ok-unit.field-0) c.unit-in-Some.new.cursor c.in_ok-unit.ensures in
    omega (arith, one, two)

pub cond-more-preserved : goal.cond-more-preserved
cond-more-preserved t c =
    let came = rw c.in-Some.is at c.maybe_word.ensures in
    let x = c.in_ok-conj.field-0 in
    let n = c.args.levels in
    let e : map cond_seen c.push-in-Some.new.self.items ≡ map cond_seen c.more.all.items ++ cond_seen x ∷ [] = rw c.in_ok-push-2.ensures.items (map_push cond_seen c.more.all.items x) in
    let two : length c.push-in-Some.new.self.items ≡ length c.more.all.items + 1 = rw c.in_ok-push-2.ensures.items (simp length-append) in
    let some = c.more.invariant.some in
    record {
      going = rw e (goes_on Key (codes "OR") (conj_of (unit n)) (conj_less n) (map cond_seen c.more.all.items) c.more.cursor c.maybe_word.new.self c.in-Some.field-0 (cond_seen x) c.conj-in-Some.new.cursor (list Key (codes "OR") (conj_of (unit n)) c.args.cursor.now) came.0 came.1 c.in_ok-conj.ensures c.more.invariant.going);
      some = omega (arith, two);
      first = λ h. absurd (omega (arith, two, some, h));
    }

pub cond-more-smaller : goal.cond-more-smaller
cond-more-smaller t c =
    let came = rw c.in-Some.is at c.maybe_word.ensures in
    let one = one_shrinks (place_of Key (codes "OR")) c.more.cursor c.in-Some.field-0 c.maybe_word.new.self came.1 in
    let two = conj_less c.args.levels c.maybe_word.new.self (cond_seen c.in_ok-conj.field-0) c.conj-in-Some.new.cursor c.in_ok-conj.ensures in
    omega (arith, one, two)
