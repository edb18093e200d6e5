use Rattle.std.proofs.Common.{List, map, sym, ap, subst, ◌∙◌, arith}
use Rattle.std.specs.Prelude.{IsTrue, filter}
use Rattle.sr_query.specs.Binding.{Bound, table_of_part, list_conds}
use Rattle.sr_query.specs.Bound.{output_of}
use Rattle.sr_query.specs.Meant.{meant}
use Rattle.sr_condition.specs.Suits.{all_suit}
use Rattle.sr_bind.specs.OneTable.{is_on}
use Rattle.sr_bind.proofs.Narrowing.{goes_on, one_made, one_not_made}
use Rattle.sr_bind.proofs.Passing.{passed}
use Rattle.sr_bind.proofs.Suiting.{own_suit}
use Rattle.sr_bind.proofs.parts.parts.Goals as goal

pub part_with-requires-clause-suits : goal.part_with-requires-clause-suits
part_with-requires-clause-suits c =
    let schema = c.args.schema.now in
    let tables = c.args.tables.now in
    let bs = map meant c.args.conjuncts in
    let i = c.loop-part.part in
    let own = c.in_ok-halves.ensures.own ∙ c.loop-part.invariant.left i (omega arith) in
    subst (λ (cs : List Bound). IsTrue (all_suit (table_of_part schema tables i) (list_conds cs))) (sym own) (own_suit schema tables i bs _ c.requires.suits c.requires.apart)

pub returns-in-Err : goal.returns-in-Err
returns-in-Err c =
    let schema = c.args.schema.now in
    let i = c.loop-part.part in
    let own = c.in_ok-halves.ensures.own ∙ c.loop-part.invariant.left i (omega arith) in
    let going = goes_on schema c.args.tables.now (map output_of c.args.named.now) (map meant c.args.conjuncts) _ c.loop-part.parts _ i c.loop-part-test.true own c.loop-part.invariant.going in
    one_not_made schema c.loop-part.parts _ _ _ c.in-Err.no c.in-Err.ensures going

pub loop-part-preserved : goal.loop-part-preserved
loop-part-preserved c =
    let schema = c.args.schema.now in
    let i = c.loop-part.part in
    let own = c.in_ok-halves.ensures.own ∙ c.loop-part.invariant.left i (omega arith) in
    let going = goes_on schema c.args.tables.now (map output_of c.args.named.now) (map meant c.args.conjuncts) _ c.loop-part.parts _ i c.loop-part-test.true own c.loop-part.invariant.going in
    record {
      going = one_made schema c.loop-part.parts _ _ _ c.in-Ok.part _ c.in_ok-push-in-Ok.ensures.pushed c.in-Ok.ensures.0 c.in-Ok.ensures.1 going;
      left = λ k less.
          ap (filter (is_on k)) c.in_ok-halves.ensures.others ∙ passed i k (map meant c.loop-part.left) (omega arith) ∙ c.loop-part.invariant.left k (omega arith);
    }
