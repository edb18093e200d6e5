use Rattle.std.proofs.Common.{◌≡◌, Bool, true, false, refl, ◌∙◌, ap}
use Rattle.std.specs.Prelude.{not, ◌&&◌}
use Rattle.sr_cell.specs.declared.cell.Cell.{Cell}
use Rattle.sr_cell.specs.Cells.{is_null}
use Rattle.sr_model.specs.Conditions.{Test, passes}
use Rattle.sr_query.specs.Meant.{test_meant}
use Rattle.sr_condition.specs.Ranges.{says_test}
use Rattle.sr_condition.proofs.Tested.{contrary-is}
use Rattle.sr_condition.proofs.passes.says_test.Goals as goal

when-true : (plain : Bool) (t : Test) (v : Cell) → plain ≡ true → passes t v ≡ says_test plain t v
when-true true t v e = refl
when-true false t v e = absurd (cc)

when-false : (plain : Bool) (t : Test) (v : Cell) → plain ≡ false → (not (is_null v) && not (passes t v)) ≡ says_test plain t v
when-false true t v e = absurd (cc)
when-false false t v e = contrary-is t v

pub returns-then-plain : goal.returns-then-plain
returns-then-plain c = c.is_passed-passed.ensures ∙ when-true c.args.plain (test_meant c.args.test.now) c.args.cell.now c.if-plain.true

pub returns-else-plain : goal.returns-else-plain
returns-else-plain c =
    c.is_other.ensures ∙ (ap (λ b. not (is_null c.args.cell.now) && not b) c.is_passed-passed.ensures ∙ when-false c.args.plain (test_meant c.args.test.now) c.args.cell.now c.if-plain.false)
