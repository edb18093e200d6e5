use Rattle.std.proofs.Common.{arith}
use Rattle.std.proofs.lemmas.Grind.{common_steps}
use Rattle.sr_cell.proofs.Digits.{power_le, value_more, digit_at}
use Rattle.sr_load.proofs.Digits.{few_digits, each_digit}
use Rattle.sr_load.proofs.fields.value_of.Goals as goal

pub overflow_mul-value : goal.overflow_mul-value
overflow_mul-value c = let few = few_digits c.args.digits.now c.requires in grind (arith, few, power_le 17 c.loop-digit.digit-index)

pub overflow_add-value : goal.overflow_add-value
overflow_add-value c = let few = few_digits c.args.digits.now c.requires in grind (arith, few, power_le 17 c.loop-digit.digit-index)

pub loop-digit-preserved : goal.loop-digit-preserved
loop-digit-preserved c =
    let digits = each_digit c.args.digits.now c.requires in
    let more = value_more c.args.digits.now c.loop-digit.digit-index digits c.loop-digit-test.true in
    record {
      value = grind (arith, more);
      short = grind (arith, common_steps, digits, digit_at c.args.digits.now c.loop-digit.digit-index);
    }

pub returns-clause-short : goal.returns-clause-short
returns-clause-short c = let few = few_digits c.args.digits.now c.requires in grind (arith, few, power_le 18 c.loop-digit.digit-index)
