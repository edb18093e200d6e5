use Rattle.std.proofs.Common.{◌∙◌}
use Rattle.std.proofs.lemmas.Result.{err_from_is_err_and}
use Rattle.sr_bytes.proofs.Skipping.{skips_one, none_more, all_read}
use Rattle.sr_bytes.proofs.item.skip_items.Goals as goal

pub returns-in_err-read : goal.returns-in_err-read
returns-in_err-read g c =
    let p = err_from_is_err_and c.from_residual.result c.from_residual.ensures.1 in
    rw p.1 (none_more g.T.Item.reader c.args.count c.loop.counter c.args.bytes.now c.loop.bytes c.read.new.bytes c.loop-test.true c.in_err-read.ensures c.loop.invariant)

pub loop-preserved : goal.loop-preserved
loop-preserved g c =
    skips_one g.T.Item.reader c.args.count c.loop.counter c.loop.bytes c.read.new.bytes (g.T.Item.seen c.in_ok-read.field-0) c.loop-test.true c.in_ok-read.ensures ∙ c.loop.invariant

pub returns : goal.returns
returns g c = all_read g.T.Item.reader c.args.count c.loop.counter c.args.bytes.now c.loop.bytes c.loop-test.false c.loop.invariant
