use Rattle.std.proofs.Common.{◌∙◌, map, ap}
use Rattle.sr_store.specs.Answered.{held_of}
use Rattle.sr_store.specs.Making.{without_rows}
use Rattle.sr_store.proofs.Answering.{parted_are, still_settled}
use Rattle.sr_store.proofs.answer.answer_of.Goals as goal

pub outcome_of-requires-clause-parted : goal.outcome_of-requires-clause-parted
outcome_of-requires-clause-parted c =
    let flags = c.in_ok-both.ensures.parted in
    let plain = c.in_ok-both.both.plain in
    let still = still_settled c.args.schema.now c.args.old plain c.args.settled flags.0 c.requires.settled flags.2 c.in_ok-both.ensures.all in
    let p = parted_are c.args.schema.now c.args.number c.args.parts.now c.args.arrivals c.args.old plain c.in_ok-both.both.flagged
    c.requires.each c.requires.order still c.requires.apart c.requires.told flags in
    (c.args.old, p)

pub outcome_of-requires-clause-copies : goal.outcome_of-requires-clause-copies
outcome_of-requires-clause-copies c = c.in_ok-copies.ensures ∙ ap (map without_rows) c.as_slice-2.ensures

pub outcome_of-requires-clause-marks : goal.outcome_of-requires-clause-marks
outcome_of-requires-clause-marks c = c.in_ok-marks.ensures ∙ ap (map held_of) c.as_slice.ensures

pub returns : goal.returns
returns c =
    let flags = c.in_ok-both.ensures.parted in
    let plain = c.in_ok-both.both.plain in
    let still = still_settled c.args.schema.now c.args.old plain c.args.settled flags.0 c.requires.settled flags.2 c.in_ok-both.ensures.all in
    c.outcome_of.ensures c.args.old (parted_are c.args.schema.now c.args.number c.args.parts.now c.args.arrivals c.args.old plain c.in_ok-both.both.flagged
    c.requires.each c.requires.order still c.requires.apart c.requires.told flags)
