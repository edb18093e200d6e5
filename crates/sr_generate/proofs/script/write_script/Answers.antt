use Rattle.std.proofs.Common.{◌+◌, ◌∙◌, arith}
use Rattle.sr_generate.specs.Script.{create_line, lines_from}
use Rattle.sr_generate.proofs.SoFar.{front_written, started, none_written, line_written, line_torn, ended}
use Rattle.sr_generate.proofs.script.write_script.Goals as goal

pub loop-number-init : goal.loop-number-init
loop-number-init g c = record {
  written = started _ _ c.args.seed c.args.events (rw c.as_bytes.ensures.value at c.in-Ok.ensures.whole);
  same_faults = c.in-Ok.ensures.ok_keeps_faults;
  stays_steady = c.in-Ok.ensures.stays_steady;
  held_stays = c.in-Ok.ensures.held_stays;
  reading_stays = c.in-Ok.ensures.reading_stays;
  linking_stays = c.in-Ok.ensures.linking_stays;
  complaints_stay = c.in-Ok.ensures.complaints_stay;
}

pub loop-number-preserved : goal.loop-number-preserved
loop-number-preserved g c =
    let before = c.loop-number.invariant in
    let did = c.in-Ok-write_all.ensures in
    record {
      written = line_written _ _ _ _ c.as_bytes-in-Ok-line_at.result.now (200 + c.args.events) c.loop-number.number c.loop-number.draws.state c.line_at.new.draws.state (omega arith) before.written
          (c.as_bytes-in-Ok-line_at.ensures.value ∙ c.in-Ok-line_at.ensures.line) c.line_at.ensures.state did.whole;
      same_faults = did.ok_keeps_faults ∙ before.same_faults;
      stays_steady = λ s. did.stays_steady (before.stays_steady s);
      held_stays = did.held_stays ∙ before.held_stays;
      reading_stays = did.reading_stays ∙ before.reading_stays;
      linking_stays = did.linking_stays ∙ before.linking_stays;
      complaints_stay = did.complaints_stay ∙ before.complaints_stay;
    }

pub returns-in-Err-clause-prefix : goal.returns-in-Err-clause-prefix
returns-in-Err-clause-prefix g c = front_written _ _ create_line (lines_from (200 + c.args.events) 0 c.args.seed) (rw c.as_bytes.ensures.value at c.in-Err.ensures.prefix)

pub returns-in-Err-line_at-clause-prefix : goal.returns-in-Err-line_at-clause-prefix
returns-in-Err-line_at-clause-prefix g c = none_written _ _ _ _ c.loop-number.invariant.written

pub returns-in-Err-write_all-clause-prefix : goal.returns-in-Err-write_all-clause-prefix
returns-in-Err-write_all-clause-prefix g c =
    line_torn _ _ _ _ c.as_bytes-in-Ok-line_at.result.now (200 + c.args.events) c.loop-number.number c.loop-number.draws.state (omega arith) c.loop-number.invariant.written
    (c.as_bytes-in-Ok-line_at.ensures.value ∙ c.in-Ok-line_at.ensures.line) c.in-Err-write_all.ensures.prefix

pub returns-clause-whole : goal.returns-clause-whole
returns-clause-whole g c = ended _ _ _ (200 + c.args.events) c.loop-number.number c.loop-number.draws.state (omega arith) c.loop-number.invariant.written

pub returns-clause-prefix : goal.returns-clause-prefix
returns-clause-prefix g c = none_written _ _ _ _ c.loop-number.invariant.written
