use Rattle.std.proofs.Common.{arith}
use Rattle.std.specs.String.{string_bytes}
use Rattle.sr_world.proofs.ReplayLemmas.{ran-event, line-event}
use Rattle.sr_world.proofs.replay.event_text.Goals as goal

pub step-requires-clause-means : goal.step-requires-clause-means
step-requires-clause-means c = line-event _ c.args.line c.requires.means

pub returns-clause-ran : goal.returns-clause-ran
returns-clause-ran c = λ event is.
    let did = c.in_ok-lines.ensures in
    let told = rw (c.as_slice.ensures, c.schema-schema.ensures, did.stays.schema, c.as_slice-2.ensures) at c.lines_text.ensures.text in
    let fit = rw (c.as_slice.ensures, c.schema-schema.ensures, did.stays.schema, c.as_slice-2.ensures) at c.lines_text.ensures.numbers in
    ran-event c.args.world.now.eager string_bytes c.lines_text.result c.args.world.now.server.tables.schema _ c.args.line event c.args.world.now _ _ is
    (λ meaning said s rep. did.steps s meaning rep said) (omega arith) fit told
