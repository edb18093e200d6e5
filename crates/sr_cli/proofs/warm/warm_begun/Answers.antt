use Rattle.std.proofs.Common.{inr, refl, subst}
use Rattle.std.proofs.lemmas.Result.{on_ok_weaker, IfErr-weaker}
use Rattle.std.specs.Prelude.{IfErr, string_bytes}
use Rattle.sr_io.specs.Told.{Linking}
use Rattle.sr_dial.specs.declared.ending.Ending.TheVariants.{Whole}
use Rattle.sr_cli.specs.Image.{WarmStops, WritesOff, WritesPart}
use Rattle.sr_cli.proofs.ImageLemmas.{StopsThere, past, start-fresh, start-room, start-schema, start-stands, warms-of, warms-only, warms-stopped}
use Rattle.sr_cli.proofs.warm.warm_begun.Goals as goal

pub warm_on-requires-clause-schema : goal.warm_on-requires-clause-schema
warm_on-requires-clause-schema g c = let b = c.requires.begun in start-schema c.args.words.now c.args.schema.now c.requires.asks.0 b.0 _ c.args.begun.end b.1

pub warm_on-requires-clause-room : goal.warm_on-requires-clause-room
warm_on-requires-clause-room g c = let b = c.requires.begun in start-room c.args.words.now c.args.schema.now c.requires.asks.0 b.0 _ c.args.begun.end b.1 (g.P.Plans.depth c.args.plans.now) c.requires.few

pub warm_on-requires-clause-fresh : goal.warm_on-requires-clause-fresh
warm_on-requires-clause-fresh g c = let b = c.requires.begun in start-fresh c.args.words.now c.args.schema.now c.requires.asks.0 b.0 _ c.args.begun.end b.1

pub returns-in-Ok-clause-whole : goal.returns-in-Ok-clause-whole
returns-in-Ok-clause-whole g c = λ bytes ahead b follows.
    let words = c.args.words.now in
    let schema = c.args.schema.now in
    let end = c.args.begun.end in
    let steady = g.H.Outside.IsSteady c.args.host.now in
    let later = g.H.Outside.IsSteady c.write_bytes.new.sink in
    let stays = c.write_bytes.ensures.stays.stays_steady in
    let old = g.H.Outside.linking c.args.host.now in
    let new = g.H.Outside.linking c.warm_on.new.host in
    let before = g.H.Outside.writing c.args.host.now in
    let mid = g.H.Outside.writing c.write_bytes.new.sink in
    let after = g.H.Outside.writing c.warm_on.new.host in
    let ran = c.warm_on.ensures.whole (past words schema ahead bytes _ end b) ahead (start-stands words schema ahead bytes _ end b) refl refl follows in
    on_ok_weaker c.warm_on.result
    (λ ran. warms-of words schema ahead bytes _ end b steady later stays old new before mid after c.warm_on.new.end (rw c.as_bytes.ensures.value at c.in-Ok.ensures.wrote) Whole ran)
    (rw c.write_bytes.ensures.linking_stays at ran)

pub returns-in-Ok-clause-stopped : goal.returns-in-Ok-clause-stopped
returns-in-Ok-clause-stopped g c = λ bytes ahead b follows.
    let words = c.args.words.now in
    let schema = c.args.schema.now in
    let end = c.args.begun.end in
    let steady = g.H.Outside.IsSteady c.args.host.now in
    let later = g.H.Outside.IsSteady c.write_bytes.new.sink in
    let stays = c.write_bytes.ensures.stays.stays_steady in
    let old = g.H.Outside.linking c.args.host.now in
    let new = g.H.Outside.linking c.warm_on.new.host in
    let before = g.H.Outside.writing c.args.host.now in
    let mid = g.H.Outside.writing c.write_bytes.new.sink in
    let after = g.H.Outside.writing c.warm_on.new.host in
    let text = string_bytes c.args.begun.text in
    let left = c.warm_on.new.end in
    let stopped = c.warm_on.ensures.stopped (past words schema ahead bytes text end b) ahead (start-stands words schema ahead bytes text end b) refl refl follows in
    IfErr-weaker c.warm_on.result (StopsThere words schema ahead bytes text end b steady later stays old new before mid after left) (WarmStops steady words schema ahead bytes old new before after)
    (warms-stopped words schema ahead bytes text end b steady later stays old new before mid after left (rw c.as_bytes.ensures.value at c.in-Ok.ensures.wrote))
    (subst (λ (l : Linking). IfErr c.warm_on.result (StopsThere words schema ahead bytes text end b steady later stays l new before mid after left)) c.write_bytes.ensures.linking_stays stopped)

pub returns-in-Err-Refused-clause-stopped : goal.returns-in-Err-Refused-clause-stopped
returns-in-Err-Refused-clause-stopped g c = λ bytes ahead b follows.
    inr (warms-only c.args.words.now c.args.schema.now ahead bytes _ c.args.begun.end b WritesPart (g.H.Outside.linking c.args.host.now) (g.H.Outside.linking c.write_bytes.new.sink)
    (g.H.Outside.writing c.args.host.now) (g.H.Outside.writing c.write_bytes.new.sink) c.write_bytes.ensures.linking_stays (rw (c.in-Err-Refused.field-0-is, c.as_bytes.ensures.value) at c.in-Err-Refused.ensures.wrote))

pub returns-clause-stopped : goal.returns-clause-stopped
returns-clause-stopped g c = λ bytes ahead b follows.
    inr (inr (warms-only c.args.words.now c.args.schema.now ahead bytes _ c.args.begun.end b WritesOff (g.H.Outside.linking c.args.host.now) (g.H.Outside.linking c.write_bytes.new.sink)
    (g.H.Outside.writing c.args.host.now) (g.H.Outside.writing c.write_bytes.new.sink) c.write_bytes.ensures.linking_stays (rw (c.in-Err-NoMemory.field-0-is, c.as_bytes.ensures.value) at c.in-Err-NoMemory.ensures.wrote)))

pub returns-in-Ok-clause-steady_writes : goal.returns-in-Ok-clause-steady_writes
returns-in-Ok-clause-steady_writes g c = λ steady. c.warm_on.ensures.steady_writes (c.write_bytes.ensures.stays.stays_steady steady)

pub returns-in-Err-Refused-clause-steady_writes : goal.returns-in-Err-Refused-clause-steady_writes
returns-in-Err-Refused-clause-steady_writes g c = λ steady failed. (rw c.in-Err-Refused.field-0-is at c.in-Err-Refused.ensures.steady_writes) steady refl
