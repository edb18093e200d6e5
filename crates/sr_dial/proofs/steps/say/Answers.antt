use Rattle.std.proofs.Common.{◌≡◌, true, refl, subst, rules}
use Rattle.std.specs.Prelude.{flat_map}
use Rattle.sr_script.specs.TraceText.{line_text}
use Rattle.sr_dial.specs.Carrying.{SaysInPart, spoken}
use Rattle.sr_talk.proofs.SomeLemmas.{none-written}
use Rattle.sr_talk.proofs.MoveLemmas.{so-in-err}
use Rattle.sr_dial.proofs.Results.{on-err}
use Rattle.sr_dial.proofs.steps.say.Goals as goal

pub returns-in_err-text-clause-broken_off : goal.returns-in_err-text-clause-broken_off
returns-in_err-text-clause-broken_off g c =
    so-in-err c.from_residual.result (none-written (g.K.Outside.writing c.args.sink.now).written (spoken c.args.says (flat_map (line_text c.args.schema.now c.args.number) c.args.lines.now)), refl)

pub returns-clause-broken_off : goal.returns-clause-broken_off
returns-clause-broken_off g c =
    let says : true ≡ c.args.says = search rules in
    let text : c.as_str.result.now ≡ flat_map (line_text c.args.schema.now c.args.number) c.args.lines.now = search rules in
    on-err _ _ c.write_text.result (λ part. subst (λ b. SaysInPart b (g.K.Outside.writing c.args.sink.now) (g.K.Outside.writing c.write_text.new.sink) (flat_map (line_text c.args.schema.now c.args.number) c.args.lines.now)) says
    (subst (λ bytes. SaysInPart true (g.K.Outside.writing c.args.sink.now) (g.K.Outside.writing c.write_text.new.sink) bytes) text part)) c.write_text.ensures.broken_off
