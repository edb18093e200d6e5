use Rattle.std.proofs.Common.{◌∙◌, ◌+◌, ◌≤◌, length, drop, sym, subst, refl, List, arith}
use Rattle.sr_cell.specs.Clients.{most_clients}
use Rattle.sr_lines.specs.Lines.{lines_of}
use Rattle.sr_reader.specs.declared.script.EventLine.{EventLine}
use Rattle.sr_reader.specs.LineSeen.{words_seen}
use Rattle.sr_reader.proofs.Stages.{line_here, none_here}
use Rattle.sr_setup.proofs.ClientWalks.{Walked, walked_start, walked_quiet, walked_event, walked_all}
use Rattle.sr_setup.proofs.client_script.client_events.Goals as goal
use Rattle.sr_setup.proofs.client_script.client_events.Goals.{in-Event+in_ok-event+in_ok-push, in_default}

pub loop-i-init : goal.loop-i-init
loop-i-init c script are inside =
    subst (λ (z : List EventLine). Walked c.args.id script c.args.schema.now 1 (lines_of script) z) (sym c.new-events.ensures) (walked_start c.args.id script c.args.schema.now inside)

pub loop-i-preserved : goal.loop-i-preserved
loop-i-preserved c script are inside =
    let i = c.loop-i.i in
    let lines = lines_of script in
    let items = c.as_slice-line-items.result.now in
    let so_far = c.loop-i.invariant script are inside in
    elim c.match-line.branch [
      | in-Event+in_ok-event+in_ok-push w ↦ (let here = line_here most_clients script c.args.lines.now items i _ _ c.as_slice-line-items.ensures are c.loop-i-test.true w.in-Event.is in
          let next = walked_event c.args.id script c.args.schema.now (i + 1) (drop i lines) (drop (i + 1) lines) here.0 c.loop-i.events so_far here.1 (words_seen w.in-Event.words) w.in_ok-event.event here.2 w.in_ok-event.ensures in
          subst (λ (z : List EventLine). Walked c.args.id script c.args.schema.now (i + 1 + 1) (drop (i + 1) lines) z) (sym (w.events-is ∙ w.in_ok-push.ensures.pushed)) next)
      | in_default w ↦ (let here = line_here most_clients script c.args.lines.now items i _ _ c.as_slice-line-items.ensures are c.loop-i-test.true refl in
          let next = walked_quiet c.args.id script c.args.schema.now (i + 1) (drop i lines) (drop (i + 1) lines) here.0 c.loop-i.events so_far here.1 _ here.2 w.in_default.not-Event in
          subst (λ (z : List EventLine). Walked c.args.id script c.args.schema.now (i + 1 + 1) (drop (i + 1) lines) z) (sym w.events-is) next)
    ]

pub returns : goal.returns
returns c = record {
  asked = λ script are inside.
      let i = c.loop-i.i in
      let past : length c.as_slice-line-items.result.now ≤ i = (let h = c.loop-i-test.false in omega (arith, h)) in
      walked_all c.args.id script c.args.schema.now (i + 1) (drop i (lines_of script)) c.loop-i.events (c.loop-i.invariant script are inside)
      (none_here most_clients script c.args.lines.now c.as_slice-line-items.result.now i c.as_slice-line-items.ensures are past);
}
