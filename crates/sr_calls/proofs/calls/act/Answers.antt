use Rattle.std.proofs.Common.{sym, ◌∙◌, ap, subst}
use Rattle.std.specs.Prelude.{IfOk}
use Rattle.sr_reader.specs.declared.script.Event.{Event}
use Rattle.sr_links.specs.Steps.{Deed, WasCut, Wrote}
use Rattle.sr_dial.specs.Known.{IsDeed}
use Rattle.sr_calls.specs.ClientEnds.{Did}
use Rattle.sr_calls.proofs.calls.act.Goals as goal

pub ask-requires-clause-asks : goal.ask-requires-clause-asks
ask-requires-clause-asks c =
    let asked = subst (λ (e : Event). IsDeed c.args.client.now.schema e c.requires.asks.0) c.in-Query.is c.requires.asks.1 in
    (asked.0, asked.1)

pub returns-in-Query-clause-made : goal.returns-in-Query-clause-made
returns-in-Query-clause-made c = λ past deed stands is.
    let old = c.args.client.now in
    let asked = subst (λ (e : Event). IsDeed old.schema e deed) c.in-Query.is is in
    subst (λ (d : Deed). IfOk c.ask.result (Did c.args.keeps old c.ask.new.client past d)) (sym asked.2) (c.ask.ensures.made past asked.0 stands asked.1)

pub returns-in-Write-clause-made : goal.returns-in-Write-clause-made
returns-in-Write-clause-made c = λ past deed stands is.
    let old = c.args.client.now in
    let asked = subst (λ (e : Event). IsDeed old.schema e deed) c.in-Write.is is in
    subst (λ (d : Deed). IfOk c.write.result (Did c.args.keeps old c.write.new.client past d)) (sym (asked ∙ ap Wrote (sym c.as_str.ensures))) (c.write.ensures.made c.args.keeps past stands)

pub returns-in-Evict-clause-made : goal.returns-in-Evict-clause-made
returns-in-Evict-clause-made c = λ past deed stands is.
    let old = c.args.client.now in
    let asked = subst (λ (e : Event). IsDeed old.schema e deed) c.in-Evict.is is in
    subst (λ (d : Deed). IfOk c.evict.result (Did c.args.keeps old c.evict.new.client past d)) (sym asked) (c.evict.ensures.made c.args.keeps past stands)

pub returns-in-Cut-clause-made : goal.returns-in-Cut-clause-made
returns-in-Cut-clause-made c = λ past deed stands is.
    let old = c.args.client.now in
    let asked = subst (λ (e : Event). IsDeed old.schema e deed) c.in-Cut.is is in
    subst (λ (d : Deed). Did c.args.keeps old c.cut.new.client past d c.quiet.result) (sym asked)
    (subst (Did c.args.keeps old c.cut.new.client past WasCut) (sym c.quiet.ensures) (c.in_ok-lines-in-Cut.ensures.made c.args.keeps past stands))

pub returns-in-Resume-clause-made : goal.returns-in-Resume-clause-made
returns-in-Resume-clause-made c = λ past deed stands is.
    let old = c.args.client.now in
    let asked = subst (λ (e : Event). IsDeed old.schema e deed) c.in-Resume.is is in
    subst (λ (d : Deed). IfOk c.resume.result (Did c.args.keeps old c.resume.new.client past d)) (sym asked) (c.resume.ensures.made c.args.keeps past stands)
