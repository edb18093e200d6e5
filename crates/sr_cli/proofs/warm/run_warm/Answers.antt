use Rattle.std.proofs.Common.{Err, inl, inr, ap, ◌∙◌}
use Rattle.sr_cli.specs.declared.stop.Stop.TheVariants.{Refused}
use Rattle.sr_cli.specs.declared.warm.WarmStop.TheVariants.{Stopped}
use Rattle.sr_cli.proofs.ImageEnds.{leaves-no-image, warms-bad, warms-limit, warms-no-image, warms-refused, warms-spoiled, warms-whole}
use Rattle.sr_cli.proofs.LeavesLemmas.{leaves-by-frames, leaves-done, leaves-refused, spoiled-status}
use Rattle.sr_cli.proofs.warm.run_warm.Goals as goal

pub returns-in-Ok-clause-warms : goal.returns-in-Ok-clause-warms
returns-in-Ok-clause-warms g c = warms-whole _ g.H.Outside.held g.H.Outside.reading g.H.Outside.writing g.H.Outside.linking g.H.Outside.complaints g.H.Outside.IsSteady c.args.words.now c.args.host.now c.warm_files.new.host c.warm_files.ensures.stays.complaints_stay c.in-Ok.ensures.whole

pub returns-in-Ok-clause-leaves : goal.returns-in-Ok-clause-leaves
returns-in-Ok-clause-leaves g c = leaves-done _ g.H.Outside.held g.H.Outside.reading g.H.Outside.writing g.H.Outside.linking g.H.Outside.complaints g.H.Outside.IsSteady c.args.host.now c.warm_files.new.host c.in-Ok.ensures.counts c.warm_files.ensures.stays

pub returns-in-Err-Stopped-Refused-clause-warms : goal.returns-in-Err-Stopped-Refused-clause-warms
returns-in-Err-Stopped-Refused-clause-warms g c =
    let is = c.in-Err-Stopped-Refused.field-0-is ∙ ap Stopped c.in-Err-Stopped-Refused.field-0-0-is in
    let refused = c.in-Err-Stopped-Refused.ensures in
    warms-refused _ g.H.Outside.held g.H.Outside.reading g.H.Outside.writing g.H.Outside.linking g.H.Outside.complaints g.H.Outside.IsSteady c.args.words.now c.args.host.now c.warm_files.new.host c.report.new.host
    c.warm_files.ensures.stays.complaints_stay c.report.ensures.stays c.in-Err-Stopped-Refused.refusal c.report.result c.report.ensures.reported (rw is at refused.counts) (rw is at refused.stopped)
    (λ steady named. refused.steady_reads steady (ap Err (is ∙ ap (λ x. Stopped (Refused x)) named)))
    (λ steady named. refused.steady_writes steady (ap Err (is ∙ ap (λ x. Stopped (Refused x)) named)))

pub returns-in-Err-Stopped-Refused-clause-leaves : goal.returns-in-Err-Stopped-Refused-clause-leaves
returns-in-Err-Stopped-Refused-clause-leaves g c =
    leaves-refused _ g.H.Outside.held g.H.Outside.reading g.H.Outside.writing g.H.Outside.linking g.H.Outside.complaints g.H.Outside.IsSteady c.args.host.now c.warm_files.new.host c.report.new.host c.in-Err-Stopped-Refused.refusal c.report.result c.report.ensures.reported
    (rw (c.in-Err-Stopped-Refused.field-0-is ∙ ap Stopped c.in-Err-Stopped-Refused.field-0-0-is) at c.in-Err-Stopped-Refused.ensures.counts) c.warm_files.ensures.stays c.report.ensures.stays

pub returns-in-Err-Stopped-Spoiled-clause-warms : goal.returns-in-Err-Stopped-Spoiled-clause-warms
returns-in-Err-Stopped-Spoiled-clause-warms g c =
    warms-spoiled _ g.H.Outside.held g.H.Outside.reading g.H.Outside.writing g.H.Outside.linking g.H.Outside.complaints g.H.Outside.IsSteady c.args.words.now c.args.host.now c.warm_files.new.host c.report_spoiled.new.host
    c.warm_files.ensures.stays.complaints_stay c.report_spoiled.ensures.stays c.report_spoiled.result c.in-Err-Stopped-Spoiled.fault c.report_spoiled.ensures.named (rw (c.in-Err-Stopped-Spoiled.field-0-is ∙ ap Stopped c.in-Err-Stopped-Spoiled.field-0-0-is) at c.in-Err-Stopped-Spoiled.ensures.stopped)

pub returns-in-Err-Stopped-Spoiled-clause-leaves : goal.returns-in-Err-Stopped-Spoiled-clause-leaves
returns-in-Err-Stopped-Spoiled-clause-leaves g c =
    let named = spoiled-status _ c.report_spoiled.result _ _ c.report_spoiled.ensures.named in
    leaves-by-frames _ g.H.Outside.held g.H.Outside.reading g.H.Outside.writing g.H.Outside.linking g.H.Outside.complaints g.H.Outside.IsSteady c.args.host.now c.warm_files.new.host c.report_spoiled.new.host c.report_spoiled.result named.0 named.1
    (rw (c.in-Err-Stopped-Spoiled.field-0-is ∙ ap Stopped c.in-Err-Stopped-Spoiled.field-0-0-is) at c.in-Err-Stopped-Spoiled.ensures.counts) c.warm_files.ensures.stays c.report_spoiled.ensures.stays

pub returns-in-Err-Stopped-Bad-clause-warms : goal.returns-in-Err-Stopped-Bad-clause-warms
returns-in-Err-Stopped-Bad-clause-warms g c =
    warms-bad _ g.H.Outside.held g.H.Outside.reading g.H.Outside.writing g.H.Outside.linking g.H.Outside.complaints g.H.Outside.IsSteady c.args.words.now c.args.host.now c.warm_files.new.host c.report_bad.new.host
    c.warm_files.ensures.stays.complaints_stay c.report_bad.ensures.stays c.report_bad.result c.in-Err-Stopped-Bad.why c.report_bad.ensures.status c.report_bad.ensures.named (rw (c.in-Err-Stopped-Bad.field-0-is ∙ ap Stopped c.in-Err-Stopped-Bad.field-0-0-is) at c.in-Err-Stopped-Bad.ensures.stopped)

pub returns-in-Err-Stopped-Bad-clause-leaves : goal.returns-in-Err-Stopped-Bad-clause-leaves
returns-in-Err-Stopped-Bad-clause-leaves g c =
    leaves-by-frames _ g.H.Outside.held g.H.Outside.reading g.H.Outside.writing g.H.Outside.linking g.H.Outside.complaints g.H.Outside.IsSteady c.args.host.now c.warm_files.new.host c.report_bad.new.host c.report_bad.result (inl c.report_bad.ensures.status) (rw c.report_bad.ensures.status tt)
    (rw (c.in-Err-Stopped-Bad.field-0-is ∙ ap Stopped c.in-Err-Stopped-Bad.field-0-0-is) at c.in-Err-Stopped-Bad.ensures.counts) c.warm_files.ensures.stays c.report_bad.ensures.stays

pub returns-in-Err-Stopped-Limit-clause-warms : goal.returns-in-Err-Stopped-Limit-clause-warms
returns-in-Err-Stopped-Limit-clause-warms g c =
    warms-limit _ g.H.Outside.held g.H.Outside.reading g.H.Outside.writing g.H.Outside.linking g.H.Outside.complaints g.H.Outside.IsSteady c.args.words.now c.args.host.now c.warm_files.new.host c.report_limit.new.host
    c.warm_files.ensures.stays.complaints_stay c.report_limit.ensures.stays c.report_limit.result c.report_limit.ensures.said.0 (rw (c.in-Err-Stopped-Limit.field-0-is ∙ ap Stopped c.in-Err-Stopped-Limit.field-0-0-is) at c.in-Err-Stopped-Limit.ensures.stopped)

pub returns-in-Err-Stopped-Limit-clause-leaves : goal.returns-in-Err-Stopped-Limit-clause-leaves
returns-in-Err-Stopped-Limit-clause-leaves g c =
    let said = c.report_limit.ensures.said in
    leaves-by-frames _ g.H.Outside.held g.H.Outside.reading g.H.Outside.writing g.H.Outside.linking g.H.Outside.complaints g.H.Outside.IsSteady c.args.host.now c.warm_files.new.host c.report_limit.new.host c.report_limit.result (inr (inr said.0)) (rw said.0 said.1)
    (rw (c.in-Err-Stopped-Limit.field-0-is ∙ ap Stopped c.in-Err-Stopped-Limit.field-0-0-is) at c.in-Err-Stopped-Limit.ensures.counts) c.warm_files.ensures.stays c.report_limit.ensures.stays

pub returns-in-Err-NoImage-clause-warms : goal.returns-in-Err-NoImage-clause-warms
returns-in-Err-NoImage-clause-warms g c =
    warms-no-image _ g.H.Outside.held g.H.Outside.reading g.H.Outside.writing g.H.Outside.linking g.H.Outside.complaints g.H.Outside.IsSteady c.args.words.now c.args.host.now c.warm_files.new.host c.report_image.new.host
    c.warm_files.ensures.stays.complaints_stay c.report_image.ensures.stays c.report_image.result c.in-Err-NoImage.fault c.report_image.ensures.named (rw c.in-Err-NoImage.field-0-is at c.in-Err-NoImage.ensures.stopped)

pub returns-in-Err-NoImage-clause-leaves : goal.returns-in-Err-NoImage-clause-leaves
returns-in-Err-NoImage-clause-leaves g c =
    leaves-no-image _ g.H.Outside.held g.H.Outside.reading g.H.Outside.writing g.H.Outside.linking g.H.Outside.complaints g.H.Outside.IsSteady c.args.host.now c.warm_files.new.host c.report_image.new.host c.report_image.result _ c.report_image.ensures.named
    (rw c.in-Err-NoImage.field-0-is at c.in-Err-NoImage.ensures.counts) c.warm_files.ensures.stays c.report_image.ensures.stays
