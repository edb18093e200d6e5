use Rattle.std.proofs.Common.{◌≡◌, ◌⊎◌, Err, inl, inr, refl, sym, ap, subst, arith, ◌∙◌}
use Rattle.sr_io.specs.Told.{Reading, Writing}
use Rattle.sr_cli.specs.Files.{IsTooLong}
use Rattle.sr_cli.proofs.ExplainFits.{fits_held, fits_done}
use Rattle.sr_cli.proofs.FitsLemmas.{known_status}
use Rattle.sr_cli.proofs.LeavesLemmas.{done-keeps, keeps-writing, leaves-done, leaves-refused, named-nothing, reported-is}
use Rattle.sr_cli.proofs.ReplayEnds.{explain-never-links, explain-part-by, explain-long-by, explain-outside-by, explain-line-by, explain-refused-by, explain-named-by, explain-want-by}
use Rattle.sr_cli.proofs.explain.run_explain.Goals as goal

pub returns-in-Ok-clause-explains : goal.returns-in-Ok-clause-explains
returns-in-Ok-clause-explains g c = record {
  only = inl refl;
  explained = λ is. c.in-Ok.ensures.explained;
  part_after_fault = λ is. absurd (omega (arith, is));
  part_in_want = λ is. absurd (omega (arith, is));
  too_long = λ is. absurd (omega (arith, is));
  line = λ is. absurd (omega (arith, is));
  refused = λ is. absurd (omega (arith, is));
  writing_keeps_faults = inr (done-keeps _ _ c.in-Ok.ensures.quiet);
  steady = λ steady script held. fits_done _ c.args.words.now script _ _ held c.in-Ok.ensures.explained;
  linking_stays = c.explain_file.ensures.linking_stays;
}

pub returns-in-Ok-clause-leaves : goal.returns-in-Ok-clause-leaves
returns-in-Ok-clause-leaves g c = leaves-done _ g.H.Outside.held g.H.Outside.reading g.H.Outside.writing g.H.Outside.linking g.H.Outside.complaints g.H.Outside.IsSteady c.args.host.now c.explain_file.new.host c.in-Ok.ensures.counts c.explain_file.ensures.stays

pub returns-in-Err-clause-leaves : goal.returns-in-Err-clause-leaves
returns-in-Err-clause-leaves g c =
    leaves-refused _ g.H.Outside.held g.H.Outside.reading g.H.Outside.writing g.H.Outside.linking g.H.Outside.complaints g.H.Outside.IsSteady c.args.host.now c.explain_file.new.host c.report.new.host c.in-Err.refusal c.report.result
    c.report.ensures.reported
    c.in-Err.ensures.counts c.explain_file.ensures.stays
    c.report.ensures.stays

pub returns-in-Err-clause-explains : goal.returns-in-Err-clause-explains
returns-in-Err-clause-explains g c =
    let held = g.H.Outside.held c.args.host.now in
    let words = c.args.words.now in
    let left = (g.H.Outside.reading c.explain_file.new.host).left in
    let before = g.H.Outside.writing c.args.host.now in
    let after = g.H.Outside.writing c.explain_file.new.host in
    let first = g.H.Outside.complaints c.args.host.now in
    let told = g.H.Outside.complaints c.explain_file.new.host in
    let last = g.H.Outside.complaints c.report.new.host in
    let silent = c.explain_file.ensures.stays.complaints_stay in
    let reported = c.report.ensures.reported in
    let rep = reported-is c.in-Err.refusal c.report.result told last reported in
    let only = rep.only in
    let why = c.in-Err.ensures.refused in
    let fails = known_status c.report.result rep.only (explain-never-links held words left before after c.in-Err.refusal c.report.result first told last silent reported why) in
    record {
      only = inr fails;
      explained = λ is. absurd (omega (arith, only, is));
      part_after_fault = λ is. rw (sym c.report.ensures.stays.writing_stays) at (explain-part-by held words left before after c.in-Err.refusal c.report.result first told last silent reported why is);
      part_in_want = λ is. rw (sym c.report.ensures.stays.writing_stays) at (explain-want-by held words left before after c.in-Err.refusal c.report.result first told last silent reported why
          (λ named. (named-nothing _ g.H.Outside.held g.H.Outside.reading g.H.Outside.writing g.H.Outside.linking g.H.Outside.complaints g.H.Outside.IsSteady c.args.host.now c.explain_file.new.host c.report.new.host c.in-Err.refusal c.report.result reported c.in-Err.ensures.counts named).writing_stays) is);
      too_long = λ is. subst (λ left. IsTooLong (held words.script) left) (ap (λ (r : Reading). r.left) (sym c.report.ensures.stays.reading_stays))
          (explain-long-by held words left before after c.in-Err.refusal c.report.result first told last silent reported why is);
      line = explain-line-by held words left before after c.in-Err.refusal c.report.result first told last silent reported why;
      refused = explain-named-by held words left before after c.in-Err.refusal c.report.result first told last silent reported why;
      writing_keeps_faults = subst (λ (w : Writing). (c.report.result ≡ 4) ⊎ (w.faults ≡ before.faults)) (sym c.report.ensures.stays.writing_stays) (keeps-writing c.in-Err.refusal c.report.result told last reported _ c.in-Err.ensures.quiet);
      steady = λ steady script there.
          fits_held held left words script c.report.result there fails
          (λ is. (let none = c.in-Err.ensures.steady_reads steady (ap Err (rep.read is)) in cc))
          (λ is. c.in-Err.ensures.steady_writes steady (ap Err (rep.write is)))
          (explain-long-by held words left before after c.in-Err.refusal c.report.result first told last silent reported why)
          (explain-outside-by held words left before after c.in-Err.refusal c.report.result first told last silent reported why)
          (explain-refused-by held words left before after c.in-Err.refusal c.report.result first told last silent reported why);
      linking_stays = c.report.ensures.stays.linking_stays ∙ c.explain_file.ensures.linking_stays;
    }
