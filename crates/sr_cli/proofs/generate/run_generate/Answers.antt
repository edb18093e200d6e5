use Rattle.std.proofs.Common.{◌≡◌, ◌⊎◌, Err, inl, inr, refl, sym, ap, subst, arith, ◌∙◌}
use Rattle.sr_io.specs.Pieces.{WritesPrefix}
use Rattle.sr_io.specs.Told.{Writing}
use Rattle.sr_generate.specs.Script.{script}
use Rattle.sr_cli.proofs.GenerateEnds.{only-by, part-by, want-by}
use Rattle.sr_cli.proofs.LeavesLemmas.{done-keeps, keeps-writing, leaves-done, leaves-refused, reported-is}
use Rattle.sr_cli.proofs.generate.run_generate.Goals as goal

pub returns-in-Ok-clause-generates : goal.returns-in-Ok-clause-generates
returns-in-Ok-clause-generates g c = record {
  only = inl refl;
  made = λ whole is. c.in-Ok.ensures.made whole;
  made_in_part = c.in-Ok.ensures.made_in_part;
  summary = λ summary is. c.in-Ok.ensures.summary summary;
  summary_in_part = λ summary is. absurd (omega (arith, is));
  summary_in_want = λ summary is. absurd (omega (arith, is));
  writing_keeps_faults = inr (done-keeps _ _ c.in-Ok.ensures.quiet);
  steady = λ steady is. absurd (omega (arith, is));
  reading_stays = c.generate.ensures.stays.reading_stays;
  linking_stays = c.generate.ensures.stays.linking_stays;
}

pub returns-in-Ok-clause-leaves : goal.returns-in-Ok-clause-leaves
returns-in-Ok-clause-leaves g c = leaves-done _ g.H.Outside.held g.H.Outside.reading g.H.Outside.writing g.H.Outside.linking g.H.Outside.complaints g.H.Outside.IsSteady c.args.host.now c.generate.new.host c.in-Ok.ensures.counts (record { stays_steady = c.generate.ensures.stays.stays_steady; held_stays = c.generate.ensures.stays.held_stays; complaints_stay = c.generate.ensures.stays.complaints_stay })

pub returns-in-Err-clause-leaves : goal.returns-in-Err-clause-leaves
returns-in-Err-clause-leaves g c =
    leaves-refused _ g.H.Outside.held g.H.Outside.reading g.H.Outside.writing g.H.Outside.linking g.H.Outside.complaints g.H.Outside.IsSteady c.args.host.now c.generate.new.host c.report.new.host c.in-Err.refusal c.report.result
    c.report.ensures.reported
    c.in-Err.ensures.counts (record { stays_steady = c.generate.ensures.stays.stays_steady; held_stays = c.generate.ensures.stays.held_stays; complaints_stay = c.generate.ensures.stays.complaints_stay })
    c.report.ensures.stays

pub returns-in-Err-clause-generates : goal.returns-in-Err-clause-generates
returns-in-Err-clause-generates g c =
    let words = c.args.words in
    let before = g.H.Outside.writing c.args.host.now in
    let after = g.H.Outside.writing c.generate.new.host in
    let told = g.H.Outside.complaints c.generate.new.host in
    let last = g.H.Outside.complaints c.report.new.host in
    let reported = c.report.ensures.reported in
    let rep = reported-is c.in-Err.refusal c.report.result told last reported in
    let only = rep.only in
    let why = c.in-Err.ensures.refused in
    record {
      only = inr (only-by words before after c.in-Err.refusal c.report.result told last reported why);
      made = λ whole is. absurd (omega (arith, only, is));
      made_in_part = λ whole. subst (λ (w : Writing). WritesPrefix before.written w.written (script words.seed words.events)) (sym c.report.ensures.stays.writing_stays) (c.in-Err.ensures.made_in_part whole);
      summary = λ summary is. absurd (omega (arith, only, is));
      summary_in_part = λ summary is. rw (sym c.report.ensures.stays.writing_stays) at (part-by words before after c.in-Err.refusal c.report.result told last reported why summary is);
      summary_in_want = λ summary is. rw (sym c.report.ensures.stays.writing_stays) at (want-by words before after c.in-Err.refusal c.report.result told last reported why summary is);
      writing_keeps_faults = subst (λ (w : Writing). (c.report.result ≡ 4) ⊎ (w.faults ≡ before.faults)) (sym c.report.ensures.stays.writing_stays) (keeps-writing c.in-Err.refusal c.report.result told last reported _ c.in-Err.ensures.quiet);
      steady = λ steady is. c.in-Err.ensures.steady_writes steady (ap Err (rep.write is));
      reading_stays = c.report.ensures.stays.reading_stays ∙ c.generate.ensures.stays.reading_stays;
      linking_stays = c.report.ensures.stays.linking_stays ∙ c.generate.ensures.stays.linking_stays;
    }
