use Rattle.std.proofs.Common.{◌≡◌, ◌⊎◌, Err, inl, inr, refl, sym, ap, subst, arith, ◌∙◌}
use Rattle.sr_io.specs.Told.{Reading, Writing}
use Rattle.sr_cli.specs.Files.{SomeTooLong}
use Rattle.sr_cli.specs.Replay.{files_of}
use Rattle.sr_cli.proofs.FitsLemmas.{fits_held, fits_done, known_status}
use Rattle.sr_cli.proofs.LeavesLemmas.{done-keeps, keeps-writing, leaves-done, leaves-refused, named-nothing, reported-is}
use Rattle.sr_cli.proofs.ReplayEnds.{never-links, part-by, too-long-by, outside-by, line-by, refused-by, named-by, want-by}
use Rattle.sr_cli.proofs.replay.run_replay.Goals as goal

pub returns-in-Ok-clause-replays : goal.returns-in-Ok-clause-replays
returns-in-Ok-clause-replays g c = record {
  only = inl refl;
  replayed = λ is. c.in-Ok.ensures.replayed;
  part_after_fault = λ is. absurd (omega (arith, is));
  part_in_want = λ is. absurd (omega (arith, is));
  too_long = λ is. absurd (omega (arith, is));
  line = λ is. absurd (omega (arith, is));
  refused = λ is. absurd (omega (arith, is));
  writing_keeps_faults = inr (done-keeps _ _ c.in-Ok.ensures.quiet);
  steady = λ steady script loads are. fits_done _ c.args.words.now script loads _ _ are c.in-Ok.ensures.replayed;
  linking_stays = c.replay_files.ensures.linking_stays;
}

pub returns-in-Ok-clause-leaves : goal.returns-in-Ok-clause-leaves
returns-in-Ok-clause-leaves g c = leaves-done _ g.H.Outside.held g.H.Outside.reading g.H.Outside.writing g.H.Outside.linking g.H.Outside.complaints g.H.Outside.IsSteady c.args.host.now c.replay_files.new.host c.in-Ok.ensures.counts c.replay_files.ensures.stays

pub returns-in-Err-clause-leaves : goal.returns-in-Err-clause-leaves
returns-in-Err-clause-leaves g c =
    leaves-refused _ g.H.Outside.held g.H.Outside.reading g.H.Outside.writing g.H.Outside.linking g.H.Outside.complaints g.H.Outside.IsSteady c.args.host.now c.replay_files.new.host c.report.new.host c.in-Err.refusal c.report.result
    c.report.ensures.reported
    c.in-Err.ensures.counts c.replay_files.ensures.stays
    c.report.ensures.stays

pub returns-in-Err-clause-replays : goal.returns-in-Err-clause-replays
returns-in-Err-clause-replays g c =
    let held = g.H.Outside.held c.args.host.now in
    let words = c.args.words.now in
    let left = (g.H.Outside.reading c.replay_files.new.host).left in
    let before = g.H.Outside.writing c.args.host.now in
    let after = g.H.Outside.writing c.replay_files.new.host in
    let first = g.H.Outside.complaints c.args.host.now in
    let told = g.H.Outside.complaints c.replay_files.new.host in
    let last = g.H.Outside.complaints c.report.new.host in
    let silent = c.replay_files.ensures.stays.complaints_stay in
    let reported = c.report.ensures.reported in
    let rep = reported-is c.in-Err.refusal c.report.result told last reported in
    let only = rep.only in
    let why = c.in-Err.ensures.refused in
    let fails = known_status c.report.result rep.only (never-links held words left before after c.in-Err.refusal c.report.result first told last silent reported why) in
    record {
      only = inr fails;
      replayed = λ is. absurd (omega (arith, only, is));
      part_after_fault = λ is. rw (sym c.report.ensures.stays.writing_stays) at (part-by held words left before after c.in-Err.refusal c.report.result first told last silent reported why is);
      part_in_want = λ is. rw (sym c.report.ensures.stays.writing_stays) at (want-by held words left before after c.in-Err.refusal c.report.result first told last silent reported why
          (λ named. (named-nothing _ g.H.Outside.held g.H.Outside.reading g.H.Outside.writing g.H.Outside.linking g.H.Outside.complaints g.H.Outside.IsSteady c.args.host.now c.replay_files.new.host c.report.new.host c.in-Err.refusal c.report.result reported c.in-Err.ensures.counts named).writing_stays) is);
      too_long = λ is. subst (λ left. SomeTooLong held left (files_of words)) (ap (λ (r : Reading). r.left) (sym c.report.ensures.stays.reading_stays))
          (too-long-by held words left before after c.in-Err.refusal c.report.result first told last silent reported why is);
      line = line-by held words left before after c.in-Err.refusal c.report.result first told last silent reported why;
      refused = named-by held words left before after c.in-Err.refusal c.report.result first told last silent reported why;
      writing_keeps_faults = subst (λ (w : Writing). (c.report.result ≡ 4) ⊎ (w.faults ≡ before.faults)) (sym c.report.ensures.stays.writing_stays) (keeps-writing c.in-Err.refusal c.report.result told last reported _ c.in-Err.ensures.quiet);
      steady = λ steady script loads are.
          fits_held held left words script loads c.report.result are fails
          (λ is. c.in-Err.ensures.steady_reads steady (ap Err (rep.read is)) script loads are)
          (λ is. c.in-Err.ensures.steady_writes steady (ap Err (rep.write is)))
          (too-long-by held words left before after c.in-Err.refusal c.report.result first told last silent reported why)
          (outside-by held words left before after c.in-Err.refusal c.report.result first told last silent reported why)
          (refused-by held words left before after c.in-Err.refusal c.report.result first told last silent reported why);
      linking_stays = c.report.ensures.stays.linking_stays ∙ c.replay_files.ensures.linking_stays;
    }
