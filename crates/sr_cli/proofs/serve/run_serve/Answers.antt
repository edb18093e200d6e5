use Rattle.std.proofs.Common.{Err, inl, inr, refl, sym, ap, subst, arith}
use Rattle.sr_io.specs.Told.{Reading}
use Rattle.sr_talk.specs.declared.rounds.Ending.TheVariants.{Whole}
use Rattle.sr_cli.specs.Files.{SomeTooLong}
use Rattle.sr_cli.specs.Serve.{files_of}
use Rattle.sr_cli.proofs.LeavesLemmas.{leaves-done, leaves-refused, named-nothing, reported-is}
use Rattle.sr_cli.proofs.ServeEnds.{unwritten-by, faulty-by, too-long-by, outside-by, line-by, refused-by, named-by, served-by, want-by}
use Rattle.sr_cli.proofs.ServeLemmas.{Statuses, fits_held}
use Rattle.sr_cli.proofs.serve.run_serve.Goals as goal

pub returns-in-Ok-clause-serves : goal.returns-in-Ok-clause-serves
returns-in-Ok-clause-serves g c = record {
  only = inl refl;
  whole = λ is. c.in-Ok.ensures.whole;
  unwritten = λ is. absurd (omega (arith, is));
  faulty = λ is. absurd (omega (arith, is));
  in_want = λ is. absurd (omega (arith, is));
  too_long = λ is. absurd (omega (arith, is));
  line = λ is. absurd (omega (arith, is));
  refused = λ is. absurd (omega (arith, is));
  steady = λ steady schema exec loads are.
      fits_held _ (g.H.Outside.reading c.serve_files.new.host).left c.args.words.now schema exec loads _ _ _ _ 0 are (inl refl)
      (λ is. absurd (omega (arith, is))) (λ is. absurd (omega (arith, is))) (λ is. absurd (omega (arith, is))) (λ is. absurd (omega (arith, is)))
      (λ did. (Whole, c.in-Ok.ensures.whole));
  steady_writes = λ steady is. absurd (omega (arith, is));
  steady_links = λ steady enough is. absurd (omega (arith, is));
  link_fault_is_counted = λ is. absurd (omega (arith, is));
  quiet = λ is. c.in-Ok.ensures.whole.ends.ran.served.quiet refl;
}

pub returns-in-Ok-clause-leaves : goal.returns-in-Ok-clause-leaves
returns-in-Ok-clause-leaves g c =
    leaves-done _ g.H.Outside.held g.H.Outside.reading g.H.Outside.writing g.H.Outside.linking g.H.Outside.complaints g.H.Outside.IsSteady c.args.host.now c.serve_files.new.host c.in-Ok.ensures.counts c.serve_files.ensures.stays

pub returns-in-Err-clause-leaves : goal.returns-in-Err-clause-leaves
returns-in-Err-clause-leaves g c =
    leaves-refused _ g.H.Outside.held g.H.Outside.reading g.H.Outside.writing g.H.Outside.linking g.H.Outside.complaints g.H.Outside.IsSteady c.args.host.now c.serve_files.new.host c.report.new.host c.in-Err.refusal c.report.result
    c.report.ensures.reported
    c.in-Err.ensures.counts c.serve_files.ensures.stays
    c.report.ensures.stays

pub returns-in-Err-clause-serves : goal.returns-in-Err-clause-serves
returns-in-Err-clause-serves g c =
    let held = g.H.Outside.held c.args.host.now in
    let words = c.args.words.now in
    let left = (g.H.Outside.reading c.serve_files.new.host).left in
    let old = g.H.Outside.linking c.args.host.now in
    let new = g.H.Outside.linking c.serve_files.new.host in
    let before = g.H.Outside.writing c.args.host.now in
    let after = g.H.Outside.writing c.serve_files.new.host in
    let first = g.H.Outside.complaints c.args.host.now in
    let told = g.H.Outside.complaints c.serve_files.new.host in
    let last = g.H.Outside.complaints c.report.new.host in
    let silent = c.serve_files.ensures.stays.complaints_stay in
    let reported = c.report.ensures.reported in
    let rep = reported-is c.in-Err.refusal c.report.result told last reported in
    let only = rep.only in
    let why = c.in-Err.ensures.refused in
    let statuses : Statuses c.report.result = inr rep.only in
    record {
      only = inr rep.only;
      whole = λ is. absurd (omega (arith, only, is));
      unwritten = λ is. rw (sym c.report.ensures.stays.linking_stays, sym c.report.ensures.stays.writing_stays) at (unwritten-by held words left old new before after c.in-Err.refusal c.report.result first told last silent reported why is);
      faulty = λ is. rw (sym c.report.ensures.stays.linking_stays, sym c.report.ensures.stays.writing_stays) at (faulty-by held words left old new before after c.in-Err.refusal c.report.result first told last silent reported why is);
      in_want = λ is. rw (sym c.report.ensures.stays.linking_stays, sym c.report.ensures.stays.writing_stays) at (want-by held words left old new before after c.in-Err.refusal c.report.result first told last silent reported why
          (λ named. (let none = named-nothing _ g.H.Outside.held g.H.Outside.reading g.H.Outside.writing g.H.Outside.linking g.H.Outside.complaints g.H.Outside.IsSteady c.args.host.now c.serve_files.new.host c.report.new.host c.in-Err.refusal c.report.result reported c.in-Err.ensures.counts named in
          record { linking = none.linking_stays; writing = none.writing_stays })) is);
      too_long = λ is. subst (λ left. SomeTooLong held left (files_of words)) (ap (λ (r : Reading). r.left) (sym c.report.ensures.stays.reading_stays))
          (too-long-by held words left old new before after c.in-Err.refusal c.report.result first told last silent reported why is);
      line = line-by held words left old new before after c.in-Err.refusal c.report.result first told last silent reported why;
      refused = named-by held words left old new before after c.in-Err.refusal c.report.result first told last silent reported why;
      steady = λ steady schema exec loads are.
          fits_held held left words schema exec loads old new before after c.report.result are statuses
          (λ is. c.in-Err.ensures.steady_reads steady (ap Err (rep.read is)) schema exec loads are)
          (too-long-by held words left old new before after c.in-Err.refusal c.report.result first told last silent reported why)
          (outside-by held words left old new before after c.in-Err.refusal c.report.result first told last silent reported why)
          (refused-by held words left old new before after c.in-Err.refusal c.report.result first told last silent reported why)
          (served-by held words left old new before after c.in-Err.refusal c.report.result first told last silent reported why);
      steady_writes = λ steady is. c.in-Err.ensures.steady_writes steady (ap Err (rep.write is));
      steady_links = λ steady enough is. c.in-Err.ensures.steady_links steady enough (ap Err (rep.link is));
      link_fault_is_counted = λ is. rw (sym c.report.ensures.stays.linking_stays) at (c.in-Err.ensures.link_fault_is_counted (ap Err (rep.link is)));
      quiet = λ is. absurd (omega (arith, only, is));
    }
