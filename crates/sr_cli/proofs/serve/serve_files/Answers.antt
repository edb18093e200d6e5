use Rattle.std.proofs.Common.{Err, inl, ap, subst, ◌∙◌, inr, refl}
use Rattle.std.proofs.lemmas.Result.{on_ok_weaker, IfErr-weaker}
use Rattle.sr_cli.specs.Leaves.{NotRead}
use Rattle.sr_cli.specs.Serve.{RefusesOver, files_of}
use Rattle.sr_cli.proofs.LeavesLemmas.{counts-behind, counts-unread, err-of, read-failed, unread-as, unread-never}
use Rattle.sr_cli.proofs.ServeEnds.{over-files}
use Rattle.sr_cli.proofs.serve.serve_files.Goals as goal

pub returns-in-Ok-clause-whole : goal.returns-in-Ok-clause-whole
returns-in-Ok-clause-whole g c =
    on_ok_weaker c.serve_read.result
    (λ ends. record {
      schema = c.in-Ok.files.schema;
      exec = c.in-Ok.files.exec;
      loads = c.in-Ok.files.loads;
      files = c.in-Ok.ensures.read;
      ends = rw (c.read_files.ensures.stays.linking_stays, c.read_files.ensures.stays.writing_stays) at ends;
    })
    c.serve_read.ensures.whole

pub returns-in-Ok-clause-refused : goal.returns-in-Ok-clause-refused
returns-in-Ok-clause-refused g c =
    IfErr-weaker c.serve_read.result _ _
    (λ why refuses.
    over-files (g.H.Outside.held c.args.host.now) c.args.words.now (g.H.Outside.reading c.serve_read.new.host).left c.in-Ok.files.schema c.in-Ok.files.exec c.in-Ok.files.loads
    (g.H.Outside.linking c.args.host.now) (g.H.Outside.linking c.serve_read.new.host) (g.H.Outside.writing c.args.host.now) (g.H.Outside.writing c.serve_read.new.host) why c.in-Ok.ensures.read
    (rw (c.read_files.ensures.stays.linking_stays, c.read_files.ensures.stays.writing_stays) at refuses))
    c.serve_read.ensures.refused

pub returns-in-Ok-clause-counts : goal.returns-in-Ok-clause-counts
returns-in-Ok-clause-counts g c =
    counts-behind _ g.H.Outside.held g.H.Outside.reading g.H.Outside.writing g.H.Outside.linking g.H.Outside.complaints g.H.Outside.IsSteady c.args.host.now c.read_files.new.host c.serve_read.new.host c.serve_read.result
    c.in-Ok.ensures.ok_keeps_faults c.read_files.ensures.stays.writing_stays c.read_files.ensures.stays.linking_stays c.serve_read.ensures.counts

pub returns-in-Ok-clause-steady_reads : goal.returns-in-Ok-clause-steady_reads
returns-in-Ok-clause-steady_reads g c = λ steady failed schema exec loads are. absurd (err-of _ c.serve_read.result _ c.serve_read.ensures.refused failed)

pub returns-in-Ok-clause-steady_writes : goal.returns-in-Ok-clause-steady_writes
returns-in-Ok-clause-steady_writes g c = λ steady. c.serve_read.ensures.steady_writes (c.read_files.ensures.stays.stays_steady steady)

pub returns-in-Ok-clause-steady_links : goal.returns-in-Ok-clause-steady_links
returns-in-Ok-clause-steady_links g c = λ steady enough. c.serve_read.ensures.steady_links (c.read_files.ensures.stays.stays_steady steady) (rw c.read_files.ensures.stays.linking_stays enough)

pub returns-in-Ok-clause-stays : goal.returns-in-Ok-clause-stays
returns-in-Ok-clause-stays g c = record {
  stays_steady = λ s. c.serve_read.ensures.stays.stays_steady (c.read_files.ensures.stays.stays_steady s);
  held_stays = c.serve_read.ensures.stays.held_stays ∙ c.read_files.ensures.stays.held_stays;
  complaints_stay = c.serve_read.ensures.stays.complaints_stay ∙ c.read_files.ensures.stays.complaints_stay;
}

pub returns-in-Err-clause-refused : goal.returns-in-Err-clause-refused
returns-in-Err-clause-refused g c =
    rw c.unread.ensures
    (unread-as (RefusesOver (g.H.Outside.held c.args.host.now) c.args.words.now (g.H.Outside.reading c.read_files.new.host).left
    (g.H.Outside.linking c.args.host.now) (g.H.Outside.linking c.read_files.new.host) (g.H.Outside.writing c.args.host.now) (g.H.Outside.writing c.read_files.new.host))
    c.in-Err.fault
    (λ is. tt) (λ is. inl (record { linking = c.read_files.ensures.stays.linking_stays; writing = c.read_files.ensures.stays.writing_stays }))
    (λ is. (subst (NotRead (g.H.Outside.held c.args.host.now) (files_of c.args.words.now) (g.H.Outside.reading c.args.host.now) (g.H.Outside.reading c.read_files.new.host)) is c.in-Err.ensures.not_read).0))

pub returns-in-Err-clause-counts : goal.returns-in-Err-clause-counts
returns-in-Err-clause-counts g c =
    rw c.unread.ensures
    (counts-unread _ g.H.Outside.held g.H.Outside.reading g.H.Outside.writing g.H.Outside.linking g.H.Outside.complaints g.H.Outside.IsSteady (files_of c.args.words.now) (g.H.Outside.held c.args.host.now) c.args.host.now c.read_files.new.host
    c.in-Err.fault c.in-Err.ensures.not_read c.read_files.ensures.stays.writing_stays c.read_files.ensures.stays.linking_stays)

pub returns-in-Err-clause-steady_reads : goal.returns-in-Err-clause-steady_reads
returns-in-Err-clause-steady_reads g c = λ steady failed schema exec loads are.
    c.in-Err.ensures.steady steady (ap Err (read-failed c.in-Err.fault (rw c.unread.ensures at failed))) schema exec loads are

pub returns-in-Err-clause-steady_writes : goal.returns-in-Err-clause-steady_writes
returns-in-Err-clause-steady_writes g c = λ steady failed. unread-never c.in-Err.fault _ (rw c.unread.ensures at failed) (inl refl)

pub returns-in-Err-clause-steady_links : goal.returns-in-Err-clause-steady_links
returns-in-Err-clause-steady_links g c = λ steady enough failed. unread-never c.in-Err.fault _ (rw c.unread.ensures at failed) (inr refl)

pub returns-in-Err-clause-link_fault_is_counted : goal.returns-in-Err-clause-link_fault_is_counted
returns-in-Err-clause-link_fault_is_counted g c = λ failed. absurd (unread-never c.in-Err.fault _ (rw c.unread.ensures at failed) (inr refl))

pub returns-in-Ok-clause-link_fault_is_counted : goal.returns-in-Ok-clause-link_fault_is_counted
returns-in-Ok-clause-link_fault_is_counted g c = rw c.read_files.ensures.stays.linking_stays at c.serve_read.ensures.link_fault_is_counted
