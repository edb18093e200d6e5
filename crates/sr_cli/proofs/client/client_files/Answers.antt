use Rattle.std.proofs.Common.{Err, inl, ap, subst, ◌∙◌}
use Rattle.std.proofs.lemmas.Result.{on_ok_weaker, IfErr-weaker}
use Rattle.sr_cli.specs.Client.{Stops, StopsBy, StopsOver, files_of}
use Rattle.sr_cli.specs.Leaves.{NotRead}
use Rattle.sr_dial.specs.declared.ending.Ending.TheVariants.{Whole}
use Rattle.sr_cli.specs.declared.stop.Stop.TheVariants.{Refused}
use Rattle.sr_cli.proofs.ClientLemmas.{counts-stopped, ends_later, over-files}
use Rattle.sr_cli.proofs.Endings.{stop-failed, stop-unwritten}
use Rattle.sr_cli.proofs.LeavesLemmas.{counts-unread, err-of, unread-as}
use Rattle.sr_cli.proofs.client.client_files.Goals as goal

pub returns-in-Ok-clause-whole : goal.returns-in-Ok-clause-whole
returns-in-Ok-clause-whole g c =
    on_ok_weaker c.client_read.result
    (λ ends. record {
      schema = c.in-Ok.files.schema;
      script = c.in-Ok.files.script;
      files = c.in-Ok.ensures.read;
      ends = ends_later (g.H.Outside.IsSteady c.args.host.now) (g.H.Outside.IsSteady c.read_files.new.host) c.in-Ok.files.schema c.in-Ok.files.script c.args.words.now Whole
          (g.H.Outside.linking c.args.host.now) (g.H.Outside.linking c.client_read.new.host) (g.H.Outside.writing c.args.host.now) (g.H.Outside.writing c.client_read.new.host) c.read_files.ensures.stays.stays_steady
          (rw (c.read_files.ensures.stays.linking_stays, c.read_files.ensures.stays.writing_stays) at ends);
    })
    c.client_read.ensures.whole

pub returns-in-Ok-clause-stopped : goal.returns-in-Ok-clause-stopped
returns-in-Ok-clause-stopped g c =
    IfErr-weaker c.client_read.result _ _
    (λ why stops.
    over-files (g.H.Outside.IsSteady c.args.host.now) (g.H.Outside.IsSteady c.read_files.new.host) c.read_files.ensures.stays.stays_steady (g.H.Outside.held c.args.host.now) c.args.words.now (g.H.Outside.reading c.client_read.new.host).left c.in-Ok.files.schema c.in-Ok.files.script
    (g.H.Outside.linking c.args.host.now) (g.H.Outside.linking c.client_read.new.host) (g.H.Outside.writing c.args.host.now) (g.H.Outside.writing c.client_read.new.host) why c.in-Ok.ensures.read
    (rw (c.read_files.ensures.stays.linking_stays, c.read_files.ensures.stays.writing_stays) at stops))
    c.client_read.ensures.stopped

pub returns-in-Ok-clause-counts : goal.returns-in-Ok-clause-counts
returns-in-Ok-clause-counts g c =
    counts-stopped (g.H.Outside.IsSteady c.read_files.new.host) _ g.H.Outside.reading g.H.Outside.writing g.H.Outside.linking c.in-Ok.files.schema c.in-Ok.files.script c.args.words.now c.args.host.now c.read_files.new.host c.client_read.new.host
    c.in-Ok.ensures.ok_keeps_faults c.client_read.ensures.stays.reading_stays c.read_files.ensures.stays.writing_stays c.read_files.ensures.stays.linking_stays c.client_read.result
    (IfErr-weaker c.client_read.result (StopsBy _ g.H.Outside.linking g.H.Outside.writing g.H.Outside.IsSteady c.read_files.new.host c.client_read.new.host c.in-Ok.files c.args.words.now)
    (Stops (g.H.Outside.IsSteady c.read_files.new.host) c.in-Ok.files.schema c.in-Ok.files.script c.args.words.now (g.H.Outside.linking c.read_files.new.host) (g.H.Outside.linking c.client_read.new.host) (g.H.Outside.writing c.read_files.new.host) (g.H.Outside.writing c.client_read.new.host))
    (λ why stops. stops) c.client_read.ensures.stopped)

pub returns-in-Ok-clause-steady_reads : goal.returns-in-Ok-clause-steady_reads
returns-in-Ok-clause-steady_reads g c = λ steady failed schema script are. absurd (err-of _ c.client_read.result _ c.client_read.ensures.stopped failed)

pub returns-in-Ok-clause-steady_writes : goal.returns-in-Ok-clause-steady_writes
returns-in-Ok-clause-steady_writes g c = λ steady. c.client_read.ensures.steady_writes (c.read_files.ensures.stays.stays_steady steady)

pub returns-in-Ok-clause-stays : goal.returns-in-Ok-clause-stays
returns-in-Ok-clause-stays g c = record {
  stays_steady = λ s. c.client_read.ensures.stays.stays_steady (c.read_files.ensures.stays.stays_steady s);
  held_stays = c.client_read.ensures.stays.held_stays ∙ c.read_files.ensures.stays.held_stays;
  complaints_stay = c.client_read.ensures.stays.complaints_stay ∙ c.read_files.ensures.stays.complaints_stay;
}

pub returns-in-Err-clause-stopped : goal.returns-in-Err-clause-stopped
returns-in-Err-clause-stopped g c =
    rw c.unread.ensures
    (unread-as (λ r. StopsOver (g.H.Outside.IsSteady c.args.host.now) (g.H.Outside.held c.args.host.now) c.args.words.now (g.H.Outside.reading c.read_files.new.host).left
    (g.H.Outside.linking c.args.host.now) (g.H.Outside.linking c.read_files.new.host) (g.H.Outside.writing c.args.host.now) (g.H.Outside.writing c.read_files.new.host) (Refused r))
    c.in-Err.fault (λ is. tt) (λ is. inl (record { linking = c.read_files.ensures.stays.linking_stays; writing = c.read_files.ensures.stays.writing_stays }))
    (λ is. (subst (NotRead (g.H.Outside.held c.args.host.now) (files_of c.args.words.now) (g.H.Outside.reading c.args.host.now) (g.H.Outside.reading c.read_files.new.host)) is c.in-Err.ensures.not_read).0))

pub returns-in-Err-clause-counts : goal.returns-in-Err-clause-counts
returns-in-Err-clause-counts g c =
    rw c.unread.ensures
    (counts-unread _ g.H.Outside.held g.H.Outside.reading g.H.Outside.writing g.H.Outside.linking g.H.Outside.complaints g.H.Outside.IsSteady (files_of c.args.words.now) (g.H.Outside.held c.args.host.now) c.args.host.now c.read_files.new.host
    c.in-Err.fault c.in-Err.ensures.not_read c.read_files.ensures.stays.writing_stays c.read_files.ensures.stays.linking_stays)

pub returns-in-Err-clause-steady_reads : goal.returns-in-Err-clause-steady_reads
returns-in-Err-clause-steady_reads g c = λ steady failed schema script are.
    c.in-Err.ensures.steady steady (ap Err (stop-failed c.in-Err.fault (rw c.unread.ensures at failed))) schema script are

pub returns-in-Err-clause-steady_writes : goal.returns-in-Err-clause-steady_writes
returns-in-Err-clause-steady_writes g c = λ steady failed. stop-unwritten c.in-Err.fault (rw c.unread.ensures at failed)
