use Rattle.std.proofs.Common.{◌≡◌, ◌⊎◌, [], ◌∷◌, Err, inl, ap, subst, ◌∙◌, refl}
use Rattle.std.proofs.lemmas.Result.{on_ok_weaker, IfErr-weaker}
use Rattle.std.specs.Prelude.{IsErrOf}
use Rattle.sr_io.specs.Told.{Writing}
use Rattle.sr_cli.specs.Explain.{RefusesOver}
use Rattle.sr_cli.specs.Leaves.{NotRead}
use Rattle.sr_cli.specs.declared.report.Refusal.TheVariants.{Write}
use Rattle.sr_cli.proofs.LeavesLemmas.{counts-behind, counts-unread, err-of, read-failed, unread-as, unread-never}
use Rattle.sr_cli.proofs.ReadSoFar.{only-long}
use Rattle.sr_cli.proofs.ReplayEnds.{over-script}
use Rattle.sr_cli.proofs.explain.explain_file.Goals as goal

pub returns-in-Ok-clause-explained : goal.returns-in-Ok-clause-explained
returns-in-Ok-clause-explained g c =
    on_ok_weaker c.explain_read.result
    (λ wrote. record {
      script = c.in-Ok.script;
      read = rw c.as_str.ensures at c.in-Ok.ensures.read;
      wrote = rw (c.read_file.ensures.stays.writing_stays, c.as_slice.ensures) at wrote;
    })
    c.explain_read.ensures.explained

pub returns-in-Ok-clause-refused : goal.returns-in-Ok-clause-refused
returns-in-Ok-clause-refused g c =
    IfErr-weaker c.explain_read.result _ _
    (λ why refuses.
    over-script (g.H.Outside.held c.args.host.now) c.args.words.now (g.H.Outside.reading c.explain_read.new.host).left c.in-Ok.script (g.H.Outside.writing c.args.host.now) (g.H.Outside.writing c.explain_read.new.host) why
    (rw c.as_str.ensures at c.in-Ok.ensures.read)
    (rw (c.as_slice.ensures, c.read_file.ensures.stays.writing_stays) at refuses))
    c.explain_read.ensures.refused

pub returns-in-Ok-clause-counts : goal.returns-in-Ok-clause-counts
returns-in-Ok-clause-counts g c =
    counts-behind _ g.H.Outside.held g.H.Outside.reading g.H.Outside.writing g.H.Outside.linking g.H.Outside.complaints g.H.Outside.IsSteady c.args.host.now c.read_file.new.host c.explain_read.new.host c.explain_read.result
    c.in-Ok.ensures.ok_keeps_faults c.read_file.ensures.stays.writing_stays c.read_file.ensures.stays.linking_stays c.explain_read.ensures.counts

pub returns-in-Ok-clause-quiet : goal.returns-in-Ok-clause-quiet
returns-in-Ok-clause-quiet g c =
    subst (λ (w : Writing). IsErrOf c.explain_read.result Write ⊎ ((g.H.Outside.writing c.explain_read.new.host).faults ≡ w.faults)) c.read_file.ensures.stays.writing_stays c.explain_read.ensures.quiet

pub returns-in-Ok-clause-steady_reads : goal.returns-in-Ok-clause-steady_reads
returns-in-Ok-clause-steady_reads g c = λ steady failed. absurd (err-of _ c.explain_read.result _ c.explain_read.ensures.refused failed)

pub returns-in-Ok-clause-steady_writes : goal.returns-in-Ok-clause-steady_writes
returns-in-Ok-clause-steady_writes g c = λ steady. c.explain_read.ensures.steady_writes (c.read_file.ensures.stays.stays_steady steady)

pub returns-in-Ok-clause-linking_stays : goal.returns-in-Ok-clause-linking_stays
returns-in-Ok-clause-linking_stays g c = c.explain_read.ensures.stays.linking_stays ∙ c.read_file.ensures.stays.linking_stays

pub returns-in-Ok-clause-stays : goal.returns-in-Ok-clause-stays
returns-in-Ok-clause-stays g c = record {
  stays_steady = λ s. c.explain_read.ensures.stays.stays_steady (c.read_file.ensures.stays.stays_steady s);
  held_stays = c.explain_read.ensures.stays.held_stays ∙ c.read_file.ensures.stays.held_stays;
  complaints_stay = c.explain_read.ensures.stays.complaints_stay ∙ c.read_file.ensures.stays.complaints_stay;
}

pub returns-in-Err-clause-refused : goal.returns-in-Err-clause-refused
returns-in-Err-clause-refused g c =
    rw c.unread.ensures
    (unread-as (RefusesOver (g.H.Outside.held c.args.host.now) c.args.words.now (g.H.Outside.reading c.read_file.new.host).left (g.H.Outside.writing c.args.host.now) (g.H.Outside.writing c.read_file.new.host))
    c.in-Err.fault
    (λ is. tt) (λ is. inl c.read_file.ensures.stays.writing_stays)
    (λ is. only-long (g.H.Outside.held c.args.host.now) (g.H.Outside.reading c.read_file.new.host).left c.args.words.now.script
    (subst (NotRead (g.H.Outside.held c.args.host.now) (c.args.words.now.script ∷ []) (g.H.Outside.reading c.args.host.now) (g.H.Outside.reading c.read_file.new.host)) is (rw c.as_str.ensures at c.in-Err.ensures.not_read)).0))

pub returns-in-Err-clause-counts : goal.returns-in-Err-clause-counts
returns-in-Err-clause-counts g c =
    rw c.unread.ensures
    (counts-unread _ g.H.Outside.held g.H.Outside.reading g.H.Outside.writing g.H.Outside.linking g.H.Outside.complaints g.H.Outside.IsSteady (c.as_str.result.now ∷ []) (g.H.Outside.held c.args.host.now) c.args.host.now c.read_file.new.host
    c.in-Err.fault c.in-Err.ensures.not_read c.read_file.ensures.stays.writing_stays c.read_file.ensures.stays.linking_stays)

pub returns-in-Err-clause-steady_reads : goal.returns-in-Err-clause-steady_reads
returns-in-Err-clause-steady_reads g c = λ steady failed.
    rw c.as_str.ensures at (c.in-Err.ensures.steady steady (ap Err (read-failed c.in-Err.fault (rw c.unread.ensures at failed))))

pub returns-in-Err-clause-steady_writes : goal.returns-in-Err-clause-steady_writes
returns-in-Err-clause-steady_writes g c = λ steady failed. unread-never c.in-Err.fault _ (rw c.unread.ensures at failed) (inl refl)
