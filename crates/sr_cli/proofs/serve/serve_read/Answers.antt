use Rattle.std.proofs.Common.{Err, inl, inr, refl, sym, ap, ◌∙◌}
use Rattle.sr_talk.specs.declared.rounds.Ending.TheVariants.{Faulty, Unwritten}
use Rattle.sr_cli.proofs.Endings.{one_refusal}
use Rattle.sr_cli.proofs.ServeEnds.{never-by, ran-counts, ran-links, ran-refused, ran-whole, setup-counts, setup-never, setup-refused}
use Rattle.sr_cli.proofs.serve.serve_read.Goals as goal

pub returns-in-Err-clause-refused : goal.returns-in-Err-clause-refused
returns-in-Err-clause-refused g c =
    let files = c.args.files.now in
    rw c.refusal_of.ensures
    (setup-refused files.schema files.exec files.loads c.args.words.now c.in-Err.no
    (λ line place is. rw (c.as_slice.ensures, c.as_slice-2.ensures) at (c.in-Err.ensures.line line place (ap Err is)))
    (λ line fault is. rw (c.as_slice.ensures, c.as_slice-2.ensures) at (c.in-Err.ensures.create line fault (ap Err is)))
    (λ table fault is. rw (c.as_slice.ensures, c.as_slice-2.ensures, c.as_slice-3.ensures) at (c.in-Err.ensures.load table fault (ap Err is)))
    (g.H.Outside.linking c.args.host.now) (g.H.Outside.writing c.args.host.now))

pub returns-in-Err-clause-counts : goal.returns-in-Err-clause-counts
returns-in-Err-clause-counts g c = rw c.refusal_of.ensures (setup-counts _ g.H.Outside.reading g.H.Outside.writing g.H.Outside.linking c.args.host.now c.in-Err.no)

pub returns-in-Err-clause-steady_writes : goal.returns-in-Err-clause-steady_writes
returns-in-Err-clause-steady_writes g c = λ steady is. setup-never c.in-Err.no _ (sym c.refusal_of.ensures ∙ one_refusal _ _ is) (inl refl)

pub returns-in-Err-clause-steady_links : goal.returns-in-Err-clause-steady_links
returns-in-Err-clause-steady_links g c = λ steady enough is. setup-never c.in-Err.no _ (sym c.refusal_of.ensures ∙ one_refusal _ _ is) (inr refl)

pub returns-clause-whole : goal.returns-clause-whole
returns-clause-whole g c =
    let files = c.args.files.now in
    ran-whole files.schema files.exec files.loads c.args.words.now c.in-Ok.setup.tables c.in-Ok.setup.statements
    (rw (c.as_slice.ensures, c.as_slice-2.ensures, c.as_slice-3.ensures) at c.in-Ok.ensures.sets_up)
    (g.H.Outside.linking c.args.host.now) (g.H.Outside.linking c.serve-done.new.host) (g.H.Outside.writing c.args.host.now) (g.H.Outside.writing c.serve-done.new.host)
    c.serve-done.result c.end_of.result c.end_of.ensures (rw (c.as_slice-4.ensures, c.as_str.ensures) at c.serve-done.ensures.ran)

pub returns-clause-refused : goal.returns-clause-refused
returns-clause-refused g c =
    let files = c.args.files.now in
    ran-refused files.schema files.exec files.loads c.args.words.now c.in-Ok.setup.tables c.in-Ok.setup.statements
    (rw (c.as_slice.ensures, c.as_slice-2.ensures, c.as_slice-3.ensures) at c.in-Ok.ensures.sets_up)
    (g.H.Outside.linking c.args.host.now) (g.H.Outside.linking c.serve-done.new.host) (g.H.Outside.writing c.args.host.now) (g.H.Outside.writing c.serve-done.new.host)
    c.serve-done.result c.end_of.result c.end_of.ensures (rw (c.as_slice-4.ensures, c.as_str.ensures) at c.serve-done.ensures.ran) (rw (c.as_slice-4.ensures, c.as_str.ensures) at c.serve-done.ensures.in_part)

pub returns-clause-counts : goal.returns-clause-counts
returns-clause-counts g c =
    let files = c.args.files.now in
    ran-counts files.schema files.exec files.loads c.args.words.now c.in-Ok.setup.tables c.in-Ok.setup.statements
    (rw (c.as_slice.ensures, c.as_slice-2.ensures, c.as_slice-3.ensures) at c.in-Ok.ensures.sets_up)
    (g.H.Outside.linking c.args.host.now) (g.H.Outside.linking c.serve-done.new.host) (g.H.Outside.writing c.args.host.now) (g.H.Outside.writing c.serve-done.new.host)
    _ g.H.Outside.reading g.H.Outside.writing g.H.Outside.linking c.args.host.now c.serve-done.new.host
    c.serve-done.result c.end_of.result c.end_of.ensures refl refl refl refl c.serve-done.ensures.stays.reading_stays (rw (c.as_slice-4.ensures, c.as_str.ensures) at c.serve-done.ensures.ran)

pub returns-clause-steady_writes : goal.returns-clause-steady_writes
returns-clause-steady_writes g c = λ steady is. never-by c.serve-done.result c.end_of.result _ Unwritten c.end_of.ensures is (inl (refl, refl)) (c.serve-done.ensures.steady_writes steady)

pub returns-clause-steady_links : goal.returns-clause-steady_links
returns-clause-steady_links g c = λ steady enough is. never-by c.serve-done.result c.end_of.result _ Faulty c.end_of.ensures is (inr (refl, refl)) (c.serve-done.ensures.steady_links steady enough)

pub returns-in-Err-clause-link_fault_is_counted : goal.returns-in-Err-clause-link_fault_is_counted
returns-in-Err-clause-link_fault_is_counted g c = λ is. absurd (setup-never c.in-Err.no _ (sym c.refusal_of.ensures ∙ one_refusal _ _ is) (inr refl))

pub returns-clause-link_fault_is_counted : goal.returns-clause-link_fault_is_counted
returns-clause-link_fault_is_counted g c =
    let files = c.args.files.now in
    ran-links files.schema files.exec files.loads c.args.words.now c.in-Ok.setup.tables c.in-Ok.setup.statements
    (rw (c.as_slice.ensures, c.as_slice-2.ensures, c.as_slice-3.ensures) at c.in-Ok.ensures.sets_up)
    (g.H.Outside.linking c.args.host.now) (g.H.Outside.linking c.serve-done.new.host) (g.H.Outside.writing c.args.host.now) (g.H.Outside.writing c.serve-done.new.host)
    c.serve-done.result c.end_of.result c.end_of.ensures (rw (c.as_slice-4.ensures, c.as_str.ensures) at c.serve-done.ensures.ran)
