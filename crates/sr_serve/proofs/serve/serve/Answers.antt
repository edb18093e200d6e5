use Rattle.std.proofs.Common.{◌∙◌, Err, ap, sym, subst, rules}
use Rattle.sr_server.specs.Servers.{first_database}
use Rattle.sr_talk.specs.Rounds.{HasPeers}
use Rattle.sr_talk.specs.Serving.{listening}
use Rattle.sr_talk.proofs.SomeLemmas.{all-written}
use Rattle.sr_serve.specs.Runs.{RanInPart}
use Rattle.sr_serve.proofs.RunLemmas.{unheard-short}
use Rattle.sr_talk.proofs.MoveLemmas.{so-in-err}
use Rattle.sr_serve.proofs.serve.serve.Goals as goal

pub serve_docked-requires-clause-stands : goal.serve_docked-requires-clause-stands
serve_docked-requires-clause-stands g c =
    let db = first_database c.args.tables.schema c.args.log c.args.tables.rows in
    (db, c.new-in-Ok.ensures.stands db c.in_ok-server-in-Ok.ensures.stands)

pub returns-in-Ok-clause-ran : goal.returns-in-Ok-clause-ran
returns-in-Ok-clause-ran g c =
    let db = first_database c.args.tables.schema c.args.log c.args.tables.rows in
    c.serve_docked.ensures.ran db (c.new-in-Ok.ensures.stands db c.in_ok-server-in-Ok.ensures.stands) c.args.address.now (g.H.Outside.linking c.args.host.now) (g.H.Outside.writing c.args.host.now)
    c.in-Ok.ensures.docked c.in-Ok.ensures.written c.in-Ok.ensures.faults

pub returns-in-Ok-clause-steady_writes : goal.returns-in-Ok-clause-steady_writes
returns-in-Ok-clause-steady_writes g c steady = c.serve_docked.ensures.steady_writes (c.listen.ensures.stays.stays_steady steady)

pub returns-in-Ok-clause-steady_links : goal.returns-in-Ok-clause-steady_links
returns-in-Ok-clause-steady_links g c steady enough =
    c.serve_docked.ensures.steady_links (c.listen.ensures.stays.stays_steady steady) (subst (HasPeers c.args.count) (sym c.in-Ok.ensures.docked) enough)

pub returns-in-Err-Refused-clause-steady_writes : goal.returns-in-Err-Refused-clause-steady_writes
returns-in-Err-Refused-clause-steady_writes g c steady = absurd (c.in-Err-Refused.ensures.steady steady c.in-Err-Refused.ending (ap Err c.in-Err-Refused.field-0-is))

pub returns-in-Err-Refused-clause-steady_links : goal.returns-in-Err-Refused-clause-steady_links
returns-in-Err-Refused-clause-steady_links g c steady enough = absurd (c.in-Err-Refused.ensures.steady steady c.in-Err-Refused.ending (ap Err c.in-Err-Refused.field-0-is))

pub returns-in-Ok-clause-stays : goal.returns-in-Ok-clause-stays
returns-in-Ok-clause-stays g c =
    let first = c.listen.ensures.stays in
    let last = c.serve_docked.ensures.stays in
    record {
      stays_steady = λ s. last.stays_steady (first.stays_steady s);
      reading_stays = last.reading_stays ∙ first.reading_stays;
      held_stays = last.held_stays ∙ first.held_stays;
      complaints_stay = last.complaints_stay ∙ first.complaints_stay;
    }

pub returns-in-Err-Refused-clause-ran : goal.returns-in-Err-Refused-clause-ran
returns-in-Err-Refused-clause-ran g c = c.in-Err-Refused.ensures.ran _ (search rules) _ _ _

pub returns-in-Ok-clause-in_part : goal.returns-in-Ok-clause-in_part
returns-in-Ok-clause-in_part g c =
    let db = first_database c.args.tables.schema c.args.log c.args.tables.rows in
    c.serve_docked.ensures.in_part db (c.new-in-Ok.ensures.stands db c.in_ok-server-in-Ok.ensures.stands) c.args.address.now (g.H.Outside.linking c.args.host.now) (g.H.Outside.writing c.args.host.now)
    c.in-Ok.ensures.docked c.in-Ok.ensures.written c.in-Ok.ensures.faults

pub returns-clause-in_part : goal.returns-clause-in_part
returns-clause-in_part g c = c.in-Err-NoMemory.ensures.in_part (search rules) _ _ _

pub returns-in_err-server-in-Ok-clause-in_part : goal.returns-in_err-server-in-Ok-clause-in_part
returns-in_err-server-in-Ok-clause-in_part g c =
    let db = first_database c.args.tables.schema c.args.log c.args.tables.rows in
    so-in-err c.from_residual.result
    (subst (λ l. RanInPart db c.args.texts.now c.args.address.now c.args.count (g.H.Outside.linking c.args.host.now) l (g.H.Outside.writing c.args.host.now) (g.H.Outside.writing c.listen.new.host)) (sym c.in-Ok.ensures.docked)
    (unheard-short db c.args.texts.now c.args.address.now c.args.count (g.H.Outside.linking c.args.host.now) (g.H.Outside.writing c.args.host.now) (g.H.Outside.writing c.listen.new.host)
    (all-written (g.H.Outside.writing c.args.host.now).written (g.H.Outside.writing c.listen.new.host).written listening c.in-Ok.ensures.written) c.in-Ok.ensures.faults))
