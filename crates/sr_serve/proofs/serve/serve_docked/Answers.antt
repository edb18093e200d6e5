use Rattle.std.proofs.Common.{◌≡◌, ◌∙◌, Bool, true, false, arith, sym, subst, rules}
use Rattle.std.proofs.lemmas.Result.{IfOk-weaker, on_err_weaker}
use Rattle.sr_serve.specs.ServerEnds.{IsEnd}
use Rattle.sr_server.specs.Servers.{Gives}
use Rattle.sr_talk.specs.Rounds.{EndsBy, EndsInPart, HasPeers}
use Rattle.sr_talk.specs.declared.rounds.Ending.TheVariants.{Unwritten}
use Rattle.sr_serve.specs.Execs.{ExecutesAs}
use Rattle.sr_serve.specs.Runs.{Ran, RanInPart}
use Rattle.sr_serve.proofs.RunLemmas.{unexecuted, unexecuted-short, ended-by, ended-short, end-after}
use Rattle.sr_talk.proofs.MoveLemmas.{so-in-err}
use Rattle.sr_serve.proofs.serve.serve_docked.Goals as goal

pub exec_all-requires-clause-stands : goal.exec_all-requires-clause-stands
exec_all-requires-clause-stands g c =
    let stands = c.requires.stands in
    (stands.0, stands.1.server)

pub returns-then-not-branch-clause-ran : goal.returns-then-not-branch-clause-ran
returns-then-not-branch-clause-ran g c = λ db is address old before docked heard same.
    let link = c.exec_all.ensures.linking_stays ∙ docked in
    let none : c.in_ok-exec_all.field-0 ≡ false = search rules in
    let part = subst (λ all. ExecutesAs all db c.args.texts.now (g.H.Outside.writing c.args.host.now) (g.H.Outside.writing c.exec_all.new.sink) c.exec_all.new.server) none
    (c.in_ok-exec_all.ensures.done db is.server) in
    subst (λ l. Ran db c.args.texts.now address c.args.count Unwritten old l before (g.H.Outside.writing c.exec_all.new.sink)) (sym link)
    (unexecuted db c.args.texts.now address c.args.count old before (g.H.Outside.writing c.args.host.now) (g.H.Outside.writing c.exec_all.new.sink) heard same part.0 part.1)

pub returns-in_err-exec_all-clause-in_part : goal.returns-in_err-exec_all-clause-in_part
returns-in_err-exec_all-clause-in_part g c = λ db is address old before docked heard same.
    so-in-err c.from_residual.result
    (subst (λ l. RanInPart db c.args.texts.now address c.args.count old l before (g.H.Outside.writing c.exec_all.new.sink)) (sym (c.exec_all.ensures.linking_stays ∙ docked))
    (unexecuted-short db c.args.texts.now address c.args.count old before (g.H.Outside.writing c.args.host.now) (g.H.Outside.writing c.exec_all.new.sink) heard same (c.in_err-exec_all.ensures.in_part db is.server)))

pub serve_some-requires : goal.serve_some-requires
serve_some-requires g c =
    let stands = c.requires.stands in
    let all : c.in_ok-exec_all.field-0 ≡ true = search rules in
    let done = subst (λ all. ExecutesAs all stands.0 c.args.texts.now (g.H.Outside.writing c.args.host.now) (g.H.Outside.writing c.exec_all.new.sink) c.exec_all.new.server) all
    (c.in_ok-exec_all.ensures.done stands.0 stands.1.server) in
    let new = c.requires.new in
    let few = c.requires.texts in
    let grows = c.exec_all.ensures.grows in
    record {
      stands = (done.last, end-after stands.0 done.last c.args.end.now c.exec_all.new.server stands.1 done.stands c.exec_all.ensures.sessions);
      room = omega (arith, new, few, grows);
    }

pub returns-clause-ran : goal.returns-clause-ran
returns-clause-ran g c = λ db is address old before docked heard same.
    let link = c.exec_all.ensures.linking_stays ∙ docked in
    let all : c.in_ok-exec_all.field-0 ≡ true = search rules in
    let done = subst (λ all. ExecutesAs all db c.args.texts.now (g.H.Outside.writing c.args.host.now) (g.H.Outside.writing c.exec_all.new.sink) c.exec_all.new.server) all
    (c.in_ok-exec_all.ensures.done db is.server) in
    IfOk-weaker c.serve_some.result _ _
    (λ ending e.
    ended-by db c.args.texts.now address c.args.count old (g.H.Outside.linking c.serve_some.new.host) before (g.H.Outside.writing c.args.host.now)
    (g.H.Outside.writing c.exec_all.new.sink) (g.H.Outside.writing c.serve_some.new.host) c.exec_all.new.server heard same
    done c.serve_some.new.server ending (subst (λ l. EndsBy Gives ending done.last c.args.count l (g.H.Outside.linking c.serve_some.new.host) (g.H.Outside.writing c.exec_all.new.sink)
    (g.H.Outside.writing c.serve_some.new.host) (IsEnd c.serve_some.new.server)) link e))
    (c.serve_some.ensures.ending done.last (end-after db done.last c.args.end.now c.exec_all.new.server is done.stands c.exec_all.ensures.sessions))

not_both : (all : Bool) → all ≡ false → all ≡ true → ⊥
not_both true none every = absurd (cc)
not_both false none every = absurd (cc)

pub returns-then-not-branch-clause-steady_writes : goal.returns-then-not-branch-clause-steady_writes
returns-then-not-branch-clause-steady_writes g c steady =
    let none : c.in_ok-exec_all.field-0 ≡ false = search rules in
    absurd (not_both c.in_ok-exec_all.field-0 none (c.in_ok-exec_all.ensures.steady_writes steady))

pub returns-clause-steady_writes : goal.returns-clause-steady_writes
returns-clause-steady_writes g c steady = c.serve_some.ensures.steady_writes (c.exec_all.ensures.stays.stays_steady steady)

pub returns-clause-steady_links : goal.returns-clause-steady_links
returns-clause-steady_links g c steady enough =
    c.serve_some.ensures.steady_links (c.exec_all.ensures.stays.stays_steady steady) (subst (HasPeers c.args.count) (sym c.exec_all.ensures.linking_stays) enough)

pub returns-clause-in_part : goal.returns-clause-in_part
returns-clause-in_part g c = λ db is address old before docked heard same.
    let link = c.exec_all.ensures.linking_stays ∙ docked in
    let all : c.in_ok-exec_all.field-0 ≡ true = search rules in
    let done = subst (λ all. ExecutesAs all db c.args.texts.now (g.H.Outside.writing c.args.host.now) (g.H.Outside.writing c.exec_all.new.sink) c.exec_all.new.server) all
    (c.in_ok-exec_all.ensures.done db is.server) in
    on_err_weaker c.serve_some.result
    (λ e.
    ended-short db c.args.texts.now address c.args.count old (g.H.Outside.linking c.serve_some.new.host) before (g.H.Outside.writing c.args.host.now)
    (g.H.Outside.writing c.exec_all.new.sink) (g.H.Outside.writing c.serve_some.new.host) c.exec_all.new.server heard same
    done c.serve_some.new.server (subst (λ l. EndsInPart Gives done.last c.args.count l (g.H.Outside.linking c.serve_some.new.host) (g.H.Outside.writing c.exec_all.new.sink)
    (g.H.Outside.writing c.serve_some.new.host)) link e))
    (c.serve_some.ensures.in_part done.last (end-after db done.last c.args.end.now c.exec_all.new.server is done.stands c.exec_all.ensures.sessions))
