use Rattle.std.proofs.Common.{ℕ, arith, subst, sym, ap, ◌∙◌, List}
use Rattle.sr_lines.specs.Events.{DoCut, DoEvict, DoExec, DoExplain, DoPush, DoQuery, DoResume, DoToClient, DoToServer, DoWrite}
use Rattle.sr_reader.specs.Read.{IsEvent, statement_of}
use Rattle.sr_runs.specs.Runs.{Acts}
use Rattle.sr_world.proofs.StepLemmas.{acts-does, looked-draws, potential-after, potential-light}
use Rattle.sr_world.proofs.world.World.event.Goals as goal
use Rattle.sr_world.proofs.WorldLemmas.{potential-within}

pub settle-requires-clause-room : goal.settle-requires-clause-room
settle-requires-clause-room c =
    let within = potential-within c.args.self.now c.requires.world.0 c.requires.world.1 in
    let room = c.requires.room in
    omega (arith, within, room)

pub returns-in-Settle-clause-drawn : goal.returns-in-Settle-clause-drawn
returns-in-Settle-clause-drawn c = potential-light c.args.self.now c.settle.new.self c.settle.result c.requires.world c.settle.ensures.lightens

pub returns-in-Exec-clause-does : goal.returns-in-Exec-clause-does
returns-in-Exec-clause-does c = λ what is.
    acts-does c.args.self.now c.exec.new.self what (DoExec (statement_of c.in-Exec.statement)) c.exec.result
    (subst (λ e. IsEvent c.args.self.now.server.tables.schema e what) c.in-Exec.is is) c.exec.ensures.acts

pub returns-in-Exec-clause-drawn : goal.returns-in-Exec-clause-drawn
returns-in-Exec-clause-drawn c = potential-after (λ s. Acts s (DoExec (statement_of c.in-Exec.statement))) c.args.self.now c.exec.new.self c.exec.result c.requires.world c.exec.ensures.acts c.exec.ensures.drawn

pub returns-in-Write-clause-does : goal.returns-in-Write-clause-does
returns-in-Write-clause-does c = λ what is.
    acts-does c.args.self.now c.write.new.self what (DoWrite c.in-Write.client c.as_str.result.now) c.write.result
    ((subst (λ e. IsEvent c.args.self.now.server.tables.schema e what) c.in-Write.is is) ∙ ap (λ (sql : List ℕ). DoWrite c.in-Write.client sql) (sym c.as_str.ensures)) c.write.ensures.acts

pub returns-in-Write-clause-drawn : goal.returns-in-Write-clause-drawn
returns-in-Write-clause-drawn c = potential-after (λ s. Acts s (DoWrite c.in-Write.client c.as_str.result.now)) c.args.self.now c.write.new.self c.write.result c.requires.world c.write.ensures.acts c.write.ensures.drawn

pub returns-in-Push-clause-does : goal.returns-in-Push-clause-does
returns-in-Push-clause-does c = λ what is.
    acts-does c.args.self.now c.push.new.self what (DoPush c.in-Push.client) c.push.result
    (subst (λ e. IsEvent c.args.self.now.server.tables.schema e what) c.in-Push.is is) c.push.ensures.acts

pub returns-in-Push-clause-drawn : goal.returns-in-Push-clause-drawn
returns-in-Push-clause-drawn c = potential-after (λ s. Acts s (DoPush c.in-Push.client)) c.args.self.now c.push.new.self c.push.result c.requires.world c.push.ensures.acts c.push.ensures.drawn

pub returns-in-Evict-clause-does : goal.returns-in-Evict-clause-does
returns-in-Evict-clause-does c = λ what is.
    acts-does c.args.self.now c.evict.new.self what (DoEvict c.in-Evict.client c.in-Evict.place) c.evict.result
    (subst (λ e. IsEvent c.args.self.now.server.tables.schema e what) c.in-Evict.is is) c.evict.ensures.acts

pub returns-in-Evict-clause-drawn : goal.returns-in-Evict-clause-drawn
returns-in-Evict-clause-drawn c = potential-after (λ s. Acts s (DoEvict c.in-Evict.client c.in-Evict.place)) c.args.self.now c.evict.new.self c.evict.result c.requires.world c.evict.ensures.acts c.evict.ensures.drawn

pub returns-in-Cut-clause-does : goal.returns-in-Cut-clause-does
returns-in-Cut-clause-does c = λ what is.
    acts-does c.args.self.now c.cut.new.self what (DoCut c.in-Cut.client) c.cut.result
    (subst (λ e. IsEvent c.args.self.now.server.tables.schema e what) c.in-Cut.is is) c.cut.ensures.acts

pub returns-in-Cut-clause-drawn : goal.returns-in-Cut-clause-drawn
returns-in-Cut-clause-drawn c = potential-after (λ s. Acts s (DoCut c.in-Cut.client)) c.args.self.now c.cut.new.self c.cut.result c.requires.world c.cut.ensures.acts c.cut.ensures.drawn

pub returns-in-Resume-clause-does : goal.returns-in-Resume-clause-does
returns-in-Resume-clause-does c = λ what is.
    acts-does c.args.self.now c.resume.new.self what (DoResume c.in-Resume.client) c.resume.result
    (subst (λ e. IsEvent c.args.self.now.server.tables.schema e what) c.in-Resume.is is) c.resume.ensures.acts

pub returns-in-Resume-clause-drawn : goal.returns-in-Resume-clause-drawn
returns-in-Resume-clause-drawn c = potential-after (λ s. Acts s (DoResume c.in-Resume.client)) c.args.self.now c.resume.new.self c.resume.result c.requires.world c.resume.ensures.acts c.resume.ensures.drawn

pub returns-in-ToServer-clause-does : goal.returns-in-ToServer-clause-does
returns-in-ToServer-clause-does c = λ what is.
    acts-does c.args.self.now c.to_server.new.self what (DoToServer c.in-ToServer.client) c.to_server.result
    (subst (λ e. IsEvent c.args.self.now.server.tables.schema e what) c.in-ToServer.is is) c.to_server.ensures.acts

pub returns-in-ToServer-clause-drawn : goal.returns-in-ToServer-clause-drawn
returns-in-ToServer-clause-drawn c = potential-light c.args.self.now c.to_server.new.self c.to_server.result c.requires.world c.to_server.ensures.lightens

pub returns-in-ToClient-clause-does : goal.returns-in-ToClient-clause-does
returns-in-ToClient-clause-does c = λ what is.
    acts-does c.args.self.now c.to_client.new.self what (DoToClient c.in-ToClient.client) c.to_client.result
    (subst (λ e. IsEvent c.args.self.now.server.tables.schema e what) c.in-ToClient.is is) c.to_client.ensures.acts

pub returns-in-ToClient-clause-drawn : goal.returns-in-ToClient-clause-drawn
returns-in-ToClient-clause-drawn c = potential-light c.args.self.now c.to_client.new.self c.to_client.result c.requires.world c.to_client.ensures.lightens

pub returns-in-Query-clause-does : goal.returns-in-Query-clause-does
returns-in-Query-clause-does c = λ what is.
    let m = subst (λ e. IsEvent c.args.self.now.server.tables.schema e what) c.in-Query.is is in
    acts-does c.args.self.now c.query.new.self what (DoQuery c.in-Query.client m.0) c.query.result m.2 (c.query.ensures.acts m.0 m.1)

pub returns-in-Query-clause-drawn : goal.returns-in-Query-clause-drawn
returns-in-Query-clause-drawn c =
    let m = subst (λ e. IsEvent c.args.self.now.server.tables.schema e c.requires.means.0) c.in-Query.is c.requires.means.1 in
    potential-after (λ s. Acts s (DoQuery c.in-Query.client m.0)) c.args.self.now c.query.new.self c.query.result c.requires.world (c.query.ensures.acts m.0 m.1) c.query.ensures.drawn

pub returns-in-Explain-clause-does : goal.returns-in-Explain-clause-does
returns-in-Explain-clause-does c = λ what is.
    let m = subst (λ e. IsEvent c.args.self.now.server.tables.schema e what) c.in-Explain.is is in
    acts-does c.args.self.now c.args.self.now what (DoExplain c.in-Explain.client m.0) c.explain.result m.2 (c.explain.ensures.acts m.0 m.1)

pub returns-in-Explain-clause-drawn : goal.returns-in-Explain-clause-drawn
returns-in-Explain-clause-drawn c =
    let m = subst (λ e. IsEvent c.args.self.now.server.tables.schema e c.requires.means.0) c.in-Explain.is c.requires.means.1 in
    potential-after (λ s. Acts s (DoExplain c.in-Explain.client m.0)) c.args.self.now c.args.self.now c.explain.result c.requires.world (c.explain.ensures.acts m.0 m.1) (looked-draws c.args.self.now c.explain.result)
