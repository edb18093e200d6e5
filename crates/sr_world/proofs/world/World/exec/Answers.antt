use Rattle.std.proofs.Common.{sym, subst, IsTrue}
use Rattle.std.specs.Prelude.{IfOk}
use Rattle.std.proofs.lemmas.Bool.{and_parts}
use Rattle.sr_lines.specs.Events.{DoExec}
use Rattle.sr_reader.specs.Read.{statement_fits, statement_of}
use Rattle.sr_runs.specs.Runs.{Acts}
use Rattle.sr_world.specs.Worlds.{Goes}
use Rattle.sr_world.proofs.StepLemmas.{refuses-exec}
use Rattle.sr_world.proofs.world.World.exec.Goals as goal

pub returns-in-Err-clause-acts : goal.returns-in-Err-clause-acts
returns-in-Err-clause-acts c = refuses-exec c.args.self.now c.args.statement c.in-Err.fault c.one_line.result c.in-Err.is c.one_line.ensures

pub carry_out-requires-clause-suits : goal.carry_out-requires-clause-suits
carry_out-requires-clause-suits c = (and_parts _ _ (subst (λ s. IsTrue (statement_fits c.args.self.now.server.tables.schema s)) c.in-Ok.is c.requires.fits)).0

pub returns-in-Ok-clause-acts : goal.returns-in-Ok-clause-acts
returns-in-Ok-clause-acts c =
    subst (λ st. IfOk c.carry_out.result (Goes (λ s. Acts s (DoExec (statement_of st))) c.args.self.now c.carry_out.new.self)) (sym c.in-Ok.is) c.carry_out.ensures.acts
