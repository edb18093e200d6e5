use Rattle.std.proofs.Common.{rules, refl, Ok, ◌∷◌, []}
use Rattle.sr_client.proofs.Results.{if_ok}
use Rattle.sr_lines.specs.Events.{DoExec}
use Rattle.sr_query.specs.Written.{write_of}
use Rattle.sr_runs.specs.Runs.{Acts}
use Rattle.sr_script.specs.declared.line.TraceLine.TheVariants as line
use Rattle.sr_world.specs.declared.world.World.{World}
use Rattle.sr_world.specs.Worlds.{Goes}
use Rattle.sr_world.proofs.EventLemmas.{exec-done, exec-draws, exec-refused}
use Rattle.sr_world.proofs.world.World.carry_out.Goals as goal

pub returns-in-Ok-clause-acts : goal.returns-in-Ok-clause-acts
returns-in-Ok-clause-acts c =
    let old = c.args.self.now in
    let new : World = record old { server = c.exec.new.self } in
    if_ok (Goes (λ s. Acts s (DoExec (Ok (write_of c.args.write)))) old new) c.one_line.result (line.ExecVersion c.in-Ok.version ∷ []) c.one_line.ensures
    (exec-done old new (write_of c.args.write) c.in-Ok.version c.in-Ok.ensures.done c.in-Ok.ensures.version c.in-Ok.ensures.stands c.exec.ensures.sessions refl refl)

pub returns-in-Err-Refused-clause-acts : goal.returns-in-Err-Refused-clause-acts
returns-in-Err-Refused-clause-acts c =
    let old = c.args.self.now in
    let new : World = record old { server = c.exec.new.self } in
    if_ok (Goes (λ s. Acts s (DoExec (Ok (write_of c.args.write)))) old new) c.one_line-in-Err-Refused.result (line.ExecRefused c.in-Err-Refused.fault ∷ []) c.one_line-in-Err-Refused.ensures
    (exec-refused old new (write_of c.args.write) c.in-Err-Refused.fault (c.exec.ensures.refused c.in-Err-Refused.fault (search rules)) (search rules) refl refl)

pub returns-in-Ok-clause-drawn : goal.returns-in-Ok-clause-drawn
returns-in-Ok-clause-drawn c = exec-draws c.args.self.now c.exec.new.self c.one_line.result c.requires.world c.in-Ok.ensures.stands
