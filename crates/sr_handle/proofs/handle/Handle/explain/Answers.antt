use Rattle.std.proofs.Common.{ℕ, List, subst}
use Rattle.std.proofs.lemmas.Result.{IfOk-weaker}
use Rattle.sr_handle.specs.Handles.{Explained, KeepsLines}
use Rattle.sr_handle.specs.Seats.{ExplainsAs}
use Rattle.sr_handle.proofs.handle.Handle.explain.Goals as goal

pub returns-in-Ok : goal.returns-in-Ok
returns-in-Ok c =
    let old = c.args.self.now in
    let explains = subst (λ (t : List ℕ). ExplainsAs old.seat t c.in-Ok.explained) c.in_ok-text.ensures c.in-Ok.ensures.explains in
    record {
      explained = IfOk-weaker c.keep_lines.result (KeepsLines old c.in-Ok.explained c.keep_lines.new.self) (Explained old c.args.sql.now c.keep_lines.new.self)
          (λ what keeps. (c.in-Ok.explained, explains, keeps)) c.keep_lines.ensures.kept;
    }
