use Rattle.std.proofs.Common.{◌∙◌, ap, Ok, Err, ◌+◌}
use Rattle.std.specs.Prelude.{decimal, codes, ◌∷◌, []}
use Rattle.std.proofs.lemmas.Result.{IfOk-weaker}
use Rattle.sr_script.specs.TraceText.{ended}
use Rattle.sr_server.proofs.Entries.{newest-is}
use Rattle.sr_serve.proofs.ExecLemmas.{executes-there, roomy-stands}
use Rattle.sr_serve.proofs.exec.exec_one.Goals as goal

pub returns-in-Ok-clause-done : goal.returns-in-Ok-clause-done
returns-in-Ok-clause-done c db is =
    let old = c.args.server.now in
    IfOk-weaker c.version_line.result _ _
    (λ line line_is. record {
      result = Ok c.exec_text.new.self.tables.rows;
      executes = executes-there old db c.args.text.now (Ok c.exec_text.new.self.tables.rows) is c.in-Ok.ensures.done;
      line_is = line_is ∙ ap (λ n. ended (codes "exec" ∷ codes "version" ∷ decimal n ∷ [])) (c.in-Ok.ensures.version ∙ ap (λ n. n + 1) (newest-is db old.log is.knows.log));
      stands = c.in-Ok.ensures.stands db is;
    })
    c.version_line.ensures

pub returns-in-Err-Refused-clause-done : goal.returns-in-Err-Refused-clause-done
returns-in-Err-Refused-clause-done c db is =
    let old = c.args.server.now in
    IfOk-weaker c.refused_line.result _ _
    (λ line line_is. record {
      result = Err c.in-Err-Refused.fault;
      executes = executes-there old db c.args.text.now (Err c.in-Err-Refused.fault) is (c.in-Err-Refused.ensures.refused c.in-Err-Refused.fault (ap Err c.in-Err-Refused.field-0-is));
      line_is = line_is;
      stands = roomy-stands old c.exec_text.new.self db is c.in-Err-Refused.ensures.unchanged;
    })
    c.refused_line.ensures
