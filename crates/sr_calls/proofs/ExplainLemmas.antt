-- What a client explains is what the rules say of its past.
use Rattle.std.proofs.Common.{◌≡◌, ◌≤◌, ◌<◌, List, length, arith, refl, sym, subst, Result, Ok, Err}
use Rattle.std.specs.Prelude.{◌^◌}
use Rattle.sr_cell.specs.declared.fault.Fault.{Fault}
use Rattle.sr_model.specs.Queries.{Query}
use Rattle.sr_script.specs.declared.line.TraceLine.{TraceLine}
use Rattle.sr_session.specs.Clients as session
use Rattle.sr_client.specs.declared.client.Client.{Client}
use Rattle.sr_client.specs.Explaining.{Explains}
use Rattle.sr_explain.specs.declared.explanation.Explanation.{Explanation}
use Rattle.sr_explain.specs.Telling.{explain_lines}
use Rattle.sr_calls.specs.ClientEnds.{DidExplain, IsReady}

pub tells_why : (old : Client) (past : session.Client) (fault : Fault) (text : Result Query Fault) (lines : List TraceLine) → text ≡ Err fault → lines ≡ explain_lines old.id (Err fault) → DidExplain old past text lines
tells_why old past fault text lines refused are =
    subst (λ text. DidExplain old past text lines) (sym refused) (λ keeps says lent. record { result = Err fault; lines_are = are; fair = refl })

pub tells_how : (old : Client) (past : session.Client) (meaning : Query) (e : Explanation) (lines : List TraceLine) → Explains old meaning e → lines ≡ explain_lines old.id (Ok e) → DidExplain old past (Ok meaning) lines
tells_how old past meaning e lines does are = λ keeps says lent. record {
  result = Ok e;
  lines_are = are;
  fair = (e, refl, λ db sound within is. does db past (record { sound = sound; schema = is.0; within = within; client = is.1 }));
}

-- no more than the format has room for
pub few_victims : (old : Client) (e : Explanation) → IsReady old → length e.victims ≡ length old.store.regions → length e.victims < 2 ^ 32
few_victims old e ready all =
    let few = ready.0.1.few in
    let most = ready.1.regions in
    omega (arith, all, few, most)
