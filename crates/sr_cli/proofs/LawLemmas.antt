-- A client's run over an honest link.
use Rattle.std.proofs.Common.{◌≡◌, ℕ, true, false, List, Option, None, sym, subst, ◌∙◌}
use Rattle.sr_calls.specs.ClientEnds.{End}
use Rattle.sr_calls.specs.Runs.{new_past}
use Rattle.sr_calls.proofs.HonestLemmas.{new-honest-runs-are-true, scripts-are-asked-for}
use Rattle.sr_calls.proofs.StartedLemmas.{started-runs-are-true}
use Rattle.sr_cell.specs.declared.table.Table.{Table}
use Rattle.sr_dial.specs.Calls.{Do, Task, all_done}
use Rattle.sr_dial.specs.Following.{Ahead}
use Rattle.sr_dial_laws.specs.Honest.{IsAskedFor}
use Rattle.sr_dial.specs.declared.parts.Answer.{Answer}
use Rattle.sr_keyset.proofs.Asking.{files-ask-for-none}
use Rattle.sr_keyset.proofs.Right.{key-sets-are-right}
use Rattle.sr_links.specs.Honest.{server_at_last}
use Rattle.sr_links.specs.Steps.{Resumed}
use Rattle.sr_links.proofs.DatabaseLemmas.{last-more}
use Rattle.sr_plan.specs.Plans.{AllTasks, Next, Plan}
use Rattle.sr_report.proofs.Right.{reports-ask}
use Rattle.sr_report.proofs.Telling.{reports-are-right}
use Rattle.sr_words.specs.declared.command.ClientKind.{ClientKind}
use Rattle.sr_words.specs.declared.command.ClientKind.TheVariants as kind
use Rattle.sr_cli.specs.Kinds.{AsksFor, AsksLines, keeps_of}
use Rattle.sr_cli.specs.Laws.{GroupsAreRight, JoinsAreRight, RunsAreTrue, WarmRunsAreTrue, calls_of}

-- ---- no task is to take a message

asks-same : (ahead : Ahead) (plan : Plan Task Answer) → ((answer : Option Answer) → ahead answer ≡ plan) → AllTasks IsAskedFor (ahead None) → AllTasks IsAskedFor (Next 0 (Do Resumed) ahead)
asks-same ahead plan same none = (tt, λ answer. subst (AllTasks IsAskedFor) (same None ∙ sym (same answer)) none)

lines-ask : (id : ℕ) (schema script : List ℕ) (tables : List Table) (ahead : Ahead) → AsksLines id schema script tables ahead → AllTasks IsAskedFor (Next 0 (Do Resumed) ahead)
lines-ask id schema script tables ahead asks =
    subst (λ (a : Ahead). AllTasks IsAskedFor (Next 0 (Do Resumed) a)) (sym asks.ahead_is) (scripts-are-asked-for tables asks.lines asks.tasks asks.are)

kinds-ask : (k : ClientKind) (id : ℕ) (schema script : List ℕ) (tables : List Table) (ahead : Ahead) → AsksFor k id schema script tables ahead → AllTasks IsAskedFor (Next 0 (Do Resumed) ahead)
kinds-ask kind.Client id schema script tables ahead asks = lines-ask id schema script tables ahead asks
kinds-ask kind.Report id schema script tables ahead asks = asks-same ahead _ asks.ahead_is (reports-ask id schema script tables ahead asks)
kinds-ask kind.Semi id schema script tables ahead asks = asks-same ahead _ asks.ahead_is (files-ask-for-none id schema script tables ahead asks)

-- ---- over an honest link

pub runs-are-true : {H : Type 0} (IsSteady : H → Type 0) → RunsAreTrue IsSteady
runs-are-true {H} IsSteady host schema script words ending old new before after s pieces ends honest =
    new-honest-runs-are-true words.id words.address ends.tables words.limits (keeps_of words.kind) true s pieces (Next 0 (Do Resumed) ends.ahead) ending old new before after
    (kinds-ask words.kind words.id schema script ends.tables ends.ahead ends.asks) ends.ran.run honest

pub joins-are-right : {H : Type 0} (IsSteady : H → Type 0) → JoinsAreRight IsSteady
joins-are-right {H} IsSteady host schema script words ending old new before after s pieces semi ends honest =
    let ran = ends.ran.run.ran.run.ran in
    key-sets-are-right {C = End} (keeps_of words.kind) (server_at_last s pieces).database words.limits new_past (all_done (calls_of ends)) words.id schema script ends.tables ends.ahead
    (subst (λ k. AsksFor k words.id schema script ends.tables ends.ahead) semi ends.asks) ((last-more s pieces honest.some).grows.schema ∙ honest.schema_is) honest.sound ran.in_place ran.goes
    (runs-are-true IsSteady host schema script words ending old new before after s pieces ends honest).steps

pub groups-are-right : {H : Type 0} (IsSteady : H → Type 0) → GroupsAreRight IsSteady
groups-are-right {H} IsSteady host schema script words ending old new before after s pieces report ends honest =
    let ran = ends.ran.run.ran.run.ran in
    reports-are-right {C = End} (keeps_of words.kind) (server_at_last s pieces).database words.limits new_past (all_done (calls_of ends)) words.id schema script ends.tables ends.ahead
    (subst (λ k. AsksFor k words.id schema script ends.tables ends.ahead) report ends.asks) ran.in_place ran.goes
    (runs-are-true IsSteady host schema script words ending old new before after s pieces ends honest).steps

pub warm-runs-are-true : {H : Type 0} (IsSteady : H → Type 0) → WarmRunsAreTrue IsSteady
warm-runs-are-true {H} IsSteady host schema script words tables ahead bytes ending old new before after s pieces asks warms image honest =
    let starts = warms.starts in
    started-runs-are-true words.id starts.image.version words.address tables words.limits false true starts.image.kept starts.marks starts.client warms.left s pieces
    (Next 0 (Do Resumed) ahead) ending old new warms.middle after starts.is image (lines-ask words.id schema script tables ahead asks) warms.ran.to honest
