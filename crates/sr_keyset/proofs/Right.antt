-- Over true steps what is written for joins is right.
use Rattle.std.proofs.Common.{ℕ, List, sym, subst}
use Rattle.sr_answers.specs.Answers.{IsTold}
use Rattle.sr_answers.specs.Texts.{SaysSuch}
use Rattle.sr_answers.proofs.Saying.{such-are-said}
use Rattle.sr_cell.specs.Clients.{most_clients}
use Rattle.sr_cell.specs.declared.table.Table.{Table}
use Rattle.sr_dial.specs.Calls.{Task}
use Rattle.sr_dial.specs.declared.parts.Answer.{Answer}
use Rattle.sr_keyset.specs.Laws.{IsRightText, KeySetsAreRight}
use Rattle.sr_keyset.specs.Lines.{words_in}
use Rattle.sr_keyset.specs.Plans.{key_set_plan}
use Rattle.sr_keyset.proofs.Answering.{what-is-written-is-right}
use Rattle.sr_keyset.proofs.Created.{created-is-schema, versions-fit}
use Rattle.sr_lines.specs.Lines.{lines_of}
use Rattle.sr_plan.specs.Plans.{AllTasksIf, Plan}
use Rattle.sr_semi.specs.Answers.{TheyFit}
use Rattle.sr_session.specs.Sessions.{tables_of}

pub key-sets-are-right : {C : Type 0} → KeySetsAreRight C
key-sets-are-right {C} keeps db limits c ds id schema script tables ahead asks same sound here goes truly =
    let fit : (version : ℕ) → TheyFit tables (tables_of db version) = λ version. subst (λ (s : List Table). TheyFit s (tables_of db version)) same (versions-fit db sound version) in
    let all : AllTasksIf (IsTold db) (SaysSuch (IsRightText tables db (words_in script))) (key_set_plan tables asks.said (words_in script)) =
    what-is-written-is-right tables asks.said db (words_in script) asks.says (created-is-schema most_clients (lines_of schema) tables asks.created) fit in
    such-are-said (IsRightText tables db (words_in script)) keeps db limits tables c ds ahead
    (λ answer. subst (λ (p : Plan Task Answer). AllTasksIf (IsTold db) (SaysSuch (IsRightText tables db (words_in script))) p) (sym (asks.ahead_is answer)) all) here goes truly
