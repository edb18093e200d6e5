-- What a client does with texts.
use Rattle.std.specs.Prelude.{ℕ, ◌≡◌, ◌<◌, ◌≤◌, List, length, Result, Ok, Err}
use Rattle.sr_cell.specs.declared.fault.Fault.{Fault}
use Rattle.sr_cell.specs.declared.table.Table.{Table}
use Rattle.sr_lines.specs.Script.{AsksOf}
use Rattle.sr_model.specs.Queries.{Query}
use Rattle.sr_explain.specs.declared.explanation.Explanation.{Explanation}
use Rattle.sr_session.specs.Texts.{most_text, long_text}
use Rattle.sr_client.specs.declared.client.Client.{Client}
use Rattle.sr_client.specs.declared.steps.QueryStep.{QueryStep}
use Rattle.sr_client.specs.declared.steps.WriteStep.{WriteStep}
use Rattle.sr_client.specs.declared.steps.WriteStep.TheVariants.{Sql}
use Rattle.sr_client.specs.Explaining.{Explains}
use Rattle.sr_client.specs.Sends.{QuerySendsWell}
use Rattle.sr_client.specs.Steps.{Queries, Writes}

-- The text of a query is refused, and nothing changes; or the client takes a step with what the text means.
abbrev pub AsksAs : Client → List ℕ → Client → Result QueryStep Fault → Type 0
AsksAs old sql new (Err fault) = AsksOf old.schema sql (Err fault) × (new ≡ old)
AsksAs old sql new (Ok step) = (meaning : Query) × AsksOf old.schema sql (Ok meaning) × Queries old meaning new step

-- It is refused, or explained by what the text means.
abbrev pub ExplainsAs : Client → List ℕ → Result Explanation Fault → Type 0
ExplainsAs c sql (Err fault) = AsksOf c.schema sql (Err fault)
ExplainsAs c sql (Ok explanation) = (meaning : Query) × AsksOf c.schema sql (Ok meaning) × Explains c meaning explanation

-- The text of a write is too long, and nothing changes; or the client takes a step with it.
pub record WritesAs (old : Client) (sql : List ℕ) (new : Client) (step : WriteStep) : Type 0 where
  pub too_long : most_text < length sql → (step ≡ Sql long_text) × (new ≡ old)
  pub writes : length sql ≤ most_text → Writes old sql new step

-- what is sent, if anything is, suits the schema and the format
abbrev pub AskedSendsWell : List Table → ℕ → Result QueryStep Fault → Type 0
AskedSendsWell schema client (Err fault) = Unit {0}
AskedSendsWell schema client (Ok step) = QuerySendsWell schema client step
