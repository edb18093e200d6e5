-- An ask that is sent.
use Rattle.std.specs.Prelude.{◌≡◌, ◌+◌, List, Some}
use Rattle.sr_message.specs.declared.message.AskPart.{AskPart}
use Rattle.sr_message.specs.declared.message.Message.TheVariants.{Ask}
use Rattle.sr_query.specs.declared.query.Query.{Query}
use Rattle.sr_history.specs.declared.mark.Mark.{Mark}
use Rattle.sr_client.specs.Arriving.{is_empty}
use Rattle.sr_client.specs.declared.client.AskOut.{AskOut}
use Rattle.sr_client.specs.declared.client.Client.{Client}
use Rattle.sr_client.specs.declared.client.Request.TheVariants as request
use Rattle.sr_client.specs.declared.steps.QueryStep.{QueryStep}
use Rattle.sr_client.specs.declared.steps.QueryStep.TheVariants.{Asked}

-- the ask of these parts of a query, with the client's next numbers
abbrev pub next_ask : Client → Query → List AskPart → AskOut
next_ask c q asks = record { number = c.next_request; query_number = c.queries + 1; query = q; fresh = is_empty c.store.regions; parts = asks }

-- the client once the ask is out
abbrev pub with_out : Client → AskOut → Client
with_out c out = record c { queries = out.query_number; next_request = out.number + 1; out = Some (request.Ask out) }

-- what is told of it
abbrev pub asked_step : AskOut → List Mark → QueryStep
asked_step out drops = Asked out.query_number out.number (Ask out.number out.fresh out.parts) drops

-- The ask of these parts is out.
pub record IsSent (c : Client) (q : Query) (asks : List AskPart) (drops : List Mark) (new : Client) (step : QueryStep) : Type 0 where
  pub out : new ≡ with_out c (next_ask c q asks)
  pub told : step ≡ asked_step (next_ask c q asks) drops
