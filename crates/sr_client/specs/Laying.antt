-- What is laid by, message by message.
use Rattle.std.specs.Prelude.{List, [], Some}
use Rattle.std.specs.List.{All}
use Rattle.sr_cell.specs.declared.table.Table.{Table}
use Rattle.sr_message.specs.declared.message.Message.{Message}
use Rattle.sr_message.specs.declared.message.Message.TheVariants.{Notice}
use Rattle.sr_store.specs.Noticed.{IsTellOf}
use Rattle.sr_session.specs.Regions.{after_messages}
use Rattle.sr_client.specs.declared.client.AskOut.{AskOut}
use Rattle.sr_client.specs.declared.client.Client.{Client}
use Rattle.sr_client.specs.declared.client.Request.TheVariants as request

-- what is told is of tables of the schema
abbrev pub TellsRows : List Table → Message → Type 0
TellsRows schema (Notice version told) = All (IsTellOf schema) told
TellsRows schema other = Unit {0}

-- the client with that ask out
abbrev pub asking : Client → AskOut → Client
asking c o = record c { out = Some (request.Ask o) }

-- the client once what was laid by is applied
abbrev pub with_brought : Client → Client
with_brought c = record c { laid = []; store = record c.store { regions = after_messages c.laid c.store.regions } }
