-- Which query a deed is about.
use Rattle.std.specs.Prelude.{Option, Some, None, Ok}
use Rattle.sr_model.specs.Queries.{Query}
use Rattle.sr_session.specs.Walks.{Request, AskOut, WriteOut, ResumeOut}
use Rattle.sr_session.specs.Clients.{Client}
use Rattle.sr_links.specs.Steps.{Deed, Queried, Took}

-- the query that is answered, or asked for, where this happens
abbrev pub query_out : Option Request → Option Query
query_out None = None
query_out (Some (AskOut number query meaning fresh parts)) = Some meaning
query_out (Some (WriteOut number)) = None
query_out (Some (ResumeOut number)) = None

abbrev pub query_of : Deed → Client → Option Query
query_of (Queried (Ok q)) c = Some q
query_of (Took m) c = query_out c.out
query_of other c = None
