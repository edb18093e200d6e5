-- What a client keeps to by itself, on any link.
use Rattle.std.specs.Prelude.{ℕ, List, [], ◌≡◌, Option, Some, None, Result}
use Rattle.sr_cell.specs.declared.fault.Fault.{Fault}
use Rattle.sr_cell.specs.declared.table.Table.{Table}
use Rattle.sr_message.specs.declared.message.Message.{Message}
use Rattle.sr_model.specs.Queries.{Query}
use Rattle.sr_session.specs.Walks.{Request, AreLaid}
use Rattle.sr_session.specs.Clients.{Client, IsOut}
use Rattle.sr_session.specs.Rules.{Basis, Outcome, QueryStep, TakeStep, EvictStep, WriteStep, CutStep, ResumeStep}

abbrev pub IsTidyWith : List Table → Client → Option Request → Type 0
IsTidyWith schema c None = c.laid ≡ []
IsTidyWith schema c (Some request) = IsOut schema c request × AreLaid c.laid

-- Either what is out asks the rest of the newest query, or is no ask, and what is laid by may be; or nothing is out, and nothing laid by.
abbrev pub IsTidy : List Table → Client → Type 0
IsTidy schema c = IsTidyWith schema c c.out

-- whatever a client does, or is sent
pub data ClientStep (b : Basis) (c : Client) : Outcome → Client → Type 0 where
  by_query : (text : Result Query Fault) (o : Outcome) (new : Client) → QueryStep b c text o new → ClientStep b c o new
  by_message : (m : Message) (o : Outcome) (new : Client) → TakeStep b c m o new → ClientStep b c o new
  by_eviction : (place : ℕ) (o : Outcome) (new : Client) → EvictStep b place c o new → ClientStep b c o new
  by_write : (sql : List ℕ) (o : Outcome) (new : Client) → WriteStep sql c o new → ClientStep b c o new
  by_cut : (o : Outcome) (new : Client) → CutStep c o new → ClientStep b c o new
  by_resume : (o : Outcome) (new : Client) → c.out ≡ None → ResumeStep b.schema c o new → ClientStep b c o new

-- Each step keeps a client tidy, whatever comes.
abbrev pub RulesKeepTidy : Type 0
RulesKeepTidy = (b : Basis) (c new : Client) (o : Outcome) → IsTidy b.schema c → ClientStep b c o new → IsTidy b.schema new
