-- What a client sends: requests of its own that suit the schema and the format, and the first message of a session.
use Rattle.std.specs.Prelude.{ℕ, ◌≤◌, true, ◌≡◌, List, [], ◌∷◌, map}
use Rattle.sr_cell.specs.declared.table.Table.{Table}
use Rattle.sr_message.specs.declared.message.Message.{Message}
use Rattle.sr_message.specs.declared.message.Message.TheVariants.{Hello, Resume}
use Rattle.sr_wire.specs.Limits.{IsSendable}
use Rattle.sr_region.specs.declared.region.Region.{Region}
use Rattle.sr_session.specs.Refusals.{is_request_of}
use Rattle.sr_session.specs.Resumable.{region_holding}
use Rattle.sr_client.specs.declared.client.Client.{Client}
use Rattle.sr_client.specs.declared.steps.QueryStep.{QueryStep}
use Rattle.sr_client.specs.declared.steps.QueryStep.TheVariants as query
use Rattle.sr_client.specs.declared.steps.Took.{Took}
use Rattle.sr_client.specs.declared.steps.Took.TheVariants as took
use Rattle.sr_client.specs.declared.steps.WriteStep.{WriteStep}
use Rattle.sr_client.specs.declared.steps.WriteStep.TheVariants as write
use Rattle.sr_client.specs.declared.steps.ResumeStep.{ResumeStep}
use Rattle.sr_client.specs.declared.steps.ResumeStep.TheVariants as resume

-- ---- each message that a step sends

-- a request of the client of that number, which suits the schema, and which the format takes
pub record IsWellSent (schema : List Table) (client : ℕ) (m : Message) : Type 0 where
  pub request : is_request_of schema client m ≡ true
  pub sendable : IsSendable m

abbrev pub QuerySendsWell : List Table → ℕ → QueryStep → Type 0
QuerySendsWell schema client (query.Asked number request message marks) = IsWellSent schema client message
QuerySendsWell schema client other = Unit {0}

abbrev pub TookSendsWell : List Table → ℕ → Took → Type 0
TookSendsWell schema client (took.Asked request message marks) = IsWellSent schema client message
TookSendsWell schema client other = Unit {0}

abbrev pub WriteSendsWell : List Table → ℕ → WriteStep → Type 0
WriteSendsWell schema client (write.Sent request message) = IsWellSent schema client message
WriteSendsWell schema client other = Unit {0}

abbrev pub ResumeSendsWell : List Table → ℕ → ResumeStep → Type 0
ResumeSendsWell schema client (resume.Sent request message) = IsWellSent schema client message
ResumeSendsWell schema client other = Unit {0}

-- The format has numbers for the client, and room for all regions that it may hold.
pub record IsOfFormat (c : Client) : Type 0 where
  pub first : 1 ≤ c.id
  pub last : c.id ≤ 64
  pub regions : c.store.limits.regions ≤ 1024

-- ---- the first message of a session

-- a Hello where there are no regions, or a Resume of the version with the points of them all, under their columns
abbrev pub first_of : Client → List Region → Message
first_of c [] = Hello 2 c.id c.next_request
first_of c (region ∷ regions) = Resume 2 c.id c.next_request c.version (map region_holding (region ∷ regions))

-- what is sent, if anything is, is the first message of the client's next session
abbrev pub SendsFirst : Client → ResumeStep → Type 0
SendsFirst c (resume.Sent request message) = message ≡ first_of c c.store.regions
SendsFirst c resume.Up = Unit {0}
