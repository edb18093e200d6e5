-- A client on any link, by what the frames brought.
use Rattle.sr_store.specs.Brought.{IsToldOf}
use Rattle.sr_store.specs.Told.{Told}
use Rattle.sr_session.specs.Brought.{told_basis}
use Rattle.sr_session.specs.Clients as session
use Rattle.sr_session.specs.Headline.{KeepsToBudgets}
use Rattle.sr_session.specs.Rules.{Basis}
use Rattle.sr_client.specs.Stands.{StandsFor}
use Rattle.sr_client.specs.declared.client.Client.{Client}

-- Whatever was told, if the client's regions have its rows: then they have those of what is told next, and by these rows the rule holds.
abbrev pub GoesByTold : Client → Client → (Told → Told) → (Basis → Type 0) → Type 0
GoesByTold old new next rule = (told : Told) → IsToldOf old.schema told old.store.regions
    → IsToldOf old.schema (next told) new.store.regions × rule (told_basis old.schema old.store.limits (next told))

-- By these rows it keeps to its budgets.
abbrev pub ClientsKeepToBudgets : Type 0
ClientsKeepToBudgets = (c : Client) (past : session.Client) (told : Told) → StandsFor past c → IsToldOf c.schema told c.store.regions
    → KeepsToBudgets (told_basis c.schema c.store.limits told) past
