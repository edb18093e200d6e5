-- A request that is no ask ends, and what was laid by is applied.
use Rattle.std.specs.Prelude.{ℕ, Bool, true, false, ◌≡◌, List, [], map, None}
use Rattle.sr_cell.specs.declared.cause.Cause.TheVariants.{Lapsed}
use Rattle.sr_history.specs.declared.mark.Mark.{Mark}
use Rattle.sr_region.specs.declared.region.Region.{Region}
use Rattle.sr_store.specs.Fitted.{IsFitted}
use Rattle.sr_store.specs.Stores.{drop_of}
use Rattle.sr_session.specs.Regions.{after_messages}
use Rattle.sr_session.specs.Walks.{has_lapse}
use Rattle.sr_session.specs.Rules.{cause_afresh}
use Rattle.sr_client.specs.declared.client.Client.{Client}

-- the client once its request has ended at that version, with these regions
abbrev pub settled_at : Client → ℕ → List Region → Client
settled_at c version regions = record c { version = version; out = None; laid = []; store = record c.store { regions = regions } }

-- After a Lapse all regions are dropped, else those that the limits demand.
abbrev pub SettlesTo : Bool → Client → List Mark → List Region → Type 0
SettlesTo true c marks regions = (regions ≡ []) × (marks ≡ map (drop_of Lapsed) c.store.regions)
SettlesTo false c marks regions = IsFitted c.schema c.store.limits c.store.last (after_messages c.laid c.store.regions) regions marks

-- What is kept is as above; else all regions are dropped.
abbrev pub WelcomesTo : Bool → Client → List Mark → List Region → Type 0
WelcomesTo true c marks regions = SettlesTo (has_lapse c.laid) c marks regions
WelcomesTo false c marks regions = (regions ≡ []) × (marks ≡ map (drop_of (cause_afresh (has_lapse c.laid))) c.store.regions)
