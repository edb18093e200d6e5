-- How a query would be answered from regions, and in which order these would be dropped.
use Rattle.std.specs.Prelude.{ℕ, true, false, ◌==◌, List, [], ◌∷◌, length, Option, Some, None, ◌≡◌, ◌⊎◌, if◌then◌else◌}
use Rattle.std.specs.List.{list_all}
use Rattle.sr_cell.specs.declared.table.Column.{Column}
use Rattle.sr_cell.specs.declared.table.Table.{Table}
use Rattle.sr_box.specs.Points.{Rect, rect_fits}
use Rattle.sr_union.specs.Pieces.{IsMeet}
use Rattle.sr_message.specs.declared.message.AskPart.{AskPart}
use Rattle.sr_model.specs.Queries.{Query}
use Rattle.sr_policy.specs.declared.policy.Policy.{Policy}
use Rattle.sr_policy.specs.declared.policy.Last.{Last}
use Rattle.sr_query.specs.declared.query.Part.{Part}
use Rattle.sr_region.specs.declared.region.Region.{Region}
use Rattle.sr_store.specs.Stores.{serves}
use Rattle.sr_store.specs.Fitted.{IsFirstOut, without}
use Rattle.sr_explain.specs.declared.explanation.ProbeView.{ProbeView}
use Rattle.sr_explain.specs.declared.explanation.ExplainPart.{ExplainPart}
use Rattle.sr_explain.specs.declared.explanation.Explanation.{Explanation}
use Rattle.sr_explain.specs.declared.explanation.Victim.{Victim}
use Rattle.sr_explain.specs.Explained as explain
use Rattle.sr_explain.specs.Explained.{count_in}
use Rattle.sr_session.specs.Sessions.{Database, tables_of}
use Rattle.sr_session.specs.Clients as session
use Rattle.sr_session.specs.Bases.{basis_of}
use Rattle.sr_client.specs.declared.client.Client.{Client}
use Rattle.sr_client.specs.Stands.{StandsOver}

-- ---- probes

-- the rects are those that a region and a part have in common
abbrev pub IsCommon : Part → Region → List Rect → Type 0
IsCommon part g rects = (columns : List Column) → IsMeet columns part.rects g.rects rects

-- the region does not serve the part, or has nothing in common with it
abbrev pub IsAway : Part → Region → Type 0
IsAway part g = (serves part g ≡ false) ⊎ IsCommon part g []

-- what a region that serves the part has in common with it
pub record IsProbeOf (part : Part) (g : Region) (probe : ProbeView) : Type 0 where
  pub serves : serves part g ≡ true
  pub attrs : probe.attrs ≡ g.attrs
  pub stamp : probe.stamp ≡ g.stamp
  pub some : probe.rects ≡ [] → ⊥
  pub common : IsCommon part g probe.rects
  pub fits : (columns : List Column) → list_all (rect_fits columns) part.rects ≡ true → list_all (rect_fits columns) g.rects ≡ true → list_all (rect_fits columns) probe.rects ≡ true

-- a probe of each region that is not away, in their order
pub data AreProbes (part : Part) : List Region → List ProbeView → Type 0 where
  nothing : AreProbes part [] []
  away : (g : Region) (regions : List Region) (probes : List ProbeView) → IsAway part g → AreProbes part regions probes → AreProbes part (g ∷ regions) probes
  probed : (g : Region) (regions : List Region) (probe : ProbeView) (probes : List ProbeView) → IsProbeOf part g probe → AreProbes part regions probes
      → AreProbes part (g ∷ regions) (probe ∷ probes)

-- ---- a part

-- the entry for the table, if there is one
abbrev pub entry_for : ℕ → List AskPart → Option AskPart
entry_for table [] = None
entry_for table (ask ∷ asks) = if ask.table == table then Some ask else entry_for table asks

-- what this entry asks, if there is one
abbrev pub IsRestIn : Option AskPart → ℕ → List Rect → Type 0
IsRestIn None attrs rest = rest ≡ []
IsRestIn (Some ask) attrs rest = (attrs ≡ ask.attrs) × (rest ≡ ask.rects)

-- the part, where these regions are probed and these entries asked
pub record IsExplained (regions : List Region) (asks : List AskPart) (part : Part) (e : ExplainPart) : Type 0 where
  pub table : e.table ≡ part.table
  pub need : e.need ≡ part.need
  pub probes : AreProbes part regions e.probes
  pub rest : IsRestIn (entry_for part.table asks) e.attrs e.rest

-- ---- victims

abbrev pub victim_of : Region → Victim
victim_of g = record { table = g.table; attrs = g.attrs; stamp = g.stamp; rows = length g.rows }

-- all regions, each of which is the first out once those before it are
abbrev pub Fall : List Table → Policy → List Last → List Region → List Victim → Type 0
Fall schema policy last regions [] = regions ≡ []
Fall schema policy last regions (v ∷ victims) =
    (number : ℕ) × (g : Region) × IsFirstOut schema policy last regions number g × (v ≡ victim_of g) × Fall schema policy last (without number regions) victims

-- ---- a query

-- For every database and past that the client stands over, the explanation is that of the rules.
abbrev pub Explains : Client → Query → Explanation → Type 0
Explains c meaning e =
    (db : Database) (past : session.Client) → StandsOver db past c
    → explain.Explains (basis_of db c.store.limits) (count_in (tables_of db past.version) past.marks past.queries) past meaning e
