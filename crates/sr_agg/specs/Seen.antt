-- What the code knows of a bound query, and what it owes to the definitions.
use Rattle.std.specs.Prelude.{◌≡◌, ℕ, List, map, Result, Ok, Err}
use Rattle.sr_cell.specs.declared.fault.Fault.{Fault}
use Rattle.sr_cell.specs.declared.table.Table.{Table}
use Rattle.sr_grammar.specs.Says.{Says}
use Rattle.sr_grammar.specs.Trees.{Statement}
use Rattle.sr_model.specs.Queries as model
use Rattle.sr_cell.specs.declared.list.No.{No}
use Rattle.sr_cell.specs.declared.list.No.TheVariants.{Refused, NoMemory}
use Rattle.sr_query.specs.declared.query.Part.{Part}
use Rattle.sr_query.specs.declared.query.Query.{Query}
use Rattle.sr_query.specs.Bound.{output_of, IsQuery}
use Rattle.sr_agg.specs.declared.agg.AggFault.{AggFault}
use Rattle.sr_agg.specs.declared.agg.AggFault.TheVariants.{Sql}
use Rattle.sr_agg.specs.declared.agg.Bound.{Bound}
use Rattle.sr_agg.specs.declared.inner.Listing.{Listing}
use Rattle.sr_agg.specs.Starting.{Plan, Scope, asked_by}

abbrev pub scope_with : Query → Listing → Scope
scope_with q l = record {
  texts = l.texts;
  groups = l.groups;
  outputs = map output_of q.output;
  tables = map (λ (p : Part). p.table) q.parts;
}

abbrev pub scope_seen : Bound → Scope
scope_seen b = scope_with b.query.now b.listing.now

abbrev pub no_of : No Fault → No AggFault
no_of (Refused fault) = Refused (Sql fault)
no_of NoMemory = NoMemory

-- the query is what the text asks of the tables
abbrev pub IsAsked : List Table → List ℕ → Query → Type 0
IsAsked schema text q =
    (said : Result Statement Fault) × Says text said × (m : model.Query) × (asked_by schema said ≡ Ok m) × IsQuery schema q m

-- the text asks nothing of them, for this fault
abbrev pub IsUnasked : List Table → List ℕ → Fault → Type 0
IsUnasked schema text fault = (said : Result Statement Fault) × Says text said × (asked_by schema said ≡ Err fault)

-- What is answered is what is decided, but for want of memory.
abbrev pub Judges : Result Plan (No AggFault) → Result Plan AggFault → Type 0
Judges (Ok plan) decided = decided ≡ Ok plan
Judges (Err (Refused fault)) decided = decided ≡ Err fault
Judges (Err NoMemory) decided = Unit {0}
