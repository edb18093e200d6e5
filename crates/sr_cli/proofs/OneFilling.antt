-- Files fill tables in one way.
use Rattle.std.proofs.Common.{◌≡◌, List, Ok, Err, sym, subst, ◌∙◌}
use Rattle.sr_cell.specs.declared.table.Table.{Table}
use Rattle.sr_load.specs.Filling.{filled}
use Rattle.sr_load.specs.declared.fill.Load.{Load}
use Rattle.sr_load.specs.declared.fill.LoadFault.{LoadFault}
use Rattle.sr_model.specs.Statements.{Tables}
use Rattle.sr_tables.specs.Stored.{no_rows}

-- none of them is refused where they filled the tables
pub filled_once : (schema tables : List Table) (loads : List Load) (rows : Tables) (fault : LoadFault) → schema ≡ tables
    → filled tables loads (no_rows tables) ≡ Ok rows → filled schema loads (no_rows schema) ≡ Err fault → ⊥
filled_once schema tables loads rows fault same loaded refuses =
    let e : filled tables loads (no_rows tables) ≡ Err fault = subst (λ ts. filled ts loads (no_rows ts) ≡ Err fault) same refuses in
    let f : Ok rows ≡ Err fault = sym loaded ∙ e in
    cc
