-- What holds of each scene of a replay.
use Rattle.std.specs.Prelude.{List}
use Rattle.std.specs.List.{All}
use Rattle.sr_cell.specs.declared.table.Table.{Table}
use Rattle.sr_model.specs.Statements.{Tables}
use Rattle.sr_session.specs.Headline.{KeepsToBudgets}
use Rattle.sr_session.specs.Scenes.{Scene, basis_of}
use Rattle.sr_runs.specs.Headline.{Leads}
use Rattle.sr_world.specs.declared.world.Options.{Options}
use Rattle.sr_world.specs.declared.world.World.{World}
use Rattle.sr_world.specs.Replay.{start}
use Rattle.sr_world.specs.Worlds.{Represents}

-- In each scene on the way from the first one to one that a world stands for, no client has more rows or classes than its budgets.
abbrev pub ReplaysKeepToBudgets : Type 0
ReplaysKeepToBudgets = (options : Options) (schema : List Table) (tables : Tables) (mid last : Scene) (kept : World)
    → Leads (start options schema tables) mid → Leads mid last → Represents kept last
    → All (λ pair. KeepsToBudgets (basis_of mid) pair.client) mid.pairs
