use Rattle.std.proofs.Common.{List}
use Rattle.sr_cell.specs.declared.table.Table.{Table}
use Rattle.sr_model.specs.Statements.{Tables}
use Rattle.sr_server.specs.Servers.{IsServer, first_database}
use Rattle.sr_world.proofs.NewLemmas.{IsBegun}
use Rattle.sr_world.proofs.world.seats_of.Given as goal

abbrev pub invariant-clients : goal.invariant-clients
invariant-clients l = (schema : List Table) (tables : Tables) → IsServer l.initial.server (first_database schema l.fn.options.log tables)
    → IsBegun l.fn.options.limits schema l.fn.options.log tables l.place l.server l.seats.items
