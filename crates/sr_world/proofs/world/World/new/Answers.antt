use Rattle.std.proofs.Common.{refl, false}
use Rattle.sr_world.specs.declared.world.World.{World}
use Rattle.sr_world.proofs.NewLemmas.{is-first}
use Rattle.sr_world.proofs.world.World.new.Goals as goal

pub seats_of-requires-clause-stands : goal.seats_of-requires-clause-stands
seats_of-requires-clause-stands c =
    (c.args.tables.schema, c.args.tables.rows, is-first c.in_ok-server.server c.args.tables c.args.options.log c.in_ok-server.ensures.tables c.in_ok-server.ensures.stands)

pub returns-clause-stands : goal.returns-clause-stands
returns-clause-stands c =
    let is = is-first c.in_ok-server.server c.args.tables c.args.options.log c.in_ok-server.ensures.tables c.in_ok-server.ensures.stands in
    let world : World = record { server = c.seats_of.new.server; seats = c.in_ok-seats.seats; eager = c.args.options.eager; spent = false } in
    c.in_ok-seats.ensures.stands c.args.tables.schema c.args.tables.rows is world refl refl refl
