-- In each scene of a replay the clients keep to their budgets: the tables of its versions are those of the last scene, which are sound.
use Rattle.std.proofs.Common.{List}
use Rattle.sr_session.specs.Headline.{IsReached}
use Rattle.sr_session.specs.Laws.{HasTables}
use Rattle.sr_session.specs.Scenes.{Event, Report, Scene, SceneStands, done, next}
use Rattle.sr_session.specs.Scenes.{Runs as EventsRun}
use Rattle.sr_session.proofs.BudgetLemmas.{caches-keep-to-their-budgets, grows, tables-before}
use Rattle.sr_session.proofs.EventLemmas.{events-keep}
use Rattle.sr_session.proofs.ReachLemmas.{reached-stands}
use Rattle.sr_world.specs.Budgets.{ReplaysKeepToBudgets}
use Rattle.sr_world.proofs.Sound.{sound-of}

runs-earlier : (s : Scene) (events : List Event) (reports : List Report) (last : Scene) → SceneStands s → EventsRun s events reports last → HasTables last.database
    → HasTables s.database
runs-earlier s events reports last stands (done a) tables = tables
runs-earlier s events reports last stands (next a event report mid left told end happens rest) tables =
    tables-before s.database mid.database stands.some (grows s mid event report happens)
    (runs-earlier mid left told last (events-keep s mid event report stands happens) rest tables)

pub replays-keep-to-budgets : ReplaysKeepToBudgets
replays-keep-to-budgets options schema tables mid last kept before behind is =
    let reached : IsReached mid =
    record { limits = options.limits; schema = schema; log_limit = options.log; tables = tables; clients = options.clients; events = before.0; reports = before.1; runs = before.2 } in
    caches-keep-to-their-budgets mid reached
    (runs-earlier mid behind.0 behind.1 last (reached-stands mid reached) behind.2 (sound-of last.database is.server.sound).tables)
