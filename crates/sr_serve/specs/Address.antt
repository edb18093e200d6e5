-- Where the connections of a run come.
use Rattle.std.specs.Prelude.{◌≡◌, ℕ, List, ◌++◌}
use Rattle.sr_io.specs.Told.{AreAt, Connection, Linking, Writing, connections}
use Rattle.sr_session.specs.Sessions.{Database}
use Rattle.sr_talk.specs.declared.rounds.Ending.{Ending}
use Rattle.sr_serve.specs.Runs.{Ran}

-- those that a run makes come at the address that it is given
abbrev pub ComeAtTheAddress : Type 0
ComeAtTheAddress =
    (db : Database) (texts : List (List ℕ)) (address : List ℕ) (count : ℕ) (ending : Ending) (old new : Linking) (before after : Writing)
    (made : List Connection) → Ran db texts address count ending old new before after → connections new ≡ connections old ++ made → AreAt address made
