-- The versions that the lines of one client name never fall along a trace.
use Rattle.std.specs.Prelude.{ℕ, ◌≤◌, List, ◌∷◌, ◌++◌, ◌≡◌, Option, Some, None}
use Rattle.sr_script.specs.declared.line.TraceLine.{TraceLine}
use Rattle.sr_script.specs.declared.line.TraceLine.TheVariants as line
use Rattle.sr_session.specs.Scenes.{Scene}
use Rattle.sr_runs.specs.Headline.{IsScripted}

-- a client, and the version that it comes to
pub record Comes : Type 0 where
  pub client : ℕ
  pub version : ℕ

-- the client and the version that a line names: of an answer, of a notice or a Lapse that was applied, of a write, or of a new session
abbrev pub version_named : TraceLine → Option Comes
version_named (line.Answer n query version rows) = Some (record { client = n; version = version })
version_named (line.ClientApplied n version) = Some (record { client = n; version = version })
version_named (line.ClientForgot n version) = Some (record { client = n; version = version })
version_named (line.ClientWritten n request version) = Some (record { client = n; version = version })
version_named (line.ClientWelcome n version kept) = Some (record { client = n; version = version })
version_named other = None

-- Of two lines of one client that name a version, the later one in a trace names no lower one: so an answer is not below anything that its
-- client came to before.
abbrev pub NamedVersionsNeverFall : Type 0
NamedVersionsNeverFall = (last : Scene) (script : IsScripted last) (front between behind : List (ℕ × TraceLine)) (a b n v w : ℕ) (first later : TraceLine)
    → script.lines ≡ front ++ (a, first) ∷ (between ++ (b, later) ∷ behind)
    → version_named first ≡ Some (record { client = n; version = v }) → version_named later ≡ Some (record { client = n; version = w }) → v ≤ w
