-- What the files of a client ask for, where its joins are run by key sets.
use Rattle.std.specs.Prelude.{◌≡◌, ℕ, List, [], Option, Some, None}
use Rattle.sr_cell.specs.Clients.{most_clients}
use Rattle.sr_cell.specs.declared.fault.Fault.{Fault}
use Rattle.sr_cell.specs.declared.table.Table.{Table}
use Rattle.sr_dial.specs.Following.{Ahead}
use Rattle.sr_dial.specs.declared.parts.Answer.{Answer}
use Rattle.sr_keyset.specs.declared.set_up.SetUp.{SetUp}
use Rattle.sr_keyset.specs.Follows.{Follows}
use Rattle.sr_keyset.specs.Lines.{words_in}
use Rattle.sr_keyset.specs.Plans.{AreSaid, Said, key_set_plan}
use Rattle.sr_lines.specs.Creates.{Creates}
use Rattle.sr_lines.specs.Lines.{lines_of}
use Rattle.sr_lines.specs.Script.{FirstRefused, LinePlace}
use Rattle.sr_setup.specs.ClientFiles.{client_outside}

-- No line is outside the grammar, the CREATE lines make the tables, and this is the plan of the script, by what texts say.
pub record AsksKeySets (id : ℕ) (schema script : List ℕ) (tables : List Table) (ahead : Ahead) : Type 0 where
  pub inside : client_outside id schema script ≡ None
  pub created : Creates most_clients [] (lines_of schema) tables
  pub accepts : (n : ℕ) (fault : Fault) → ¬ FirstRefused most_clients 1 [] (lines_of schema) n fault
  pub said : Said
  pub says : AreSaid said
  pub ahead_is : (answer : Option Answer) → ahead answer ≡ key_set_plan tables said (words_in script)

-- and the code follows it
abbrev pub AreSetUp : ℕ → List ℕ → List ℕ → SetUp → Type 0
AreSetUp id schema script s = (ahead : Ahead) × AsksKeySets id schema script s.schema ahead × Follows s.schema s.plans ahead

-- the first line that is outside the grammar of its file
abbrev pub IsOutside : ℕ → List ℕ → List ℕ → LinePlace → Type 0
IsOutside id schema script at = client_outside id schema script ≡ Some at
