-- Words of `client`, as `clap` finds them, and what they say.
use Rattle.std.specs.Prelude.{ℕ, List, [], ◌∷◌, Some, None, codes}
use Rattle.clap.specs.Walk.{Row}
use Rattle.clap.specs.declared.builder.value_parser.Reading.TheVariants.{AsWritten}
use Rattle.clap.specs.declared.parser.matches.ValueSource.TheVariants.{CommandLine}
use Rattle.sr_policy.specs.declared.policy.Policy.TheVariants.{Recency}
use Rattle.sr_words.specs.declared.command.ClientKind.TheVariants.{Client}
use Rattle.sr_words.specs.declared.command.ClientWords.{ClientWords}

abbrev pub found : List ℕ → List ℕ → Row
found name value = record { id = name; values = value ∷ []; count = None; source = Some CommandLine; reading = AsWritten }

-- `--id ID --schema s a f`
abbrev pub with_id : List ℕ → List Row
with_id id = found (codes "id") id ∷ found (codes "schema") (codes "s") ∷ found (codes "address") (codes "a") ∷ found (codes "file") (codes "f") ∷ []

-- a client of that number, with the budgets that it has where no option says them
abbrev pub client_numbered : ℕ → ClientWords
client_numbered id = record {
  kind = Client;
  limits = record { rows = 10000; regions = 64; policy = Recency };
  id = id;
  schema = codes "s";
  address = codes "a";
  script = codes "f";
}
