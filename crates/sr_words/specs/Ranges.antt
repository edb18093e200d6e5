-- The ranges of the numbers that words say.
use Rattle.std.specs.Prelude.{◌≡◌, ◌≤◌}
use Rattle.sr_policy.specs.declared.policy.Limits.{Limits}
use Rattle.sr_words.specs.declared.command.Command.{Command}
use Rattle.sr_words.specs.declared.command.Command.TheVariants.{Replay, Client, Save, Warm, Serve, Explain, Generate}
use Rattle.sr_words.specs.declared.command.ClientKind.TheVariants as kind
use Rattle.sr_words.specs.declared.command.ClientWords.{ClientWords}
use Rattle.sr_words.specs.declared.command.Setup.{Setup}

-- a client keeps at most 200,000 rows and 1,024 regions
pub record AreLimits (limits : Limits) : Type 0 where
  pub rows : limits.rows ≤ 200000
  pub regions : limits.regions ≤ 1024

-- there are 1 to 8 clients, and the log keeps at most 500,000 changes
pub record IsSetup (setup : Setup) : Type 0 where
  pub limits : AreLimits setup.limits
  pub log : setup.log ≤ 500000
  pub some_client : 1 ≤ setup.clients
  pub few_clients : setup.clients ≤ 8

-- and so are those of a client, which has a number from 1 to 64
abbrev pub IsClient : ClientWords → Type 0
IsClient words = AreLimits words.limits × (1 ≤ words.id) × (words.id ≤ 64)

-- of the kind that does what each line asks
abbrev pub IsPlain : ClientWords → Type 0
IsPlain words = IsClient words × (words.kind ≡ kind.Client)

-- the numbers of a command are in their ranges
abbrev pub IsInRange : Command → Type 0
IsInRange (Replay words) = IsSetup words.setup
IsInRange (Client words) = IsClient words
IsInRange (Save words) = IsPlain words
IsInRange (Warm words) = IsPlain words.client
IsInRange (Serve words) = (words.log ≤ 500000) × (1 ≤ words.count) × (words.count ≤ 1000000)
IsInRange (Explain words) = IsSetup words.setup
IsInRange (Generate words) = (1 ≤ words.events) × (words.events ≤ 100000)
