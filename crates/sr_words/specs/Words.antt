-- What the words of the program say.
use Rattle.std.specs.Prelude.{ℕ, ◌+◌, ◌==◌, ◌&&◌, ◌||◌, Bool, false, nat_le, List, [], ◌∷◌, take, drop, length, Option, Some, None, option_map, option_and_then, unwrap_or, codes, if◌then◌else◌}
use Rattle.std.specs.Char.{is_ascii_digit}
use Rattle.std.specs.List.{position, list_all}
use Rattle.std.specs.Str.{bytes_eq}
use Rattle.std.specs.Str.Parse.{digits_value}
use Rattle.clap.specs.Walk.{Row, all_of, first_of}
use Rattle.sr_policy.specs.declared.policy.Limits.{Limits}
use Rattle.sr_policy.specs.declared.policy.Policy.{Policy}
use Rattle.sr_policy.specs.declared.policy.Policy.TheVariants.{Recency, Distance}
use Rattle.sr_words.specs.Forms.{rows_in, replay_form, client_form, warm_form, serve_form, explain_form, generate_form}
use Rattle.sr_words.specs.declared.command.Command.{Command}
use Rattle.sr_words.specs.declared.command.Command.TheVariants.{Replay, Client, Save, Warm, Serve, Explain, Generate}
use Rattle.sr_words.specs.declared.command.Setup.{Setup}
use Rattle.sr_words.specs.declared.command.LoadWord.{LoadWord}
use Rattle.sr_words.specs.declared.command.ReplayWords.{ReplayWords}
use Rattle.sr_words.specs.declared.command.ClientKind.{ClientKind}
use Rattle.sr_words.specs.declared.command.ClientKind.TheVariants as kind
use Rattle.sr_words.specs.declared.command.ClientWords.{ClientWords}
use Rattle.sr_words.specs.declared.command.WarmWords.{WarmWords}
use Rattle.sr_words.specs.declared.command.ServeWords.{ServeWords}
use Rattle.sr_words.specs.declared.command.ExplainWords.{ExplainWords}
use Rattle.sr_words.specs.declared.command.GenerateWords.{GenerateWords}

infixl 10 ◌>>=◌
abbrev ◌>>=◌ : {A B : Type 0} → Option A → (A → Option B) → Option B
said >>= next = option_and_then next said

-- ---- values

-- one to twenty digits
abbrev pub are_digits : List ℕ → Bool
are_digits word = nat_le 1 (length word) && nat_le (length word) 20 && list_all is_ascii_digit word

-- the number that the word writes, if it is between these
abbrev pub number_of : ℕ → ℕ → List ℕ → Option ℕ
number_of least most word =
    let number = digits_value 10 word in
    if are_digits word && nat_le least number && nat_le number most then Some number else None

-- the number that is said; where none is, the default
abbrev pub number_or : ℕ → ℕ → ℕ → Option (List ℕ) → Option ℕ
number_or default least most None = Some default
number_or default least most (Some word) = number_of least most word

-- the number that has to be said
abbrev pub number_in : ℕ → ℕ → Option (List ℕ) → Option ℕ
number_in least most None = None
number_in least most (Some word) = number_of least most word

-- the policy that is said; where none is, recency
abbrev pub policy_of : Option (List ℕ) → Option Policy
policy_of None = Some Recency
policy_of (Some word) =
    if bytes_eq word (codes "recency") then Some Recency else (if bytes_eq word (codes "distance") then Some Distance else None)

-- whether a flag is said
abbrev pub is_said : Option (List ℕ) → Bool
is_said None = false
is_said (Some word) = bytes_eq word (codes "true")

-- the word cut at this place, where the `=` stands
abbrev pub cut_at : List ℕ → Option ℕ → Option LoadWord
cut_at word None = None
cut_at word (Some at) =
    if at == 0 || length word == at + 1 then None else Some (record { table = take at word; file = drop (at + 1) word })

-- a word is cut at its first `=`, and neither side is empty
abbrev pub cut_word : List ℕ → Option LoadWord
cut_word word = cut_at word (position (λ b. b == 61) word)

abbrev pub with_load : Option LoadWord → Option (List LoadWord) → Option (List LoadWord)
with_load None loads = None
with_load (Some load) None = None
with_load (Some load) (Some loads) = Some (load ∷ loads)

-- each word says a load
abbrev pub load_words : List (List ℕ) → Option (List LoadWord)
load_words [] = Some []
load_words (word ∷ words) = with_load (cut_word word) (load_words words)

-- ---- commands

-- Without the options, a client keeps 10,000 rows and 64 regions, and drops by recency.
abbrev pub limits_of : List Row → Option Limits
limits_of found = do
  rows ← number_or 10000 0 200000 (first_of (codes "rows") found)
  regions ← number_or 64 0 1024 (first_of (codes "regions") found)
  policy ← policy_of (first_of (codes "policy") found)
  Some (record { rows = rows; regions = regions; policy = policy })

-- Without the option, the log keeps 100,000 changes.
abbrev pub log_of : List Row → Option ℕ
log_of found = number_or 100000 0 500000 (first_of (codes "log") found)

-- Without the option, there is one client.
abbrev pub setup_of : List Row → Option Setup
setup_of found = do
  limits ← limits_of found
  log ← log_of found
  clients ← number_or 1 1 8 (first_of (codes "clients") found)
  Some (record { eager = is_said (first_of (codes "eager") found); limits = limits; log = log; clients = clients })

abbrev pub loads_of : List Row → Option (List LoadWord)
loads_of found = load_words (unwrap_or (all_of (codes "loads") found) [])

abbrev pub replay_of : List Row → Option ReplayWords
replay_of found = do
  setup ← setup_of found
  script ← first_of (codes "file") found
  loads ← loads_of found
  Some (record { setup = setup; script = script; loads = loads })

abbrev pub client_of : ClientKind → List Row → Option ClientWords
client_of kind found = do
  limits ← limits_of found
  id ← number_in 1 64 (first_of (codes "id") found)
  schema ← first_of (codes "schema") found
  address ← first_of (codes "address") found
  script ← first_of (codes "file") found
  Some (record { kind = kind; limits = limits; id = id; schema = schema; address = address; script = script })

abbrev pub serve_of : List Row → Option ServeWords
serve_of found = do
  log ← log_of found
  schema ← first_of (codes "schema") found
  address ← first_of (codes "address") found
  count ← number_in 1 1000000 (first_of (codes "count") found)
  loads ← loads_of found
  Some (record { log = log; exec = first_of (codes "exec") found; schema = schema; address = address; count = count; loads = loads })

abbrev pub explain_of : List Row → Option ExplainWords
explain_of found = do
  setup ← setup_of found
  script ← first_of (codes "file") found
  sql ← first_of (codes "sql") found
  Some (record { setup = setup; script = script; sql = sql })

abbrev pub generate_of : List Row → Option GenerateWords
generate_of found = do
  seed ← number_in 0 18446744073709551615 (first_of (codes "seed") found)
  events ← number_in 1 100000 (first_of (codes "events") found)
  Some (record { whole_script = is_said (first_of (codes "script") found); seed = seed; events = events })

abbrev pub replay_words : List (List ℕ) → Option ReplayWords
replay_words words = rows_in replay_form words >>= replay_of

-- the kind of client that a name asks for
abbrev pub kind_of : List ℕ → Option ClientKind
kind_of name =
    if bytes_eq name (codes "client") then Some kind.Client
    else (if bytes_eq name (codes "report") then Some kind.Report
    else (if bytes_eq name (codes "semi") then Some kind.Semi else None))

abbrev pub client_words : List ℕ → ClientKind → List (List ℕ) → Option ClientWords
client_words name kind words = rows_in (client_form name) words >>= client_of kind

-- All kinds have the words of `client`.
abbrev pub kind_words : List ℕ → List (List ℕ) → Option ClientWords
kind_words name words = do
  kind ← kind_of name
  client_words name kind words

-- `save` has the words of `client`, and `warm` has one more
abbrev pub save_words : List (List ℕ) → Option ClientWords
save_words words = client_words (codes "save") kind.Client words

abbrev pub warm_of : List Row → Option WarmWords
warm_of found = do
  client ← client_of kind.Client found
  image ← first_of (codes "image") found
  Some (record { client = client; image = image })

abbrev pub warm_words : List (List ℕ) → Option WarmWords
warm_words words = rows_in warm_form words >>= warm_of

abbrev pub serve_words : List (List ℕ) → Option ServeWords
serve_words words = rows_in serve_form words >>= serve_of

abbrev pub explain_words : List (List ℕ) → Option ExplainWords
explain_words words = rows_in explain_form words >>= explain_of

abbrev pub generate_words : List (List ℕ) → Option GenerateWords
generate_words words = rows_in generate_form words >>= generate_of

-- what the words ask for by the name of a command
abbrev pub command_by : List ℕ → List (List ℕ) → Option Command
command_by name words =
    if bytes_eq name (codes "replay") then option_map Replay (replay_words words)
    else (if bytes_eq name (codes "serve") then option_map Serve (serve_words words)
    else (if bytes_eq name (codes "explain") then option_map Explain (explain_words words)
    else (if bytes_eq name (codes "generate") then option_map Generate (generate_words words)
    else (if bytes_eq name (codes "save") then option_map Save (save_words words)
    else (if bytes_eq name (codes "warm") then option_map Warm (warm_words words)
    else option_map Client (kind_words name words))))))

-- What the words ask for: the first of them names the command, and all are in its form. Other words ask for nothing.
unfoldable pub command_of : List (List ℕ) → Option Command
command_of [] = None
command_of (name ∷ words) = command_by name (name ∷ words)
