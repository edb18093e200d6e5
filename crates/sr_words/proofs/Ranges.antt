-- The numbers of a command are in their ranges.
use Rattle.std.proofs.Common.{◌≡◌, ℕ, ◌≤◌, Bool, true, false, List, [], ◌∷◌, Option, Some, None, refl, sym, ap, subst, codes, arith}
use Rattle.std.specs.Prelude.{◌&&◌, nat_le, option_and_then, option_map, if◌then◌else◌, Result, Ok, Err, IfOk}
use Rattle.std.specs.Str.{bytes_eq}
use Rattle.std.specs.Str.Parse.{digits_value}
use Rattle.std.proofs.lemmas.Bool.{and_parts}
use Rattle.std.proofs.lemmas.Bool.Decides.{nat_tests}
use Rattle.clap.specs.Walk.{Row, first_of}
use Rattle.sr_policy.specs.declared.policy.Limits.{Limits}
use Rattle.sr_words.specs.declared.command.Command.{Command}
use Rattle.sr_words.specs.declared.command.Command.TheVariants.{Replay, Client, Save, Warm, Serve, Explain, Generate}
use Rattle.sr_words.specs.declared.command.Setup.{Setup}
use Rattle.sr_words.specs.declared.command.ReplayWords.{ReplayWords}
use Rattle.sr_words.specs.declared.command.ClientKind.{ClientKind}
use Rattle.sr_words.specs.declared.command.ClientKind.TheVariants as kind
use Rattle.sr_words.specs.declared.command.ClientWords.{ClientWords}
use Rattle.sr_words.specs.declared.command.WarmWords.{WarmWords}
use Rattle.sr_words.specs.declared.command.ServeWords.{ServeWords}
use Rattle.sr_words.specs.declared.command.ExplainWords.{ExplainWords}
use Rattle.sr_words.specs.declared.command.GenerateWords.{GenerateWords}
use Rattle.sr_words.specs.Forms.{rows_in, replay_form, client_form, warm_form, serve_form, explain_form, generate_form}
use Rattle.sr_words.specs.Words.{are_digits, number_of, number_or, number_in, policy_of, loads_of, limits_of, log_of, setup_of, replay_of, client_of, warm_of, serve_of, explain_of, generate_of, replay_words, client_words, kind_of, kind_words, save_words, warm_words, serve_words, explain_words, generate_words, command_by, command_of}
use Rattle.sr_words.specs.Ranges.{AreLimits, IsSetup, IsPlain, IsInRange}
use Rattle.sr_words.specs.Reads.{Reads}
use Rattle.sr_words.specs.declared.fault.WordsFault.{WordsFault}

-- what is said after something else
step : {A B : Type 0} (f : A → Option B) (o : Option A) (b : B) → option_and_then f o ≡ Some b → (a : A) × (o ≡ Some a) × (f a ≡ Some b)
step f None b is = absurd cc
step f (Some a) b is = (a, refl, is)

mapped : {A B : Type 0} (f : A → B) (o : Option A) (b : B) → option_map f o ≡ Some b → (a : A) × (o ≡ Some a) × (f a ≡ b)
mapped f None b is = absurd cc
mapped f (Some a) b is = let same : f a ≡ b = cc in (a, refl, same)

within : (least most : ℕ) (word : List ℕ) (n : ℕ) → number_of least most word ≡ Some n → (least ≤ n) × (n ≤ most)
within least most word n is = by (are_digits word && nat_le least (digits_value 10 word) && nat_le (digits_value 10 word) most) refl is
  where
    by : (b : Bool) → (are_digits word && nat_le least (digits_value 10 word) && nat_le (digits_value 10 word) most) ≡ b
        → (if b then Some (digits_value 10 word) else None) ≡ Some n → (least ≤ n) × (n ≤ most)
    by false e is = absurd cc
    by true e is =
        let same : digits_value 10 word ≡ n = cc in
        let parts = and_parts (are_digits word && nat_le least (digits_value 10 word)) (nat_le (digits_value 10 word) most) e in
        let low = (and_parts (are_digits word) (nat_le least (digits_value 10 word)) parts.0).1 in
        let high = parts.1 in
        (grind (arith, nat_tests, low, same), grind (arith, nat_tests, high, same))

within_or : (default least most : ℕ) (word : Option (List ℕ)) (n : ℕ) → least ≤ default → default ≤ most → number_or default least most word ≡ Some n → (least ≤ n) × (n ≤ most)
within_or default least most None n low high is = let same : default ≡ n = cc in (omega (arith, low, same), omega (arith, high, same))
within_or default least most (Some word) n low high is = within least most word n is

within_in : (least most : ℕ) (word : Option (List ℕ)) (n : ℕ) → number_in least most word ≡ Some n → (least ≤ n) × (n ≤ most)
within_in least most None n is = absurd cc
within_in least most (Some word) n is = within least most word n is

same : {A : Type 0} (a b : A) → Some a ≡ Some b → a ≡ b
same a b is = cc

limits : (found : List Row) (said : Limits) → limits_of found ≡ Some said → AreLimits said
limits found said is =
    let rows = step _ (number_or 10000 0 200000 (first_of (codes "rows") found)) said is in
    let regions = step _ (number_or 64 0 1024 (first_of (codes "regions") found)) said rows.2 in
    let policy = step _ (policy_of (first_of (codes "policy") found)) said regions.2 in
    subst AreLimits (same _ said policy.2) (record {
      rows = (within_or 10000 0 200000 (first_of (codes "rows") found) rows.0 (omega arith) (omega arith) rows.1).1;
      regions = (within_or 64 0 1024 (first_of (codes "regions") found) regions.0 (omega arith) (omega arith) regions.1).1;
    })

setup : (found : List Row) (said : Setup) → setup_of found ≡ Some said → IsSetup said
setup found said is =
    let kept = step _ (limits_of found) said is in
    let log = step _ (log_of found) said kept.2 in
    let clients = step _ (number_or 1 1 8 (first_of (codes "clients") found)) said log.2 in
    let range = within_or 1 1 8 (first_of (codes "clients") found) clients.0 (omega arith) (omega arith) clients.1 in
    subst IsSetup (same _ said clients.2) (record {
      limits = limits found kept.0 kept.1;
      log = (within_or 100000 0 500000 (first_of (codes "log") found) log.0 (omega arith) (omega arith) log.1).1;
      some_client = range.0;
      few_clients = range.1;
    })

replay : (found : List Row) (said : ReplayWords) → replay_of found ≡ Some said → IsInRange (Replay said)
replay found said is =
    let how = step _ (setup_of found) said is in
    let script = step _ (first_of (codes "file") found) said how.2 in
    let loads = step _ (loads_of found) said script.2 in
    subst (λ w. IsInRange (Replay w)) (same _ said loads.2) (setup found how.0 how.1)

client : (kind : ClientKind) (found : List Row) (said : ClientWords) → client_of kind found ≡ Some said → IsInRange (Client said)
client kind found said is =
    let kept = step _ (limits_of found) said is in
    let id = step _ (number_in 1 64 (first_of (codes "id") found)) said kept.2 in
    let schema = step _ (first_of (codes "schema") found) said id.2 in
    let address = step _ (first_of (codes "address") found) said schema.2 in
    let script = step _ (first_of (codes "file") found) said address.2 in
    let range = within_in 1 64 (first_of (codes "id") found) id.0 id.1 in
    subst (λ w. IsInRange (Client w)) (same _ said script.2) (limits found kept.0 kept.1, range.0, range.1)

serve : (found : List Row) (said : ServeWords) → serve_of found ≡ Some said → IsInRange (Serve said)
serve found said is =
    let log = step _ (log_of found) said is in
    let schema = step _ (first_of (codes "schema") found) said log.2 in
    let address = step _ (first_of (codes "address") found) said schema.2 in
    let count = step _ (number_in 1 1000000 (first_of (codes "count") found)) said address.2 in
    let loads = step _ (loads_of found) said count.2 in
    let range = within_in 1 1000000 (first_of (codes "count") found) count.0 count.1 in
    subst (λ w. IsInRange (Serve w)) (same _ said loads.2)
    ((within_or 100000 0 500000 (first_of (codes "log") found) log.0 (omega arith) (omega arith) log.1).1, range.0, range.1)

explain : (found : List Row) (said : ExplainWords) → explain_of found ≡ Some said → IsInRange (Explain said)
explain found said is =
    let how = step _ (setup_of found) said is in
    let script = step _ (first_of (codes "file") found) said how.2 in
    let sql = step _ (first_of (codes "sql") found) said script.2 in
    subst (λ w. IsInRange (Explain w)) (same _ said sql.2) (setup found how.0 how.1)

generate : (found : List Row) (said : GenerateWords) → generate_of found ≡ Some said → IsInRange (Generate said)
generate found said is =
    let seed = step _ (number_in 0 18446744073709551615 (first_of (codes "seed") found)) said is in
    let events = step _ (number_in 1 100000 (first_of (codes "events") found)) said seed.2 in
    let range = within_in 1 100000 (first_of (codes "events") found) events.0 events.1 in
    subst (λ w. IsInRange (Generate w)) (same _ said events.2) (range.0, range.1)

plain : (found : List Row) (said : ClientWords) → client_of kind.Client found ≡ Some said → IsPlain said
plain found said is =
    let kept = step _ (limits_of found) said is in
    let id = step _ (number_in 1 64 (first_of (codes "id") found)) said kept.2 in
    let schema = step _ (first_of (codes "schema") found) said id.2 in
    let address = step _ (first_of (codes "address") found) said schema.2 in
    let script = step _ (first_of (codes "file") found) said address.2 in
    let own : kind.Client ≡ said.kind = ap (λ (w : ClientWords). w.kind) (same _ said script.2) in
    (client kind.Client found said is, sym own)

save : (found : List Row) (said : ClientWords) → client_of kind.Client found ≡ Some said → IsInRange (Save said)
save found said is = plain found said is

warm : (found : List Row) (said : WarmWords) → warm_of found ≡ Some said → IsInRange (Warm said)
warm found said is =
    let own = step _ (client_of kind.Client found) said is in
    let image = step _ (first_of (codes "image") found) said own.2 in
    subst (λ w. IsInRange (Warm w)) (same _ said image.2) (plain found own.0 own.1)

-- a command whose words are found in its form
of_form : {W : Type 0} (make : W → Command) (read : List Row → Option W) (found : Option (List Row)) (said : Command)
    → ((rows : List Row) (words : W) → read rows ≡ Some words → IsInRange (make words))
    → option_map make (option_and_then read found) ≡ Some said → IsInRange said
of_form make read found said fits is =
    let words = mapped make (option_and_then read found) said is in
    let rows = step read found words.0 words.1 in
    subst IsInRange words.2 (fits rows.0 words.0 rows.2)

-- a client, by the name of its kind
of_kind : (name : List ℕ) (words : List (List ℕ)) (said : Command) → option_map Client (kind_words name words) ≡ Some said → IsInRange said
of_kind name words said is =
    let read = mapped Client (kind_words name words) said is in
    let kind = step (λ kind. client_words name kind words) (kind_of name) read.0 read.1 in
    let rows = step (client_of kind.0) (rows_in (client_form name) words) read.0 kind.2 in
    subst IsInRange read.2 (client kind.0 rows.0 read.0 rows.2)

in_range_by : (name : List ℕ) (words : List (List ℕ)) (said : Command) → command_by name words ≡ Some said → IsInRange said
in_range_by name words said = by (bytes_eq name (codes "replay")) (bytes_eq name (codes "serve")) (bytes_eq name (codes "explain")) (bytes_eq name (codes "generate")) (bytes_eq name (codes "save")) (bytes_eq name (codes "warm"))
  where
    by : (r s e g v w : Bool)
        → (if r then option_map Replay (replay_words words)
        else (if s then option_map Serve (serve_words words)
        else (if e then option_map Explain (explain_words words)
        else (if g then option_map Generate (generate_words words)
        else (if v then option_map Save (save_words words)
        else (if w then option_map Warm (warm_words words)
        else option_map Client (kind_words name words))))))) ≡ Some said
        → IsInRange said
    by true s e g v w is = of_form Replay replay_of (rows_in replay_form words) said replay is
    by false true e g v w is = of_form Serve serve_of (rows_in serve_form words) said serve is
    by false false true g v w is = of_form Explain explain_of (rows_in explain_form words) said explain is
    by false false false true v w is = of_form Generate generate_of (rows_in generate_form words) said generate is
    by false false false false true w is = of_form Save (client_of kind.Client) (rows_in (client_form (codes "save")) words) said save is
    by false false false false false true is = of_form Warm warm_of (rows_in warm_form words) said warm is
    by false false false false false false is = of_kind name words said is

pub in_range : (words : List (List ℕ)) (said : Command) → command_of words ≡ Some said → IsInRange said
unfolding command_of
in_range [] said is = absurd cc
in_range (name ∷ words) said is = in_range_by name (name ∷ words) said is

-- what is read is in its range
pub read_in_range : (words : List (List ℕ)) (r : Result Command WordsFault) → Reads (command_of words) r → IfOk r IsInRange
read_in_range words (Ok said) reads = in_range words said reads
read_in_range words (Err fault) reads = tt
