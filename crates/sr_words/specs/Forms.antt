-- The words of each command as `clap` sees them: options before, between or behind the other words, in any order.
use Rattle.std.specs.Prelude.{List, [], ◌∷◌, Option, Some, None, true, codes, if◌then◌else◌}
use Rattle.clap.specs.Lexer.{usize_max}
use Rattle.clap.specs.Walk.{Row, Rule, Text, is_empty}
use Rattle.clap.specs.Simple.{App, matches_of, new_rule, new_shape}
use Rattle.clap.specs.Faults.{fault_of}
use Rattle.clap.specs.declared.builder.action.ArgAction.TheVariants.{Set, Append, SetTrue}

-- `--name`
abbrev pub flag_rule : Text → Rule
flag_rule name = record (new_rule name) { long = Some name; action = Some SetTrue }

-- `--name VALUE` or `--name=VALUE`, at most once
abbrev pub option_rule : Text → Rule
option_rule name = record (new_rule name) { long = Some name; action = Some Set }

-- the same, exactly once
abbrev pub needed_rule : Text → Rule
needed_rule name = record (new_rule name) { long = Some name; action = Some Set; required = true }

-- a word that has to be there
abbrev pub word_rule : Text → Rule
word_rule name = record (new_rule name) { action = Some Set; required = true }

-- all words behind those
abbrev pub rest_rule : Text → Rule
rest_rule name = record (new_rule name) { action = Some Append; range = Some (record { start_inclusive = 0; end_inclusive = usize_max }) }

-- a command of this name, with these words and no option for help
abbrev pub form : Text → List Rule → App
form name rules = record { top = record (new_shape name) { disable_help_flag = true; rules = rules }; subs = [] }

-- what is found of the words, where they are in the form
unfoldable pub rows_in : App → List Text → Option (List Row)
rows_in app words = if is_empty (fault_of app words) then Some (matches_of app words) else None

-- ---- the commands

-- `replay [--eager] [--rows N] [--regions N] [--policy P] [--log N] [--clients N] FILE [TABLE=FILE ..]`
unfoldable pub replay_form : App
replay_form = form (codes "replay") (
    flag_rule (codes "eager")
    ∷ option_rule (codes "rows")
    ∷ option_rule (codes "regions")
    ∷ option_rule (codes "policy")
    ∷ option_rule (codes "log")
    ∷ option_rule (codes "clients")
    ∷ word_rule (codes "file")
    ∷ rest_rule (codes "loads")
    ∷ [])

-- `client [--rows N] [--regions N] [--policy P] --id C --schema FILE ADDRESS FILE`, or another name in its place
unfoldable pub client_form : Text → App
client_form name = form name (
    option_rule (codes "rows")
    ∷ option_rule (codes "regions")
    ∷ option_rule (codes "policy")
    ∷ needed_rule (codes "id")
    ∷ needed_rule (codes "schema")
    ∷ word_rule (codes "address")
    ∷ word_rule (codes "file")
    ∷ [])

-- `warm [--rows N] [--regions N] [--policy P] --id C --schema FILE ADDRESS FILE IMAGE`
unfoldable pub warm_form : App
warm_form = form (codes "warm") (
    option_rule (codes "rows")
    ∷ option_rule (codes "regions")
    ∷ option_rule (codes "policy")
    ∷ needed_rule (codes "id")
    ∷ needed_rule (codes "schema")
    ∷ word_rule (codes "address")
    ∷ word_rule (codes "file")
    ∷ word_rule (codes "image")
    ∷ [])

-- `serve [--log N] [--exec FILE] --schema FILE ADDRESS COUNT [TABLE=FILE ..]`
unfoldable pub serve_form : App
serve_form = form (codes "serve") (
    option_rule (codes "log")
    ∷ option_rule (codes "exec")
    ∷ needed_rule (codes "schema")
    ∷ word_rule (codes "address")
    ∷ word_rule (codes "count")
    ∷ rest_rule (codes "loads")
    ∷ [])

-- `explain [--eager] [--rows N] [--regions N] [--policy P] [--log N] [--clients N] FILE SQL`
unfoldable pub explain_form : App
explain_form = form (codes "explain") (
    flag_rule (codes "eager")
    ∷ option_rule (codes "rows")
    ∷ option_rule (codes "regions")
    ∷ option_rule (codes "policy")
    ∷ option_rule (codes "log")
    ∷ option_rule (codes "clients")
    ∷ word_rule (codes "file")
    ∷ word_rule (codes "sql")
    ∷ [])

-- `generate [--script] SEED EVENTS`
unfoldable pub generate_form : App
generate_form = form (codes "generate") (
    flag_rule (codes "script")
    ∷ word_rule (codes "seed")
    ∷ word_rule (codes "events")
    ∷ [])
