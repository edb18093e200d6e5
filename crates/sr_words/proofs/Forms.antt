-- A command that is built of its words.
use Rattle.std.proofs.Common.{◌≡◌, Bool, true, false, List, [], ◌∷◌, ◌++◌, map, Some, None, refl, sym, ap, ◌∙◌, append_assoc, append-nil, arith}
use Rattle.std.specs.Prelude.{not, fold, if◌then◌else◌}
use Rattle.std.specs.List.{list_all}
use Rattle.std.proofs.lemmas.Bool.{and_parts}
use Rattle.clap.specs.Built.{AddsArg, AddsInTurn}
use Rattle.clap.specs.Faults.{fault_of}
use Rattle.clap.specs.Kinds.{Kinds, IsAmong}
use Rattle.clap.specs.Walk.{Row, Rule, Text, is_empty, rule_of}
use Rattle.clap.specs.Simple.{App, app_of, matches_of, with_rule}
use Rattle.clap.specs.declared.builder.arg.Arg.{Arg}
use Rattle.clap.specs.declared.builder.command.Command.{Command}
use Rattle.clap.specs.declared.error.kind.ErrorKind.{ErrorKind}
use Rattle.sr_words.specs.Forms.{form, rows_in}

own : (a : Bool) → not a ≡ true → a ≡ false
own true e = absurd cc
own false e = refl

-- words that are added in turn
pub added : (old new : Command) (args : List Arg) → AddsInTurn AddsArg old args new → list_all (λ a. not a.global) args ≡ true
    → app_of new ≡ fold with_rule (app_of old) (map rule_of args)
added old new [] adds all = ap app_of (sym adds)
added old new (a ∷ args) adds all =
    let parts = and_parts (not a.global) (list_all (λ b. not b.global) args) all in
    added adds.0 new args adds.2 parts.1 ∙ ap (λ app. fold with_rule app (map rule_of args)) (adds.1.shape (own a.global parts.0))

-- the form has the words in that order
pub formed : (name : Text) (done rules : List Rule) → fold with_rule (form name done) rules ≡ form name (done ++ rules)
formed name done [] = ap (form name) (sym (append-nil done))
formed name done (rule ∷ rules) = formed name (done ++ rule ∷ []) rules ∙ ap (form name) (append_assoc done (rule ∷ []) rules)

-- words without a fault are in the form
pub taken : (app : App) (words : List Text) (found : List Row) → fault_of app words ≡ [] → found ≡ matches_of app words → rows_in app words ≡ Some found
unfolding rows_in
taken app words found none is = rw none (ap Some (sym is))

-- others are not
pub refused : (app : App) (words : List Text) (kind : ErrorKind) → IsAmong kind (fault_of app words) → rows_in app words ≡ None
unfolding rows_in
refused app words kind among = by (fault_of app words) among
  where
    by : (kinds : Kinds) → IsAmong kind kinds → (if is_empty kinds then Some (matches_of app words) else None) ≡ None
    by [] among = absurd among
    by (k ∷ kinds) among = let none : is_empty (k ∷ kinds) ≡ false = grind arith in rw none refl
