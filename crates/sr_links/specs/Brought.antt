-- A client over any link, whatever the peer is: it goes by its rules on the rows that the frames brought.
use Rattle.std.specs.Prelude.{List, [], ◌∷◌}
use Rattle.sr_cell.specs.declared.table.Table.{Table}
use Rattle.sr_policy.specs.declared.policy.Limits.{Limits}
use Rattle.sr_store.specs.Told.{Told}
use Rattle.sr_session.specs.Brought.{told_after, told_basis}
use Rattle.sr_session.specs.Clients.{Client}
use Rattle.sr_session.specs.Headline.{KeepsToBudgets}
use Rattle.sr_links.specs.Steps.{Deed, Took, Does, Step, AreRuled}

-- code that stands for a past, and has rows that were told of tables of this schema
abbrev pub Holding : Type 0 → Type 1
Holding C = List Table → C → Client → Told → Type 0

-- what was told once this is done
abbrev pub told_next : List Table → Client → Deed → Told → Told
told_next schema c (Took m) told = told_after schema c m told
told_next schema c other told = told

-- The step goes by the rules on these rows, and the client keeps to its budgets by them.
pub record GoesByTold {C : Type 0} (limits : Limits) (schema : List Table) (c : Client) (step : Step C) (told : Told) : Type 0 where
  pub does : Does (told_basis schema limits told) step.deed c step.outcome step.past
  pub budgets : KeepsToBudgets (told_basis schema limits told) step.past

-- Whatever was told, if the client has these rows: the step goes by what was told once it is done, and the client has these rows then.
abbrev pub IsLawful : {C : Type 0} → Holding C → Limits → List Table → C → Client → Step C → Type 0
IsLawful {C} Has limits schema code c step = (told : Told) → Has schema code c told
    → GoesByTold limits schema c step (told_next schema c step.deed told) × Has schema step.code step.past (told_next schema c step.deed told)

abbrev pub AreLawful : {C : Type 0} → Holding C → Limits → List Table → C → Client → List (Step C) → Type 0
AreLawful {C} Has limits schema code c [] = Unit {0}
AreLawful {C} Has limits schema code c (step ∷ steps) = IsLawful Has limits schema code c step × AreLawful Has limits schema step.code step.past steps

-- Each step goes by what the frames of the steps up to it brought.
abbrev pub GoByTold : {C : Type 0} → Limits → List Table → Told → Client → List (Step C) → Type 0
GoByTold {C} limits schema told c [] = Unit {0}
GoByTold {C} limits schema told c (step ∷ steps) =
    GoesByTold limits schema c step (told_next schema c step.deed told) × GoByTold limits schema (told_next schema c step.deed told) step.past steps

-- So do the steps of a client that has what was told before them; and so each goes by its rules.
abbrev pub StepsGoByTold : {C : Type 0} → Holding C → Type 0
StepsGoByTold {C} Has = (limits : Limits) (schema : List Table) (code : C) (c : Client) (steps : List (Step C)) (told : Told)
    → Has schema code c told → AreLawful Has limits schema code c steps → GoByTold limits schema told c steps × AreRuled c steps
