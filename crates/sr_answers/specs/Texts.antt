-- The texts that a plan writes.
use Rattle.std.specs.Prelude.{ℕ, List, [], ◌∷◌}
use Rattle.sr_dial.specs.Calls.{Done, Made, Explained, Said, Task, Do, Explain, Say}

-- each text that was written is such a one
abbrev pub AllSaid : {C : Type 0} → (List ℕ → Type 0) → List (Done C) → Type 0
AllSaid {C} P [] = Unit {0}
AllSaid {C} P (Made number cause step ∷ ds) = AllSaid P ds
AllSaid {C} P (Explained number text result ∷ ds) = AllSaid P ds
AllSaid {C} P (Said number text ∷ ds) = P text × AllSaid P ds

-- a task to write a text has such a one
abbrev pub SaysSuch : (List ℕ → Type 0) → Task → Type 0
SaysSuch P (Say text) = P text
SaysSuch P (Do deed) = Unit {0}
SaysSuch P (Explain text) = Unit {0}
