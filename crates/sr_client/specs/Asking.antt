-- What is left to ask of some parts, whatever the past.
use Rattle.std.specs.Prelude.{ℕ, List, [], ◌∷◌, flat_map, IsTrue}
use Rattle.std.specs.List.{list_all, AllZip}
use Rattle.sr_cell.specs.declared.table.Table.{Table}
use Rattle.sr_box.specs.Points.{Rect}
use Rattle.sr_message.specs.declared.message.AskPart.{AskPart}
use Rattle.sr_model.specs.Queries as model
use Rattle.sr_query.specs.Bound.{IsPart}
use Rattle.sr_query.specs.declared.query.Part.{Part}
use Rattle.sr_history.specs.declared.mark.Mark.{Mark}
use Rattle.sr_history.specs.Marks.{is_held}
use Rattle.sr_history.specs.Rests.{Asks}
use Rattle.sr_lines.specs.Sound.{is_sound_part}
use Rattle.sr_region.specs.declared.region.Region.{Region}
use Rattle.sr_store.specs.Classes.{Stamps, Keeps}

-- for all marks whose classes the regions are, and all meanings of the parts, these are the rests
abbrev pub AsksRest : List Table → List Region → List Part → List AskPart → Type 0
AsksRest schema regions parts asks =
    (marks : List Mark) (stamps : Stamps) (meant : List model.Part) → Keeps schema (is_held marks) stamps regions
    → AllZip (IsPart schema) parts meant → IsTrue (list_all (is_sound_part schema) meant) → Asks schema marks meant asks

-- for all of them something is left to ask
abbrev pub LeavesRest : List Table → List Region → List Part → Type 0
LeavesRest schema regions parts =
    (marks : List Mark) (stamps : Stamps) (meant : List model.Part) → Keeps schema (is_held marks) stamps regions
    → AllZip (IsPart schema) parts meant → IsTrue (list_all (is_sound_part schema) meant) → Asks schema marks meant [] → ⊥

-- the parts stand for sound ones
abbrev pub AreMeant : List Table → List Part → Type 0
AreMeant schema parts = (meant : List model.Part) × AllZip (IsPart schema) parts meant × IsTrue (list_all (is_sound_part schema) meant)

-- an entry, if there is a rest
abbrev pub entry_of : ℕ → ℕ → List Rect → List AskPart
entry_of table attrs [] = []
entry_of table attrs (r ∷ rest) = record { table = table; attrs = attrs; rects = r ∷ rest } ∷ []

-- an entry for each part that has rects: all of it
abbrev pub whole_asks : List Part → List AskPart
whole_asks parts = flat_map (λ part. entry_of part.table part.need part.rects) parts
