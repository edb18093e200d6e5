-- What the error output says.
use Rattle.std.specs.Prelude.{ℕ, ◌==◌, List, [], ◌∷◌, ◌++◌, Option, Some, None, codes, decimal, if◌then◌else◌}
use Rattle.sr_generate.specs.Script.{line_feed}
use Rattle.sr_cell.specs.declared.fault.Fault.{Fault}
use Rattle.sr_cell.specs.declared.fault.Why.{Why}
use Rattle.sr_cell.specs.declared.fault.Why.TheVariants.{UnknownTable}
use Rattle.sr_dial.specs.Statuses.{fault_words, why_words}
use Rattle.sr_script.specs.TraceText.{why_text}
use Rattle.sr_wire.specs.declared.bad_frame.BadFrame.{BadFrame}
use Rattle.sr_wire.specs.declared.wire_fault.WireFault.{WireFault}

-- what is said of a line that is outside the grammar
abbrev pub line_text : ℕ → ℕ → List ℕ
line_text line place = codes "line " ++ decimal line ++ codes " " ++ decimal place ++ line_feed

-- what is said of a CREATE line that is refused
abbrev pub setup_text : ℕ → Fault → List ℕ
setup_text line fault = codes "schema " ++ decimal line ++ codes " " ++ why_text fault.why ++ codes " " ++ decimal fault.at ++ line_feed

-- what is said of a file that is refused: the number of the record and its fault, or that there is no such table
abbrev pub load_text : List ℕ → Fault → List ℕ
load_text table fault = codes "load " ++ table ++ codes " " ++ reason fault.why
  where
    reason : Why → List ℕ
    reason UnknownTable = codes "unknown" ++ line_feed
    reason why = decimal fault.at ++ codes " " ++ why_text why ++ line_feed

-- a line of words, with a space between two
abbrev pub words_text : List (List ℕ) → List ℕ
words_text [] = line_feed
words_text (word ∷ []) = word ++ line_feed
words_text (word ∷ next ∷ words) = word ++ codes " " ++ words_text (next ∷ words)

-- what is said of bytes that are no frame
abbrev pub spoiled_text : WireFault → List ℕ
spoiled_text fault = words_text (codes "frame" ∷ fault_words fault)

-- what is said of a message that must be refused
abbrev pub bad_text : BadFrame → List ℕ
bad_text why = words_text (codes "frame" ∷ why_words why)

-- what is said at the other statuses that are not 0
abbrev pub error_text : ℕ → Option (List ℕ)
error_text status =
    if status == 2 then Some (codes "words" ++ line_feed)
    else (if status == 3 then Some (codes "read" ++ line_feed)
    else (if status == 4 then Some (codes "write" ++ line_feed)
    else (if status == 5 then Some (codes "link" ++ line_feed)
    else (if status == 9 then Some (codes "memory" ++ line_feed)
    else (if status == 10 then Some (codes "too long" ++ line_feed)
    else (if status == 11 then Some (codes "too many frames" ++ line_feed)
    else None))))))
