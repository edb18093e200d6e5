-- A line of a report's script.
use Rattle.std.proofs.Common.{◌≡◌, ◌≢◌, ℕ, ◌+◌, ◌-◌, Bool, true, false, List, [], ◌∷◌, length, refl, ap, subst, ◌∙◌, arith}
use Rattle.std.specs.Prelude.{◌==◌, ◌&&◌, codes, Some, None, Result, Ok, Err, if◌then◌else◌}
use Rattle.std.specs.Str.{is_utf8, bytes_eq}
use Rattle.sr_cell.specs.Clients.{most_clients}
use Rattle.sr_lines.specs.Script.{Words, QuerySql, Line, Silent, CreateLine, EventLine, part_of, behind, client_number, client_text, text, placed, Reading}
use Rattle.sr_reader.specs.declared.line.Line as code
use Rattle.sr_reader.specs.declared.line.Line.TheVariants as read
use Rattle.sr_reader.specs.declared.words.Words as written
use Rattle.sr_setup.specs.ClientFiles.{doer_of, second_place, read_fault}
use Rattle.sr_setup.proofs.ClientWalks.{doer_by}
use Rattle.sr_setup.specs.ReportFiles.{Event, is_aggregate, report_line, report_fault, saying_by, saying_in, saying_of}

-- ---- an aggregate

length_behind : (line : List ℕ) → length line ≡ second_place line + length (behind line)
length_behind [] = refl
length_behind (b ∷ line) = by (b == 32) refl (length_behind line)
  where
    by : (x : Bool) → (b == 32) ≡ x → length line ≡ second_place line + length (behind line) → length (b ∷ line) ≡ second_place (b ∷ line) + length (behind (b ∷ line))
    by true is more = rw is (omega arith)
    by false is more = rw is (omega (arith, more))

place_behind : (line : List ℕ) → length line - length (behind line) ≡ second_place line
place_behind line = let h = length_behind line in omega (arith, h)

pub is_agg : (line : List ℕ) → is_utf8 line ≡ true → bytes_eq (part_of line) (codes "agg") ≡ true → is_aggregate line ≡ true
is_agg line text word = rw (text, word) refl

pub no_text : (line : List ℕ) → is_utf8 line ≡ false → is_aggregate line ≡ false
no_text line text = rw text refl

module _ (line : List ℕ) (is : is_aggregate line ≡ true) where
  line_is : report_line line ≡ placed line (client_text most_clients QuerySql (behind line))
  line_is = rw is refl

  fault_by : (id : ℕ) (r : Reading) → client_text most_clients QuerySql (behind line) ≡ r → report_fault id line ≡ read_fault id line (placed line r)
  fault_by id r reads = ap (read_fault id line) (line_is ∙ ap (placed line) reads)

  pub no_number : (id : ℕ) → client_number most_clients (part_of (behind line)) ≡ None → report_fault id line ≡ Some (second_place line)
  no_number id none = fault_by id (Err (behind line)) (rw none refl) ∙ ap Some (place_behind line)

-- ---- whose words they are

event_by : (aggregate : Bool) (said words : Words) → Some (saying_by aggregate said) ≡ Some (Event words) → said ≡ words
event_by true (QuerySql n sql) words same = absurd cc
event_by true other words same = cc
event_by false other words same = cc

doer_in : (id : ℕ) (line : List ℕ) (aggregate : Bool) (r : Result Line ℕ) (words : Words) → saying_in aggregate r ≡ Some (Event words) → read_fault id line r ≡ None → doer_of words ≡ Some id
doer_in id line aggregate (Ok Silent) words says none = absurd cc
doer_in id line aggregate (Ok (CreateLine sql)) words says none = absurd cc
doer_in id line aggregate (Ok (EventLine said)) words says none = subst (λ (w : Words). doer_of w ≡ Some id) (event_by aggregate said words says) (doer_by id line (doer_of said) none)
doer_in id line aggregate (Err place) words says none = absurd cc

-- the words of a line without a fault are the client's own
pub own_words : (id : ℕ) (line : List ℕ) (words : Words) → saying_of line ≡ Some (Event words) → report_fault id line ≡ None → doer_of words ≡ Some id
own_words id line words says none = doer_in id line (is_aggregate line) (report_line line) words says none
