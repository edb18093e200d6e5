-- The events of a client's script, read one line after another.
use Rattle.std.proofs.Common.{◌≡◌, ℕ, ◌+◌, ◌≤◌, Bool, true, false, List, [], ◌∷◌, ◌++◌, length, refl, sym, ◌∙◌, ap, subst, arith, append_assoc, append-nil}
use Rattle.std.specs.Prelude.{Option, Some, None, Ok, ◌==◌, if◌then◌else◌}
use Rattle.std.specs.List.{list_all, AllZip}
use Rattle.std.proofs.lemmas.List.{length-append}
use Rattle.std.proofs.lemmas.Bool.Decides.{nat_tests}
use Rattle.sr_cell.specs.declared.table.Table.{Table}
use Rattle.sr_cell.proofs.Lists.{list_all-push, AllZip-push}
use Rattle.sr_cell.specs.Clients.{most_clients}
use Rattle.sr_lines.specs.Events.{ScriptEvent, DoQuery, DoWrite, DoExplain, DoEvict, DoCut, DoResume}
use Rattle.sr_lines.specs.Lines.{lines_of}
use Rattle.sr_lines.specs.Script.{Words, ExecSql, QuerySql, ExplainSql, Silent, CreateLine, EventLine as EventOf, line_of, LinePlace, Means, LineDoes, Reads}
use Rattle.sr_reader.specs.declared.script.Event.{Event}
use Rattle.sr_reader.specs.declared.script.Event.TheVariants as asked
use Rattle.sr_reader.specs.declared.script.EventLine.{EventLine}
use Rattle.sr_reader.specs.declared.words.Words as written
use Rattle.sr_reader.specs.declared.line.Line as code
use Rattle.sr_reader.specs.declared.line.Line.TheVariants as read
use Rattle.sr_reader.specs.Lined.{IsLine}
use Rattle.sr_reader.specs.Meaning.{IsSaid}
use Rattle.sr_reader.specs.Read.{IsEvent, IsEventLine}
use Rattle.sr_reader.proofs.Stages.{few_lines}
use Rattle.sr_setup.specs.Files.{or_later, first_fault}
use Rattle.sr_setup.specs.ClientFiles.{doer_of, second_place, words_fault, read_fault, client_fault, is_own, over, AreAsked}

-- ---- a line without a fault

-- none of these lines has a fault: not the first, and none behind it
no_later : (i : ℕ) (later : Option LinePlace) (at : Option ℕ) → or_later i later at ≡ None → (at ≡ None) × (later ≡ None)
no_later i later None none = (refl, none)
no_later i later (Some place) none = absurd cc

pub first_good : (fault : List ℕ → Option ℕ) (number : ℕ) (text : List ℕ) (after : List (List ℕ)) → first_fault fault number (text ∷ after) ≡ None → (fault text ≡ None) × (first_fault fault (number + 1) after ≡ None)
first_good fault number text after none = no_later number (first_fault fault (number + 1) after) (fault text) none

own_by : (id : ℕ) (text : List ℕ) (n : ℕ) (same : Bool) → (n == id) ≡ same → (if same then None else Some (second_place text)) ≡ None → n ≡ id
own_by id text n true is none = grind (arith, is)
own_by id text n false is none = absurd cc

pub doer_by : (id : ℕ) (text : List ℕ) (doer : Option ℕ) → words_fault id text doer ≡ None → doer ≡ Some id
doer_by id text None none = absurd cc
doer_by id text (Some n) none = ap Some (own_by id text n (n == id) refl none)

-- the words of a line without a fault are the client's own
doer_is : (id : ℕ) (text : List ℕ) (words : Words) → line_of most_clients text ≡ Ok (EventOf words) → client_fault id text ≡ None → doer_of words ≡ Some id
doer_is id text words is none = doer_by id text (doer_of words) (subst (λ z. read_fault id text z ≡ None) is none)

-- no CREATE line is without a fault
create_faulty : (id : ℕ) (text sql : List ℕ) → line_of most_clients text ≡ Ok (CreateLine sql) → client_fault id text ≡ None → ⊥
create_faulty id text sql is none = let none_here : read_fault id text (Ok (CreateLine sql)) ≡ None = subst (λ z. read_fault id text z ≡ None) is none in cc

-- ---- what the words of a client say

-- the client that does an event, where a client does it by itself
abbrev owner_of : ScriptEvent → Option ℕ
owner_of (DoQuery n query) = Some n
owner_of (DoWrite n sql) = Some n
owner_of (DoExplain n query) = Some n
owner_of (DoEvict n place) = Some n
owner_of (DoCut n) = Some n
owner_of (DoResume n) = Some n
owner_of other = None

owner_is : (tables : List Table) (words : Words) (meaning : ScriptEvent) → Means tables words meaning → owner_of meaning ≡ doer_of words
owner_is tables (ExecSql sql) meaning means = ap owner_of means.2
owner_is tables (QuerySql n sql) meaning means = ap owner_of means.2
owner_is tables (ExplainSql n sql) meaning means = ap owner_of means.2
owner_is tables other meaning means = ap owner_of means

own_one : (id n : ℕ) (owner : Option ℕ) → owner ≡ Some n → owner ≡ Some id → (n == id) ≡ true
own_one id n owner is own = grind (arith, nat_tests, is, own)

own_none : (id : ℕ) (owner : Option ℕ) → owner ≡ None → owner ≡ Some id → ⊥
own_none id owner is own = cc

own_event : (id : ℕ) (tables : List Table) (event : Event) (meaning : ScriptEvent) → IsEvent tables event meaning → owner_of meaning ≡ Some id → is_own id event ≡ true
own_event id tables (asked.Query n query) meaning is own = own_one id n (owner_of meaning) (ap owner_of is.2) own
own_event id tables (asked.Write n sql) meaning is own = own_one id n (owner_of meaning) (ap owner_of is) own
own_event id tables (asked.Explain n query) meaning is own = own_one id n (owner_of meaning) (ap owner_of is.2) own
own_event id tables (asked.Evict n place) meaning is own = own_one id n (owner_of meaning) (ap owner_of is) own
own_event id tables (asked.Cut n) meaning is own = own_one id n (owner_of meaning) (ap owner_of is) own
own_event id tables (asked.Resume n) meaning is own = own_one id n (owner_of meaning) (ap owner_of is) own
own_event id tables other meaning is own = absurd (own_none id (owner_of meaning) (ap owner_of is) own)

-- what the client's own words say is its own
pub own_said : (id : ℕ) (tables : List Table) (words : Words) (event : Event) → doer_of words ≡ Some id → IsSaid tables words event → is_own id event ≡ true
own_said id tables words event doer said = own_event id tables event said.0 said.2 (owner_is tables words said.0 said.1 ∙ doer)

-- ---- the walk

-- what the walk keeps: what the rest says from here, the whole says with this in front
pub record Walked (id : ℕ) (script : List ℕ) (tables : List Table) (number : ℕ) (rest : List (List ℕ)) (events : List EventLine) : Type 0 where
  pub before : List (ℕ × ScriptEvent)
  pub are : AllZip (IsEventLine tables) events before
  pub own : list_all (λ line. is_own id line.event) events ≡ true
  pub few : length events + length rest ≤ length (lines_of script)
  pub inside : first_fault (client_fault id) number rest ≡ None
  pub reads : (others : List (ℕ × ScriptEvent)) → Reads most_clients number (over tables) rest others (over tables) → Reads most_clients 1 (over tables) (lines_of script) (before ++ others) (over tables)

pub walked_start : (id : ℕ) (script : List ℕ) (tables : List Table) → first_fault (client_fault id) 1 (lines_of script) ≡ None → Walked id script tables 1 (lines_of script) []
walked_start id script tables inside = record {
  before = [];
  are = tt;
  own = refl;
  few = omega arith;
  inside = inside;
  reads = λ others reads. reads;
}

module _ (id : ℕ) (script : List ℕ) (tables : List Table) (number : ℕ) (rest after : List (List ℕ)) (text : List ℕ) (events : List EventLine) (walked : Walked id script tables number rest events) (cut : rest ≡ text ∷ after) where
  good : (client_fault id text ≡ None) × (first_fault (client_fault id) (number + 1) after ≡ None)
  good = first_good (client_fault id) number text after (subst (λ z. first_fault (client_fault id) number z ≡ None) cut walked.inside)

  -- the line does this, and the script goes on behind it
  step : (some : List (ℕ × ScriptEvent)) (new : List EventLine) → LineDoes (over tables) number (line_of most_clients text) some (over tables) → AllZip (IsEventLine tables) new (walked.before ++ some) → length new ≤ length events + 1
      → list_all (λ line. is_own id line.event) new ≡ true → Walked id script tables (number + 1) after new
  step some new does are long own = record {
    before = walked.before ++ some;
    are = are;
    own = own;
    few = let few = walked.few in let one = ap length cut in omega (arith, few, one, long);
    inside = good.1;
    reads = λ others reads.
        let here : Reads most_clients number (over tables) rest (some ++ others) (over tables) =
        subst (λ z. Reads most_clients number (over tables) z (some ++ others) (over tables)) (sym cut) (some, others, over tables, does, reads, refl) in
        subst (λ z. Reads most_clients 1 (over tables) (lines_of script) z (over tables)) (sym (append_assoc walked.before some others)) (walked.reads (some ++ others) here);
  }

  walked_silent : line_of most_clients text ≡ Ok Silent → Walked id script tables (number + 1) after events
  walked_silent is =
      let does : LineDoes (over tables) number (line_of most_clients text) [] (over tables) = subst (λ z. LineDoes (over tables) number z [] (over tables)) (sym is) (refl, refl) in
      step [] events does (subst (AllZip (IsEventLine tables) events) (sym (append-nil walked.before)) walked.are) (omega arith) walked.own

  -- a line that is no event
  pub walked_quiet : (line : code.Line) → IsLine most_clients text line → ((words : written.Words) → line ≡ read.Event words → ⊥) → Walked id script tables (number + 1) after events
  walked_quiet read.Silent is other = walked_silent is
  walked_quiet (read.Create sql) is other = absurd (create_faulty id text sql.now is good.0)
  walked_quiet (read.Event words) is other = absurd (other words refl)

  pub walked_event : (words : Words) (event : Event) → line_of most_clients text ≡ Ok (EventOf words) → IsSaid tables words event
      → Walked id script tables (number + 1) after (events ++ record { number = number; event = event } ∷ [])
  walked_event words event is said =
      let some = (number, said.0) ∷ [] in
      let does : LineDoes (over tables) number (line_of most_clients text) some (over tables) = subst (λ z. LineDoes (over tables) number z some (over tables)) (sym is) (said.0, said.1, refl, refl) in
      let line : EventLine = record { number = number; event = event } in
      let longer : length (events ++ line ∷ []) ≤ length events + 1 = (let e = length-append events (line ∷ []) in omega (arith, e)) in
      step some (events ++ line ∷ []) does (AllZip-push (IsEventLine tables) events walked.before line (number, said.0) walked.are (said.0, said.2, refl)) longer
      (list_all-push (λ l. is_own id l.event) events line walked.own (own_said id tables words event (doer_is id text words is good.0) said))

pub walked_all : (id : ℕ) (script : List ℕ) (tables : List Table) (number : ℕ) (rest : List (List ℕ)) (events : List EventLine) → Walked id script tables number rest events → rest ≡ [] → AreAsked id script tables events
walked_all id script tables number rest events walked done = record {
  events = walked.before;
  are = walked.are;
  reads = let nothing : Reads most_clients number (over tables) rest [] (over tables) = subst (λ z. Reads most_clients number (over tables) z [] (over tables)) (sym done) (refl, refl) in
      subst (λ z. Reads most_clients 1 (over tables) (lines_of script) z (over tables)) (append-nil walked.before) (walked.reads [] nothing);
  own = walked.own;
  few = let few = walked.few in let most = few_lines script in omega (arith, few, most);
}
