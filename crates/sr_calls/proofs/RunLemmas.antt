-- A run of a new client.
use Rattle.std.proofs.Common.{◌≡◌, ℕ, ◌+◌, ◌≤◌, ◌<◌, Bool, true, false, List, [], ◌∷◌, ◌++◌, None, refl, sym, ap, subst, arith}
use Rattle.std.specs.Prelude.{◌*◌, ◌^◌}
use Rattle.std.specs.Io.KnownBytes.{Appends}
use Rattle.std.specs.List.{list_all}
use Rattle.std.proofs.lemmas.List.{append-nil}
use Rattle.std.proofs.lemmas.List.Elements.{All-append, All-cons, All-nil}
use Rattle.sr_cell.specs.declared.table.Table.{Table}
use Rattle.sr_io.specs.Told.{Linking, Writing}
use Rattle.sr_talk.proofs.SomeLemmas.{all-written}
use Rattle.sr_policy.specs.declared.policy.Limits.{Limits}
use Rattle.sr_query.specs.Bound.{is_table}
use Rattle.sr_store.specs.Told.{IsTrueOf, told_of}
use Rattle.sr_model.specs.Statements.{Tables}
use Rattle.sr_session.specs.Clients as session
use Rattle.sr_plan.specs.Plans.{Plan}
use Rattle.sr_dial.specs.Calls.{Task}
use Rattle.sr_client.specs.Stands.{new_client}
use Rattle.sr_client.proofs.NewLemmas.{at_first, new-facts}
use Rattle.sr_dial.specs.Runs.{IsCarried, WritesAs, is_unwritten}
use Rattle.sr_dial.specs.declared.ending.Ending.{Ending}
use Rattle.sr_dial.specs.declared.ending.Ending.TheVariants as ending
use Rattle.sr_dial.specs.declared.parts.Answer.{Answer}
use Rattle.sr_calls.specs.ClientEnds.{End, IsEnd, Stands, room_of}
use Rattle.sr_calls.specs.Runs.{RanFrom, RanNew, RanNewInPart, RanNewSteadily, RanOff, RanSteadilyFrom, new_end, new_past}

-- its end stands for its past
pub new_stands : (id : ℕ) (schema : List Table) (limits : Limits) (keeps says : Bool) → list_all is_table schema ≡ true → Stands (new_end id schema limits keeps says) new_past
new_stands id schema limits keeps says tables = (at_first, new-facts id schema limits tables, refl)

-- and it has the rows of any tables, since it holds none
begins : (id : ℕ) (schema : List Table) (limits : Limits) (keeps says : Bool) → list_all is_table schema ≡ true → (rows : Tables) → IsEnd schema (new_end id schema limits keeps says) new_past rows
begins id schema limits keeps says tables rows = (refl, record { hidden = at_first; facts = new-facts id schema limits tables; same = refl; are_true = All-nil (IsTrueOf (told_of rows)) })

pub ran_new : (id : ℕ) (address : List ℕ) (schema : List Table) (limits : Limits) (keeps says : Bool) (plan : Plan Task Answer) (ended : Ending) (old new : Linking) (before after : Writing) (left : End) → list_all is_table schema ≡ true
    → RanFrom (new_end id schema limits keeps says) new_past address plan ended old new before after left → RanNew id address schema limits keeps says plan ended old new before after
ran_new id address schema limits keeps says plan ended old new before after left tables ran = record { begins = begins id schema limits keeps says tables; left = left; ran = ran }

pub ran_new_steadily : (Steady : Type 0) (id : ℕ) (address : List ℕ) (schema : List Table) (limits : Limits) (keeps says : Bool) (plan : Plan Task Answer) (ended : Ending) (old new : Linking) (before after : Writing) (left : End) → list_all is_table schema ≡ true
    → RanSteadilyFrom Steady (new_end id schema limits keeps says) new_past address plan ended old new before after left → RanNewSteadily Steady id address schema limits keeps says plan ended old new before after
ran_new_steadily Steady id address schema limits keeps says plan ended old new before after left tables ran =
    record { run = record { begins = begins id schema limits keeps says tables; left = left; ran = ran.to }; steady_links = ran.steady_links }

pub broke_new : (id : ℕ) (address : List ℕ) (schema : List Table) (limits : Limits) (keeps says : Bool) (plan : Plan Task Answer) (old new : Linking) (before after : Writing) → list_all is_table schema ≡ true
    → RanOff (new_end id schema limits keeps says) new_past address plan old new before after → RanNewInPart id address schema limits keeps says plan old new before after
broke_new id address schema limits keeps says plan old new before after tables ran = record { begins = begins id schema limits keeps says tables; ran = ran }

-- where each line was written, that is a beginning of them
wrote_all : (says : Bool) (ended : Ending) (texts : List ℕ) (before after : Writing) → is_unwritten ended ≡ false → WritesAs says ended texts before after → Appends before.written after.written texts × (after.faults ≡ before.faults)
wrote_all says ending.Whole texts before after is wrote = wrote
wrote_all says ending.Faulty texts before after is wrote = wrote
wrote_all says ending.Unwritten texts before after is wrote = absurd cc
wrote_all says (ending.Spoiled fault) texts before after is wrote = wrote
wrote_all says (ending.Bad why) texts before after is wrote = wrote
wrote_all says ending.Limit texts before after is wrote = wrote

-- So what a run that ended sent and wrote is a beginning of what the rules give, too, as long as each line was written.
pub run_in_part : (end left : End) (past : session.Client) (address : List ℕ) (plan : Plan Task Answer) (ended : Ending) (old new : Linking) (before after : Writing) → is_unwritten ended ≡ false
    → RanFrom end past address plan ended old new before after left → RanOff end past address plan old new before after
run_in_part end left past address plan ended old new before after each from =
    let run = from.run.ran in
    let calls = run.earlier ++ run.last ∷ [] in
    let wrote = wrote_all end.says ended _ before after each run.writes in
    let last : IsCarried false run.last = subst (λ (b : Bool). IsCarried b run.last) each run.last_carried in
    record {
      calls = calls;
      earlier = calls;
      cut_short = None;
      calls_are = sym (append-nil calls);
      are = run.are;
      in_place = run.in_place;
      few = run.few;
      from = run.from;
      goes = run.goes;
      fair = from.run.fair;
      lawful = from.run.lawful;
      explained = from.run.explained;
      carried = All-append (IsCarried false) run.earlier (run.last ∷ []) run.carried (All-cons (IsCarried false) run.last [] last (All-nil (IsCarried false)));
      last_carried = tt;
      made = run.made;
      dialled = run.dialled;
      each_told = run.each_told;
      faults = run.faults;
      written = all-written before.written after.written _ wrote.0;
      write_faults = wrote.1;
    }

pub ended_in_part : (id : ℕ) (address : List ℕ) (schema : List Table) (limits : Limits) (keeps says : Bool) (plan : Plan Task Answer) (ended : Ending) (old new : Linking) (before after : Writing) → is_unwritten ended ≡ false
    → RanNew id address schema limits keeps says plan ended old new before after → RanNewInPart id address schema limits keeps says plan old new before after
ended_in_part id address schema limits keeps says plan ended old new before after each run =
    record { begins = run.begins; ran = run_in_part (new_end id schema limits keeps says) run.left new_past address plan ended old new before after each run.ran }

-- a new client can draw enough numbers for so many jobs
pub new_room : (id : ℕ) (schema : List Table) (limits : Limits) (jobs : ℕ) → jobs < 2 ^ 40 → 4000004 * (jobs + 1) ≤ room_of (new_client id schema limits)
new_room id schema limits jobs few = omega (arith, few)
