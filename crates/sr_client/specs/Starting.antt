-- A client that starts from the parts of what another one held.
use Rattle.std.specs.Prelude.{ℕ, ◌+◌, ◌≡◌, true, List, [], ◌∷◌, ◌++◌, map, flat_map, None}
use Rattle.std.specs.List.{list_all, All}
use Rattle.sr_cell.specs.declared.table.Column.{Column}
use Rattle.sr_cell.specs.declared.table.Table.{Table}
use Rattle.sr_cell.specs.Columns.{table_at}
use Rattle.sr_box.specs.Points.{Rect}
use Rattle.sr_union.specs.Grid.{first_cuts, others}
use Rattle.sr_bytes.specs.Writing.{may_write_rect}
use Rattle.sr_model.specs.Conditions.{Cond, Tests, Ge}
use Rattle.sr_model.specs.Queries.{Part, Query}
use Rattle.sr_policy.specs.declared.policy.Limits.{Limits}
use Rattle.sr_history.specs.declared.mark.Mark.{Mark}
use Rattle.sr_history.specs.Budgets.{MeetsBudgets}
use Rattle.sr_history.specs.Marks.{with_marks}
use Rattle.sr_store.specs.declared.start.Kept.{Kept}
use Rattle.sr_store.specs.declared.store.Store.{Store}
use Rattle.sr_store.specs.Brought.{kept_told}
use Rattle.sr_store.specs.Starting.{mark_of, kept_rows}
use Rattle.sr_session.specs.Clients as session
use Rattle.sr_client.specs.declared.client.Client.{Client}
use Rattle.sr_client.specs.Stands.{new_client}

-- ---- what a start counts as

-- for each cut of the rects a test that begins there; c is the number of the first column
abbrev pub cut_tests : ℕ → List Column → List Rect → List Cond
cut_tests c [] rects = []
cut_tests c (column ∷ columns) rects = map (λ v. Tests c (Ge v)) (first_cuts column rects) ++ cut_tests (c + 1) columns (others rects)

-- parts of a query whose tests end just at the cuts of a kept part
abbrev pub tested : List Table → Kept → List Part
tested schema k = map (λ test. record { table = k.table; need = k.attrs; condition = test }) (cut_tests 0 (table_at schema k.table).columns k.rects)

-- For the load a start counts as a query whose tests end just at the cuts of its rects.
abbrev pub start_query : List Table → List Kept → Query
start_query schema kept = record { parts = flat_map (tested schema) kept; joins = []; outputs = [] }

-- ---- what a start is

-- The past of a client that starts from these parts at that version, with these marks: nothing was asked, and its link is cut.
abbrev pub start_past : List Table → ℕ → List Kept → List Mark → session.Client
start_past schema version kept marks = record {
  marks = with_marks [] marks;
  queries = [];
  counted_from = record { start = start_query schema kept ∷ []; from = 0 };
  version = version;
  next_request = 0;
  out = None;
  laid = [];
  cut = true;
  cuts = 0;
}

-- the client, with that store
abbrev pub start_client : ℕ → List Table → Limits → ℕ → Store → Client
start_client id schema limits version store = record (new_client id schema limits) { version = version; store = store }

-- the rects of the parts can be written: their texts are short
abbrev pub MayBeWritten : List Kept → Type 0
MayBeWritten kept = All (λ k. list_all may_write_rect k.rects ≡ true) kept

-- Each part is held, and then the budgets are met, by the rows of the parts.
pub record AreStartMarks (schema : List Table) (limits : Limits) (kept : List Kept) (marks : List Mark) : Type 0 where
  pub drops : List Mark
  pub budgets : MeetsBudgets schema limits (kept_told schema (kept_rows kept)) [] (with_marks [] (map mark_of kept)) drops
  pub all : marks ≡ map mark_of kept ++ drops
