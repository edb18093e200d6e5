use Rattle.std.proofs.Common.{◌≡◌, true, map, length, sym, ap, subst, ◌∙◌}
use Rattle.std.specs.Prelude.{◌&&◌, ◌==◌, not, nat_lt, filter, None, Ok}
use Rattle.std.specs.List.{list_all, filter_map}
use Rattle.std.proofs.lemmas.List.Folds.{list_all-map}
use Rattle.sr_cell.specs.declared.change.Change.{Change}
use Rattle.sr_query.specs.Written.{place_of, condition_of}
use Rattle.sr_model.specs.Statements.{Place, places_fault, is_changed}
use Rattle.sr_model.specs.Changes.{table_changes}
use Rattle.sr_keyed.specs.Keyed.{Keyed}
use Rattle.sr_tables.specs.Stored.{IsKeyed}
use Rattle.sr_tables.specs.Steps.{update_change, is_known}
use Rattle.sr_tables.proofs.Placing.{are_places}
use Rattle.sr_tables.proofs.Outcomes.{news-known, updated-done, updated-changes, updated-keyed}
use Rattle.sr_tables.proofs.Few.{few-changes}
use Rattle.sr_tables.proofs.update.update.Goals as goal

pub few_changes-requires : goal.few_changes-requires
few_changes-requires c =
    let t = c.args.table.now in
    let places = map place_of c.args.sets.now in
    let condition = condition_of c.args.filter.now.condition in
    let are : c.in-Ok.changes ≡ map (update_change c.args.number t.key places condition) (filter (is_changed places condition) c.args.rows.now.rows) = rw c.as_slice-2.ensures at c.in-Ok.ensures in
    few-changes (update_change c.args.number t.key places condition) (is_changed places condition) c.args.rows.now.rows c.in-Ok.changes are c.requires.few

pub replace_all-requires : goal.replace_all-requires
replace_all-requires c =
    let t = c.args.table.now in
    let places = map place_of c.args.sets.now in
    let condition = condition_of c.args.filter.now.condition in
    let placed : are_places t places ≡ true = list_all-map (λ (p : Place). nat_lt p.column (length t.columns) && not (p.column == t.key)) place_of c.args.sets.now ∙ c.requires.places in
    let are : c.in-Ok.changes ≡ map (update_change c.args.number t.key places condition) (filter (is_changed places condition) c.args.rows.now.rows) = rw c.as_slice-2.ensures at c.in-Ok.ensures in
    let none : places_fault t places ≡ None = cc in
    let after : c.in-Ok-rows_after.news ≡ filter_map (λ (ch : Change). ch.after) c.in-Ok.changes = rw c.as_slice-3.ensures at c.in-Ok-rows_after.ensures in
    ap (λ news. list_all (is_known c.args.rows.now) news) after
    ∙ news-known t c.args.number places condition c.args.rows.now c.requires.keyed c.requires.key placed c.in-Ok.changes are none

pub returns-clause-done : goal.returns-clause-done
returns-clause-done c =
    let t = c.args.table.now in
    let places = map place_of c.args.sets.now in
    let condition = condition_of c.args.filter.now.condition in
    let placed : are_places t places ≡ true = list_all-map (λ (p : Place). nat_lt p.column (length t.columns) && not (p.column == t.key)) place_of c.args.sets.now ∙ c.requires.places in
    let are : c.in-Ok.changes ≡ map (update_change c.args.number t.key places condition) (filter (is_changed places condition) c.args.rows.now.rows) = rw c.as_slice-2.ensures at c.in-Ok.ensures in
    let none : places_fault t places ≡ None = cc in
    let after : c.in-Ok-rows_after.news ≡ filter_map (λ (ch : Change). ch.after) c.in-Ok.changes = rw c.as_slice-3.ensures at c.in-Ok-rows_after.ensures in
    updated-done t c.args.number places condition c.args.rows.now c.requires.keyed c.requires.key placed c.in-Ok.changes are none c.know_ascending.ensures c.in-Ok-rows_after.news after c.in-Ok-few_changes.ensures.few
    ∙ ap (λ (k : Keyed). Ok k.rows) (sym c.replace_all.ensures)

pub returns-clause-changes : goal.returns-clause-changes
returns-clause-changes c =
    let t = c.args.table.now in
    let places = map place_of c.args.sets.now in
    let condition = condition_of c.args.filter.now.condition in
    let placed : are_places t places ≡ true = list_all-map (λ (p : Place). nat_lt p.column (length t.columns) && not (p.column == t.key)) place_of c.args.sets.now ∙ c.requires.places in
    let are : c.in-Ok.changes ≡ map (update_change c.args.number t.key places condition) (filter (is_changed places condition) c.args.rows.now.rows) = rw c.as_slice-2.ensures at c.in-Ok.ensures in
    let none : places_fault t places ≡ None = cc in
    let after : c.in-Ok-rows_after.news ≡ filter_map (λ (ch : Change). ch.after) c.in-Ok.changes = rw c.as_slice-3.ensures at c.in-Ok-rows_after.ensures in
    updated-changes t c.args.number places condition c.args.rows.now c.requires.keyed c.requires.key placed c.in-Ok.changes are none c.know_ascending.ensures c.in-Ok-rows_after.news after
    ∙ ap (λ (k : Keyed). table_changes t c.args.number c.args.rows.now.rows k.rows) (sym c.replace_all.ensures)

pub returns-clause-keyed : goal.returns-clause-keyed
returns-clause-keyed c =
    let t = c.args.table.now in
    let places = map place_of c.args.sets.now in
    let condition = condition_of c.args.filter.now.condition in
    let placed : are_places t places ≡ true = list_all-map (λ (p : Place). nat_lt p.column (length t.columns) && not (p.column == t.key)) place_of c.args.sets.now ∙ c.requires.places in
    let are : c.in-Ok.changes ≡ map (update_change c.args.number t.key places condition) (filter (is_changed places condition) c.args.rows.now.rows) = rw c.as_slice-2.ensures at c.in-Ok.ensures in
    let none : places_fault t places ≡ None = cc in
    let after : c.in-Ok-rows_after.news ≡ filter_map (λ (ch : Change). ch.after) c.in-Ok.changes = rw c.as_slice-3.ensures at c.in-Ok-rows_after.ensures in
    subst (λ (k : Keyed). IsKeyed t k) (sym c.replace_all.ensures)
    (updated-keyed t c.args.number places condition c.args.rows.now c.requires.keyed c.requires.key placed c.in-Ok.changes are none c.know_ascending.ensures c.in-Ok-rows_after.news after)
