use Rattle.std.proofs.Common.{◌≡◌, sym, ap, subst, ◌∙◌}
use Rattle.std.specs.Prelude.{Ok}
use Rattle.sr_query.specs.Written.{condition_of}
use Rattle.sr_model.specs.Statements.{meets}
use Rattle.sr_model.specs.Changes.{table_changes}
use Rattle.sr_keyed.specs.Keyed.{Keyed}
use Rattle.sr_tables.specs.Stored.{IsKeyed}
use Rattle.sr_tables.specs.Steps.{delete_change, removed_by}
use Rattle.sr_tables.proofs.Outcomes.{deleted-done, deleted-changes, deleted-keyed}
use Rattle.sr_tables.proofs.Few.{few-changes}
use Rattle.sr_tables.proofs.delete.delete.Goals as goal

pub few_changes-requires : goal.few_changes-requires
few_changes-requires c =
    few-changes (delete_change c.args.number c.args.table.now.key) (meets (condition_of c.args.filter.now.condition)) c.args.rows.now.rows c.in-Ok.changes c.in-Ok.ensures c.requires.few

pub returns-clause-done : goal.returns-clause-done
returns-clause-done c =
    let new : c.remove_all.new.rows ≡ removed_by c.args.rows.now c.in-Ok.changes = c.remove_all.ensures ∙ ap (λ changes. removed_by c.args.rows.now changes) c.as_slice.ensures in
    deleted-done c.args.table.now c.args.number (condition_of c.args.filter.now.condition) c.args.rows.now c.requires.keyed c.in-Ok.changes c.in-Ok.ensures c.know_ascending.ensures c.in-Ok-few_changes.ensures.few
    ∙ ap (λ (k : Keyed). Ok k.rows) (sym new)

pub returns-clause-changes : goal.returns-clause-changes
returns-clause-changes c =
    let new : c.remove_all.new.rows ≡ removed_by c.args.rows.now c.in-Ok.changes = c.remove_all.ensures ∙ ap (λ changes. removed_by c.args.rows.now changes) c.as_slice.ensures in
    deleted-changes c.args.table.now c.args.number (condition_of c.args.filter.now.condition) c.args.rows.now c.requires.keyed c.in-Ok.changes c.in-Ok.ensures c.know_ascending.ensures
    ∙ ap (λ (k : Keyed). table_changes c.args.table.now c.args.number c.args.rows.now.rows k.rows) (sym new)

pub returns-clause-keyed : goal.returns-clause-keyed
returns-clause-keyed c =
    let new : c.remove_all.new.rows ≡ removed_by c.args.rows.now c.in-Ok.changes = c.remove_all.ensures ∙ ap (λ changes. removed_by c.args.rows.now changes) c.as_slice.ensures in
    subst (λ (k : Keyed). IsKeyed c.args.table.now k) (sym new)
    (deleted-keyed c.args.table.now c.args.number (condition_of c.args.filter.now.condition) c.args.rows.now c.requires.keyed c.in-Ok.changes c.in-Ok.ensures c.know_ascending.ensures)
