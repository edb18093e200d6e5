use Rattle.std.proofs.Common.{◌≡◌, ◌∙◌, ◌<◌, List, [], true, length, sym, ap, subst}
use Rattle.std.proofs.lemmas.List.{get_or_read}
use Rattle.sr_cell.specs.declared.table.Table.{Table}
use Rattle.sr_cell.specs.Columns.{table_at}
use Rattle.sr_box.specs.Corners.{have_first}
use Rattle.sr_union.specs.Grid.{all_inner}
use Rattle.sr_store.proofs.Tables.{tables_inner, tables_first}
use Rattle.sr_client.proofs.victims.table_at.Goals as goal

pub returns-clause-inner : goal.returns-clause-inner
returns-clause-inner c =
    let within : c.args.number < length c.as_slice.result.now = subst (λ (ts : List Table). c.args.number < length ts) (sym c.as_slice.ensures) c.requires.within in
    let read = get_or_read c.as_slice.result.now c.args.number c.index-as_slice-number.result within c.index-as_slice-number.is (record { name = []; columns = []; key = 0 }) in
    let is : c.index-as_slice-number.result ≡ table_at c.args.schema.now c.args.number = read ∙ ap (λ ts. table_at ts c.args.number) c.as_slice.ensures in
    subst (λ (t : Table). all_inner t.columns ≡ true) (sym is) (tables_inner c.args.schema.now c.args.number c.requires.sound)

pub returns-clause-first : goal.returns-clause-first
returns-clause-first c =
    let within : c.args.number < length c.as_slice.result.now = subst (λ (ts : List Table). c.args.number < length ts) (sym c.as_slice.ensures) c.requires.within in
    let read = get_or_read c.as_slice.result.now c.args.number c.index-as_slice-number.result within c.index-as_slice-number.is (record { name = []; columns = []; key = 0 }) in
    let is : c.index-as_slice-number.result ≡ table_at c.args.schema.now c.args.number = read ∙ ap (λ ts. table_at ts c.args.number) c.as_slice.ensures in
    subst (λ (t : Table). have_first t.columns ≡ true) (sym is) (tables_first c.args.schema.now c.args.number c.requires.sound)
