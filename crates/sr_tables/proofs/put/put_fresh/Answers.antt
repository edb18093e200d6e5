use Rattle.std.proofs.Common.{ap, ◌∙◌}
use Rattle.std.specs.Prelude.{filter}
use Rattle.std.specs.List.{list_all}
use Rattle.sr_rows.specs.Places.{is_apart}
use Rattle.sr_tables.specs.Added.{is_changed, is_unchanged}
use Rattle.sr_tables.proofs.Inserting.{apart-each}
use Rattle.sr_tables.proofs.Taking.{fresh_changed, old_stay}
use Rattle.sr_tables.proofs.put.put_fresh.Goals as goal

pub put_each-requires-clause-changed : goal.put_each-requires-clause-changed
put_each-requires-clause-changed c =
    let key = c.args.table.now.key in
    ap (λ changes. list_all (is_changed key changes) c.in-Ok.added) c.in-Ok-changes_of.ensures ∙ fresh_changed c.args.number key c.in-Ok.added

pub put_each-requires-clause-others : goal.put_each-requires-clause-others
put_each-requires-clause-others c =
    let key = c.args.table.now.key in
    let rows = c.args.rows.now.rows in
    let each = ap (λ xs. list_all (is_apart key rows) xs) c.in-Ok.ensures ∙ apart-each key rows c.args.fresh.rows c.requires.apart in
    ap (λ changes. filter (is_unchanged key changes) rows) c.in-Ok-changes_of.ensures ∙ old_stay c.args.number key rows c.in-Ok.added each
