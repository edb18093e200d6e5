use Rattle.std.proofs.Common.{◌≡◌, ◌+◌, ◌∷◌, length, drop, get_or, ap, sym, ◌∙◌, arith}
use Rattle.std.specs.Prelude.{filter}
use Rattle.std.proofs.lemmas.List.{drop_all, drop_more}
use Rattle.sr_rows.specs.Keys.{without_key}
use Rattle.sr_tables.specs.Added.{is_unchanged}
use Rattle.sr_tables.proofs.Taking.{take_next, take_none}
use Rattle.sr_tables.proofs.Keeping.{same_keyed}
use Rattle.sr_tables.proofs.put.take_out.Goals as goal

pub loop-change-preserved : goal.loop-change-preserved
loop-change-preserved c =
    let key = c.args.rows.now.key in
    let rows = c.loop-change.rows.rows in
    let changes = c.args.changes.now in
    let i = c.loop-change.change-index in
    let change = c.change-item.result in
    let after = drop (i + 1) changes in
    let count = ap (λ xs. length xs) c.as_slice-change-items.ensures in
    let is : change ≡ get_or changes i change = c.change-item.is ∙ ap (λ xs. get_or xs i change) c.as_slice-change-items.ensures in
    let item : drop i changes ≡ change ∷ after = drop_more changes i change (omega arith) ∙ ap (λ x. x ∷ after) (sym is) in
    let new = c.remove.ensures in
    record {
      key = ap (λ k. k.key) new ∙ c.loop-change.invariant.key;
      kind = ap (λ k. k.kind) new ∙ c.loop-change.invariant.kind;
      rest = ap (λ k. filter (is_unchanged key after) k.rows) new
          ∙ ap (λ n. filter (is_unchanged key after) (without_key n change.key rows)) c.loop-change.invariant.key
          ∙ take_next key change after rows ∙ ap (λ xs. filter (is_unchanged key xs) rows) (sym item) ∙ c.loop-change.invariant.rest;
    }

pub returns : goal.returns
returns c =
    let key = c.args.rows.now.key in
    let rows = c.loop-change.rows.rows in
    let changes = c.args.changes.now in
    let count = ap (λ xs. length xs) c.as_slice-change-items.ensures in
    let none = drop_all c.loop-change.change-index changes (omega arith) in
    same_keyed c.loop-change.rows key c.args.rows.now.kind (filter (is_unchanged key changes) c.args.rows.now.rows) c.loop-change.invariant.key c.loop-change.invariant.kind
    (sym (take_none key rows) ∙ ap (λ xs. filter (is_unchanged key xs) rows) (sym none) ∙ c.loop-change.invariant.rest)
