-- Statements but CREATE, printed.
use Rattle.std.proofs.Common.{◌≡◌, ℕ, List, [], ◌∷◌, ◌++◌, Option, Some, None, refl, sym, ap, subst}
use Rattle.std.specs.Prelude.{codes, flat_map}
use Rattle.sr_grammar.specs.Tokens.{Tok}
use Rattle.sr_grammar.specs.Trees.{Statement, Selects, Inserts, Updates, Deletes, Tree, Says}
use Rattle.sr_grammar.specs.Rules.{Rule}
use Rattle.sr_grammar.specs.Conditions.{MARK, ListOf}
use Rattle.sr_grammar.specs.Statements.{Where, IsWhere, filter_of, place_of_where, IsJoin, select_of, IsSelect, IsRow, IsInsert, IsSet, IsUpdate, IsDelete}
use Rattle.sr_grammar.specs.Printed.{key, name, commas, where_tokens, listed, join, column_names, row, set, printed_tokens}
use Rattle.sr_print.proofs.AgainTokens.{Writable, joined, cut, at_end, each, in_list}
use Rattle.sr_print.proofs.AgainWords.{name_again, name_one, writable_name}
use Rattle.sr_print.proofs.AgainParts.{placed, where_again, listed_again, join_again, column_names_again, row_again, set_again}

-- a statement that is spelled by its printed tokens
abbrev pub Restated : Rule Tree → Tree → Type 0
Restated P tree = (s : Statement) × (tree ≡ Says s) × P (Says s) (printed_tokens s) × Writable (printed_tokens s)

filter_placed : (place : ℕ) (filter : Option Where) → filter_of (placed place filter) ≡ filter_of filter
filter_placed place None = refl
filter_placed place (Some filter) = refl

placed_same : (filter : Option Where) → placed (place_of_where filter) filter ≡ filter
placed_same None = refl
placed_same (Some filter) = refl

pub select_again : (n : ℕ) (tree : Tree) (x : List Tok) → Writable x → IsSelect n tree x → Restated (IsSelect n) tree
select_again n tree x w h =
    let a = cut x h.1 h.2 w h.3 in
    let list = h.5 in
    let b = cut h.2 list.1 list.2 a.1 list.3 in
    let from = list.5 in
    let c = cut list.2 from.1 from.2 b.1 from.3 in
    let first = from.5 in
    let d = cut from.2 first.1 first.2 c.1 first.3 in
    let joins = first.5 in
    let e = cut first.2 joins.1 joins.2 d.1 joins.3 in
    let filter = joins.5 in
    let f = cut joins.2 filter.1 filter.2 e.1 filter.3 in
    let place = place_of_where filter.0 in
    let l = listed_again list.0 list.1 b.0 list.4 in
    let t = name_again first.0 first.1 d.0 first.4 in
    let j = each IsJoin join join_again joins.0 joins.1 e.0 joins.4 in
    let r = where_again n place filter.0 filter.1 f.0 filter.4 in
    let said = select_of list.0 first.0 joins.0 filter.0 in
    let end = where_tokens place (filter_of filter.0) in
    let behind = flat_map join joins.0 ++ end in
    let table = name first.0.text first.0.place ∷ behind in
    let spelled = subst (λ z. IsWhere n z end) (placed_same filter.0) r.0 in (
      Selects said,
      filter.5.0,
      (
        0,
        key (codes "SELECT") ∷ [],
        listed list.0.all list.0.list ++ key (codes "FROM") ∷ table,
        refl,
        (key (codes "SELECT"), refl, refl),
        (
          list.0,
          listed list.0.all list.0.list,
          key (codes "FROM") ∷ table,
          refl,
          l.0,
          (
            0,
            key (codes "FROM") ∷ [],
            table,
            refl,
            (key (codes "FROM"), refl, refl),
            (
              first.0,
              name first.0.text first.0.place ∷ [],
              behind,
              refl,
              name_one first.0.text first.0.place,
              (joins.0, flat_map join joins.0, end, refl, j.0, at_end (IsWhere n) _ (λ filter. Says (Selects (select_of list.0 first.0 joins.0 filter))) filter.0 _ refl spelled),
            ),
          ),
        ),
      ),
      joined (listed list.0.all list.0.list) (key (codes "FROM") ∷ table) l.1 (writable_name first.0.text first.0.place behind t (joined (flat_map join joins.0) end j.1 r.1)),
    )

pub insert_again : (tree : Tree) (x : List Tok) → Writable x → IsInsert tree x → Restated IsInsert tree
insert_again tree x w h =
    let a = cut x h.1 h.2 w h.3 in
    let into = h.5 in
    let b = cut h.2 into.1 into.2 a.1 into.3 in
    let table = into.5 in
    let c = cut into.2 table.1 table.2 b.1 table.3 in
    let names = table.5 in
    let d = cut table.2 names.1 names.2 c.1 names.3 in
    let values = names.5 in
    let e = cut names.2 values.1 values.2 d.1 values.3 in
    let rows = values.5 in
    let f = cut values.2 rows.1 rows.2 e.1 rows.3 in
    let t = name_again table.0 table.1 c.0 table.4 in
    let l = column_names_again names.0 names.1 d.0 names.4 in
    let r = in_list IsRow row row_again rows.0 rows.1 f.0 rows.4 in
    let end = key (codes "VALUES") ∷ commas row rows.0 in
    let behind = column_names names.0 ++ end in
    let title = name table.0.text table.0.place in (
      Inserts (record { table = table.0.text; place = table.0.place; columns = names.0; rows = rows.0 }),
      rows.5.0,
      (
        0,
        key (codes "INSERT") ∷ [],
        key (codes "INTO") ∷ title ∷ behind,
        refl,
        (key (codes "INSERT"), refl, refl),
        (
          0,
          key (codes "INTO") ∷ [],
          title ∷ behind,
          refl,
          (key (codes "INTO"), refl, refl),
          (
            table.0,
            title ∷ [],
            behind,
            refl,
            name_one table.0.text table.0.place,
            (
              names.0,
              column_names names.0,
              end,
              refl,
              l.0,
              (
                0,
                key (codes "VALUES") ∷ [],
                commas row rows.0,
                refl,
                (key (codes "VALUES"), refl, refl),
                at_end (ListOf (MARK (codes ",")) IsRow) _ (λ rows. Says (Inserts (record { table = table.0.text; place = table.0.place; columns = names.0; rows = rows }))) rows.0 _ refl r.0,
              ),
            ),
          ),
        ),
      ),
      writable_name table.0.text table.0.place behind t (joined (column_names names.0) end l.1 r.1),
    )

pub update_again : (n : ℕ) (tree : Tree) (x : List Tok) → Writable x → IsUpdate n tree x → Restated (IsUpdate n) tree
update_again n tree x w h =
    let a = cut x h.1 h.2 w h.3 in
    let table = h.5 in
    let b = cut h.2 table.1 table.2 a.1 table.3 in
    let to = table.5 in
    let c = cut table.2 to.1 to.2 b.1 to.3 in
    let sets = to.5 in
    let d = cut to.2 sets.1 sets.2 c.1 sets.3 in
    let filter = sets.5 in
    let e = cut sets.2 filter.1 filter.2 d.1 filter.3 in
    let t = name_again table.0 table.1 b.0 table.4 in
    let l = in_list IsSet set set_again sets.0 sets.1 d.0 sets.4 in
    let r = where_again n 0 filter.0 filter.1 e.0 filter.4 in
    let end = where_tokens 0 (filter_of filter.0) in
    let behind = key (codes "SET") ∷ (commas set sets.0 ++ end) in
    let title = name table.0.text table.0.place in
    let same = ap (λ z. Says (Updates (record { table = table.0.text; place = table.0.place; sets = sets.0; filter = z }))) (sym (filter_placed 0 filter.0)) in (
      Updates (record { table = table.0.text; place = table.0.place; sets = sets.0; filter = filter_of filter.0 }),
      filter.5.0,
      (
        0,
        key (codes "UPDATE") ∷ [],
        title ∷ behind,
        refl,
        (key (codes "UPDATE"), refl, refl),
        (
          table.0,
          title ∷ [],
          behind,
          refl,
          name_one table.0.text table.0.place,
          (
            0,
            key (codes "SET") ∷ [],
            commas set sets.0 ++ end,
            refl,
            (key (codes "SET"), refl, refl),
            (
              sets.0,
              commas set sets.0,
              end,
              refl,
              l.0,
              at_end (IsWhere n) _ (λ filter. Says (Updates (record { table = table.0.text; place = table.0.place; sets = sets.0; filter = filter_of filter }))) (placed 0 filter.0) _ same r.0,
            ),
          ),
        ),
      ),
      writable_name table.0.text table.0.place behind t (joined (commas set sets.0) end l.1 r.1),
    )

pub delete_again : (n : ℕ) (tree : Tree) (x : List Tok) → Writable x → IsDelete n tree x → Restated (IsDelete n) tree
delete_again n tree x w h =
    let a = cut x h.1 h.2 w h.3 in
    let from = h.5 in
    let b = cut h.2 from.1 from.2 a.1 from.3 in
    let table = from.5 in
    let c = cut from.2 table.1 table.2 b.1 table.3 in
    let filter = table.5 in
    let d = cut table.2 filter.1 filter.2 c.1 filter.3 in
    let t = name_again table.0 table.1 c.0 table.4 in
    let r = where_again n 0 filter.0 filter.1 d.0 filter.4 in
    let end = where_tokens 0 (filter_of filter.0) in
    let title = name table.0.text table.0.place in
    let same = ap (λ z. Says (Deletes (record { table = table.0.text; place = table.0.place; filter = z }))) (sym (filter_placed 0 filter.0)) in (
      Deletes (record { table = table.0.text; place = table.0.place; filter = filter_of filter.0 }),
      filter.5.0,
      (
        0,
        key (codes "DELETE") ∷ [],
        key (codes "FROM") ∷ title ∷ end,
        refl,
        (key (codes "DELETE"), refl, refl),
        (
          0,
          key (codes "FROM") ∷ [],
          title ∷ end,
          refl,
          (key (codes "FROM"), refl, refl),
          (
            table.0,
            title ∷ [],
            end,
            refl,
            name_one table.0.text table.0.place,
            at_end (IsWhere n) _ (λ filter. Says (Deletes (record { table = table.0.text; place = table.0.place; filter = filter_of filter }))) (placed 0 filter.0) _ same r.0,
          ),
        ),
      ),
      writable_name table.0.text table.0.place end t r.1,
    )
