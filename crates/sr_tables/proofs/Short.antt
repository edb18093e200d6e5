-- A statement of few rows is bound to a write of few rows.
use Rattle.std.proofs.Common.{◌≡◌, ℕ, List, [], length, Ok, Err, refl, sym, subst, IsTrue}
use Rattle.std.specs.Prelude.{Result, ◌^◌, nat_lt}
use Rattle.sr_cell.specs.declared.fault.Fault.{Fault}
use Rattle.sr_cell.specs.declared.table.Table.{Table}
use Rattle.sr_cell.specs.Cells.{Row}
use Rattle.sr_cell.specs.Columns.{table_at}
use Rattle.sr_cell.specs.Names.{table_named}
use Rattle.sr_grammar.specs.declared.statement.Insert.{Insert}
use Rattle.sr_grammar.specs.Trees as tree
use Rattle.sr_model.specs.Statements.{Write, Insert as Inserting, Update as Updating, Delete as Deleting}
use Rattle.sr_query.specs.Binding.{◌>>=◌, each}
use Rattle.sr_query.specs.Writes.{bound_write, table_known, listed, row_of, inserting, updating, deleting, places_from, condition_in}
use Rattle.sr_query.proofs.Steps.{each-length}
use Rattle.sr_tables.specs.Stored.{is_short, statement_is_short}

record Bind {A B : Type 0} (r : Result A Fault) (f : A → Result B Fault) (b : B) : Type 0 where
  value : A
  is : r ≡ Ok value
  rest : f value ≡ Ok b

bind : {A B : Type 0} (r : Result A Fault) (f : A → Result B Fault) (b : B) → (r >>= f) ≡ Ok b → Bind r f b
bind (Ok a) f b is = record { value = a; is = refl; rest = is }
bind (Err e) f b is = absurd (cc)

insert-short : (schema : List Table) (s : Insert) (t : ℕ) (w : Write) → inserting schema s t ≡ Ok w → IsTrue (nat_lt (length s.rows) (2 ^ 32)) → IsTrue (is_short w)
insert-short schema s t w is short =
    let made : List Row → Result Write Fault = λ rows. Ok (Inserting t rows) in
    let c = bind (listed (table_at schema t) s.place s.columns) (λ columns. each (row_of (table_at schema t) columns) s.rows >>= made) w is in
    let r = bind (each (row_of (table_at schema t) c.value) s.rows) made w c.rest in
    let same : Inserting t r.value ≡ w = (let k = r.rest in cc) in
    let count : length r.value ≡ length s.rows = each-length (row_of (table_at schema t) c.value) s.rows r.value r.is in
    subst (λ w. IsTrue (is_short w)) same (subst (λ n. IsTrue (nat_lt n (2 ^ 32))) (sym count) short)

update-short : (schema : List Table) (s : tree.Update) (t : ℕ) (w : Write) → updating schema s t ≡ Ok w → IsTrue (is_short w)
update-short schema s t w is =
    let p = bind (places_from (table_at schema t) [] s.sets) (λ places. condition_in schema t s.filter >>= λ c. Ok (Updating t places c)) w is in
    let c = bind (condition_in schema t s.filter) (λ c. Ok (Updating t p.value c)) w p.rest in
    let same : Updating t p.value c.value ≡ w = (let k = c.rest in cc) in
    subst (λ w. IsTrue (is_short w)) same refl

delete-short : (schema : List Table) (s : tree.Delete) (t : ℕ) (w : Write) → deleting schema s t ≡ Ok w → IsTrue (is_short w)
delete-short schema s t w is =
    let c = bind (condition_in schema t s.filter) (λ c. Ok (Deleting t c)) w is in
    let same : Deleting t c.value ≡ w = (let k = c.rest in cc) in
    subst (λ w. IsTrue (is_short w)) same refl

pub bound-short : (schema : List Table) (s : tree.Statement) (w : Write) → bound_write schema s ≡ Ok w → IsTrue (statement_is_short s) → IsTrue (is_short w)
bound-short schema (tree.Create t) w is short = absurd (cc)
bound-short schema (tree.Selects s) w is short = absurd (cc)
bound-short schema (tree.Inserts s) w is short =
    let t = bind (table_known s.place (table_named schema s.table)) (inserting schema s) w is in
    insert-short schema s t.value w t.rest short
bound-short schema (tree.Updates s) w is short =
    let t = bind (table_known s.place (table_named schema s.table)) (updating schema s) w is in
    update-short schema s t.value w t.rest
bound-short schema (tree.Deletes s) w is short =
    let t = bind (table_known s.place (table_named schema s.table)) (deleting schema s) w is in
    delete-short schema s t.value w t.rest
