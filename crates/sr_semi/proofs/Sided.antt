-- The sides that the code makes of a query.
use Rattle.std.proofs.Common.{◌≡◌, ℕ, zero, suc, subst, ◌<◌, ◌≤◌, true, List, [], ◌∷◌, length, map, Some, None, refl, sym, ap, ◌∙◌, arith}
use Rattle.std.specs.Prelude.{◌&&◌, nat_le, nat_lt, Ok, IsTrue, slice_get, slice_index_or}
use Rattle.std.specs.List.{AllZip, list_all}
use Rattle.std.proofs.lemmas.Bool.{and_parts, ltb-true}
use Rattle.std.proofs.lemmas.Bool.Decides.{nat_tests}
use Rattle.std.proofs.lemmas.List.{get_or-map, get_or_default, length-map}
use Rattle.sr_cell.specs.declared.fault.Fault.{Fault}
use Rattle.sr_cell.specs.declared.list.No.{No}
use Rattle.sr_cell.specs.declared.list.No.TheVariants.{Refused, NoMemory}
use Rattle.sr_cell.specs.declared.table.Table.{Table}
use Rattle.sr_cell.specs.Columns.{table_at}
use Rattle.sr_grammar.specs.declared.statement.Cond.{Cond}
use Rattle.sr_grammar.specs.Seen.{cond_seen}
use Rattle.sr_grammar.specs.Trees as tree
use Rattle.sr_model.specs.Queries as model
use Rattle.sr_query.specs.declared.query.KeyJoin.{KeyJoin}
use Rattle.sr_query.specs.declared.query.Part.{Part}
use Rattle.sr_query.specs.declared.query.Query.{Query}
use Rattle.sr_query.specs.Binding.{bound_query}
use Rattle.sr_query.specs.Bound.{is_table, IsJoin, IsPart, IsQuery}
use Rattle.sr_resolve.specs.Known.{are_known}
use Rattle.sr_lines.specs.Sound.{is_sound_part}
use Rattle.sr_lines.proofs.Joined.{bound_have_few_parts}
use Rattle.sr_lines.proofs.Sound.{bound_are_sound}
use Rattle.sr_semi.specs.declared.fault.SemiFault.TheVariants.{Sql}
use Rattle.sr_semi.specs.Starting.{as_sql}
use Rattle.sr_semi.proofs.Looking.{at-place}
use Rattle.sr_semi.specs.Seen.{left_seen, right_seen}
use Rattle.sr_semi.specs.Sides.{first_join, left_of, part_at, right_of, tables_of, where_of}
use Rattle.sr_semi.specs.Texts.{conjuncts_on, text_of}

pub first-column : (js : List KeyJoin) (ms : List model.Join) (j : KeyJoin) (d : model.Join) → AllZip IsJoin js ms → slice_get js 0 ≡ Some j → j.column ≡ (slice_index_or ms 0 d).column
first-column [] ms j d zip e = absurd cc
first-column (k ∷ js) [] j d zip e = absurd zip
first-column (k ∷ js) (m ∷ ms) j d zip e = let same : k ≡ j = cc e in sym (ap (λ (x : KeyJoin). x.column) same) ∙ zip.0.column

pub no-column : (js : List KeyJoin) (ms : List model.Join) (d : model.Join) → AllZip IsJoin js ms → slice_get js 0 ≡ None → d.column ≡ (slice_index_or ms 0 d).column
no-column [] [] d zip e = refl
no-column [] (m ∷ ms) d zip e = absurd zip
no-column (k ∷ js) ms d zip e = absurd cc

pub tables-same : (schema : List Table) (ps : List Part) (ms : List model.Part) → AllZip (IsPart schema) ps ms → map (λ (p : Part). p.table) ps ≡ map (λ (m : model.Part). m.table) ms
tables-same schema [] [] zip = refl
tables-same schema [] (m ∷ ms) zip = absurd zip
tables-same schema (p ∷ ps) [] zip = absurd zip
tables-same schema (p ∷ ps) (m ∷ ms) zip = rw (zip.0.table, tables-same schema ps ms zip.1) refl

pub part-is : (schema : List Table) (ps : List Part) (ms : List model.Part) (i : ℕ) (p : Part) (d : model.Part) → AllZip (IsPart schema) ps ms → i < length ps → p ≡ slice_index_or ps i p → IsPart schema p (slice_index_or ms i d)
part-is schema [] ms i p d zip less e = absurd (omega (arith, less))
part-is schema (q ∷ ps) [] i p d zip less e = absurd zip
part-is schema (q ∷ ps) (m ∷ ms) zero p d zip less e = subst (λ x. IsPart schema x m) (sym e) zip.0
part-is schema (q ∷ ps) (m ∷ ms) (suc i) p d zip less e = part-is schema ps ms i p d zip.1 (omega (arith, less)) e

-- the table of a part
pub table-is : (schema : List Table) (tables : List ℕ) (ps : List Part) (i : ℕ) (p : Part) (table : Table) → IsTrue (are_known schema tables) → tables ≡ map (λ (p : Part). p.table) ps → i < length ps
    → p ≡ slice_index_or ps i p → table ≡ slice_index_or schema p.table table → table ≡ table_at schema p.table
table-is schema tables ps i p table known each less part is =
    let k = and_parts (list_all is_table schema) (nat_le (length tables) 4 && list_all (λ t. nat_lt t (length schema)) tables) known in
    let all = and_parts (nat_le (length tables) 4) (list_all (λ t. nat_lt t (length schema)) tables) k.1 in
    let count : length tables ≡ length ps = ap length each ∙ length-map ps (λ (p : Part). p.table) in
    let here : slice_index_or tables i 0 ≡ p.table =
    ap (λ ts. slice_index_or ts i 0) each ∙ (get_or-map (λ (p : Part). p.table) ps i p 0 less ∙ ap (λ (p : Part). p.table) (sym part)) in
    let one = at-place (λ t. nat_lt t (length schema)) tables i 0 all.1 (omega (arith, less, count)) in
    let within = ltb-true p.table (length schema) (ap (λ t. nat_lt t (length schema)) (sym here) ∙ one) in
    is ∙ get_or_default schema p.table table (record { name = []; columns = []; key = 0 }) within

-- ---- queries that are bound

pub same-count : (schema : List Table) (ps : List Part) (ms : List model.Part) → AllZip (IsPart schema) ps ms → length ps ≡ length ms
same-count schema [] [] zip = refl
same-count schema [] (m ∷ ms) zip = absurd zip
same-count schema (p ∷ ps) [] zip = absurd zip
same-count schema (p ∷ ps) (m ∷ ms) zip = ap suc (same-count schema ps ms zip.1)

pub few-parts : (schema : List Table) (s : tree.Statement) (query : Query) (q : model.Query) → bound_query schema s ≡ Ok q → IsQuery schema query q → length query.parts ≤ 4
few-parts schema s query q e is =
    let few = bound_have_few_parts schema s q e in
    let same = same-count schema query.parts q.parts is.parts in
    omega (arith, few, same)

pub parts-within : (schema : List Table) (s : tree.Statement) (query : Query) (q : model.Query) → bound_query schema s ≡ Ok q → IsQuery schema query q
    → list_all (λ (p : Part). nat_lt p.table (length schema)) query.parts ≡ true
parts-within schema s query q e is = go query.parts q.parts is.parts (and_parts (list_all (is_sound_part schema) q.parts) _ (bound_are_sound schema s q e)).0
  where
    go : (ps : List Part) (ms : List model.Part) → AllZip (IsPart schema) ps ms → list_all (is_sound_part schema) ms ≡ true → list_all (λ (p : Part). nat_lt p.table (length schema)) ps ≡ true
    go [] ms zip all = refl
    go (p ∷ ps) [] zip all = absurd zip
    go (p ∷ ps) (m ∷ ms) zip all =
        let a = and_parts (is_sound_part schema m) (list_all (is_sound_part schema) ms) all in
        let sound = a.0 in
        let here : nat_lt m.table (length schema) ≡ true = grind (arith, nat_tests, sound) in
        rw (zip.0.table, here) (go ps ms zip.1 a.1)

-- a refusal of a text
pub sql-of : (no : No Fault) (fault : Fault) → as_sql no ≡ Refused (Sql fault) → no ≡ Refused fault
sql-of (Refused f) fault e = let same : f ≡ fault = cc e in ap Refused same
sql-of NoMemory fault e = absurd cc

pub left-made : (schema : List Table) (s : tree.Statement) (query : Query) (q : model.Query) (p : Part) (table : Table) (conjuncts : List Cond) (tables text : List ℕ) (column : ℕ)
    → IsQuery schema query q → length query.parts ≡ 2 → tables ≡ map (λ (p : Part). p.table) query.parts → p ≡ slice_index_or query.parts 0 p → table ≡ table_at schema p.table
    → map cond_seen conjuncts ≡ conjuncts_on schema tables 0 (where_of s) → text ≡ text_of table p.need (map cond_seen conjuncts) → column ≡ (first_join q).column
    → left_seen (record { text = text; need = p.need; column = column }) ≡ left_of schema s q
left-made schema s query q p table conjuncts tables text column is two tables-are part table-is conjuncts-are text-is column-is =
    let at = part-is schema query.parts q.parts 0 p _ is.parts (omega (arith, two)) part in
    let same = tables-are ∙ tables-same schema query.parts q.parts is.parts in
    let one : table ≡ table_at schema (part_at q 0).table = table-is ∙ ap (table_at schema) at.table in
    let conds : map cond_seen conjuncts ≡ conjuncts_on schema (tables_of q) 0 (where_of s) = conjuncts-are ∙ ap (λ ts. conjuncts_on schema ts 0 (where_of s)) same in
    rw (text-is, one, at.need, conds, column-is) refl

pub right-made : (schema : List Table) (s : tree.Statement) (query : Query) (q : model.Query) (p : Part) (table : Table) (conjuncts : List Cond) (tables : List ℕ)
    → IsQuery schema query q → length query.parts ≡ 2 → tables ≡ map (λ (p : Part). p.table) query.parts → p ≡ slice_index_or query.parts 1 p → table ≡ table_at schema p.table
    → map cond_seen conjuncts ≡ conjuncts_on schema tables 1 (where_of s)
    → right_seen (record { table = table; need = p.need; conjuncts = conjuncts; width = p.width }) ≡ right_of schema s q
right-made schema s query q p table conjuncts tables is two tables-are part table-is conjuncts-are =
    let at = part-is schema query.parts q.parts 1 p _ is.parts (omega (arith, two)) part in
    let same = tables-are ∙ tables-same schema query.parts q.parts is.parts in
    let one : table ≡ table_at schema (part_at q 1).table = table-is ∙ ap (table_at schema) at.table in
    let conds : map cond_seen conjuncts ≡ conjuncts_on schema (tables_of q) 1 (where_of s) = conjuncts-are ∙ ap (λ ts. conjuncts_on schema ts 1 (where_of s)) same in
    rw (one, at.need, conds, at.width) refl
