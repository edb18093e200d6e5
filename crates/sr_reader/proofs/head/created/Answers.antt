use Rattle.std.proofs.Common.{◌≡◌, ◌∙◌, ◌+◌, ◌≤◌, true, length, drop, sym, subst, ap, List, Err, arith}
use Rattle.std.specs.List.{list_all}
use Rattle.std.specs.Prelude.{IsErrOf}
use Rattle.sr_cell.specs.declared.list.No.TheVariants.{Refused}
use Rattle.sr_cell.specs.declared.table.Table.{Table}
use Rattle.sr_lines.specs.Lines.{lines_of}
use Rattle.sr_query.specs.Bound.{is_table}
use Rattle.sr_reader.specs.declared.head.RefusedLine.{RefusedLine}
use Rattle.sr_reader.specs.LineSeen.{words_seen}
use Rattle.sr_reader.proofs.Fronts.{Fronted, begins_of, fronted_silent, fronted_added, refused_here, event_creates, event_accepts, named_line, left_creates, none_left, table_grows}
use Rattle.sr_reader.proofs.Stages.{line_here, none_here}
use Rattle.sr_reader.proofs.head.created.Goals as goal
use Rattle.sr_reader.proofs.head.created.Goals.{in-Silent, in-Create+in-Ok}

-- a refusal is of one line
one_refused : {T : Type 0} (a b : RefusedLine) → IsErrOf {T = T} (Err (Refused a)) (Refused b) → a ≡ b
one_refused a b is = cc

pub add_table-requires : goal.add_table-requires
add_table-requires c =
    let here = line_here c.requires.0 c.requires.1 c.args.lines.now c.as_slice-line-items.result.now c.loop-i.i _ _ c.as_slice-line-items.ensures c.requires.2 c.loop-i-test.true c.in-Create.is in
    begins_of c.requires.0 here.0 c.in-Create.sql.now here.2

pub returns-in-Err-Refused-clause-refused : goal.returns-in-Err-Refused-clause-refused
returns-in-Err-Refused-clause-refused c clients bytes are refused is =
    let i = c.loop-i.i in
    let lines = lines_of bytes in
    let here = line_here clients bytes c.args.lines.now c.as_slice-line-items.result.now i _ _ c.as_slice-line-items.ensures are c.loop-i-test.true c.in-Create.is in
    let refuses = c.in-Err-Refused.ensures.refused c.in-Err-Refused.fault (ap (λ z. Err z) c.in-Err-Refused.field-0-is) in
    let first = refused_here clients (i + 1) lines (drop i lines) (drop (i + 1) lines) here.0 c.loop-i.schema (c.loop-i.invariant.1 clients bytes are) here.1 c.in-Create.sql.now c.in-Err-Refused.fault here.2 refuses in
    let line : RefusedLine = record { number = i + 1; fault = c.in-Err-Refused.fault } in
    named_line clients lines line refused (one_refused line refused (rw c.in-Err-Refused.field-0-is at is)) first

pub returns-in-Event-clause-created : goal.returns-in-Event-clause-created
returns-in-Event-clause-created c clients bytes are =
    let i = c.loop-i.i in
    let lines = lines_of bytes in
    let here = line_here clients bytes c.args.lines.now c.as_slice-line-items.result.now i _ _ c.as_slice-line-items.ensures are c.loop-i-test.true c.in-Event.is in
    event_creates clients (i + 1) lines (drop i lines) (drop (i + 1) lines) here.0 c.loop-i.schema (c.loop-i.invariant.1 clients bytes are) here.1 (words_seen c.in-Event.field-0) here.2

pub returns-in-Event-clause-accepts : goal.returns-in-Event-clause-accepts
returns-in-Event-clause-accepts c clients bytes are =
    let i = c.loop-i.i in
    let lines = lines_of bytes in
    let here = line_here clients bytes c.args.lines.now c.as_slice-line-items.result.now i _ _ c.as_slice-line-items.ensures are c.loop-i-test.true c.in-Event.is in
    event_accepts clients (i + 1) lines (drop i lines) (drop (i + 1) lines) here.0 c.loop-i.schema (c.loop-i.invariant.1 clients bytes are) here.1 (words_seen c.in-Event.field-0) here.2

pub loop-i-preserved : goal.loop-i-preserved
loop-i-preserved c =
    let i = c.loop-i.i in
    let items = c.as_slice-line-items.result.now in
    elim c.match-line.branch [
      | in-Silent w ↦ (
        subst (λ (z : List Table). list_all is_table z ≡ true) (sym w.schema-is) c.loop-i.invariant.0,
        λ clients bytes are.
            let here = line_here clients bytes c.args.lines.now items i _ _ c.as_slice-line-items.ensures are c.loop-i-test.true w.in-Silent.is in
            let next = fronted_silent clients (i + 1) (lines_of bytes) (drop i (lines_of bytes)) (drop (i + 1) (lines_of bytes)) here.0 c.loop-i.schema (c.loop-i.invariant.1 clients bytes are) here.1 here.2 in
            subst (λ (z : List Table). Fronted clients (lines_of bytes) (i + 1 + 1) (drop (i + 1) (lines_of bytes)) z) (sym w.schema-is) next,
      )
      | in-Create+in-Ok w ↦ (let added = w.in-Ok.ensures.added in (
        subst (λ (z : List Table). list_all is_table z ≡ true) (sym (w.schema-is ∙ added.2)) (table_grows c.loop-i.schema w.in-Create.sql.now added.0 c.loop-i.invariant.0 added.1),
        λ clients bytes are.
            let here = line_here clients bytes c.args.lines.now items i _ _ c.as_slice-line-items.ensures are c.loop-i-test.true w.in-Create.is in
            let next = fronted_added clients (i + 1) (lines_of bytes) (drop i (lines_of bytes)) (drop (i + 1) (lines_of bytes)) here.0 c.loop-i.schema (c.loop-i.invariant.1 clients bytes are) here.1 w.in-Create.sql.now added.0 here.2 added.1 in
            subst (λ (z : List Table). Fronted clients (lines_of bytes) (i + 1 + 1) (drop (i + 1) (lines_of bytes)) z) (sym (w.schema-is ∙ added.2)) next,
      ))
    ]

pub returns-clause-created : goal.returns-clause-created
returns-clause-created c clients bytes are =
    let i = c.loop-i.i in
    let past : length c.as_slice-line-items.result.now ≤ i = (let h = c.loop-i-test.false in omega (arith, h)) in
    left_creates clients (i + 1) (lines_of bytes) (drop i (lines_of bytes)) c.loop-i.schema (c.loop-i.invariant.1 clients bytes are) (none_here clients bytes c.args.lines.now c.as_slice-line-items.result.now i c.as_slice-line-items.ensures are past)

pub returns-clause-accepts : goal.returns-clause-accepts
returns-clause-accepts c clients bytes are =
    let i = c.loop-i.i in
    let past : length c.as_slice-line-items.result.now ≤ i = (let h = c.loop-i-test.false in omega (arith, h)) in
    none_left clients (i + 1) (lines_of bytes) (drop i (lines_of bytes)) c.loop-i.schema (c.loop-i.invariant.1 clients bytes are) (none_here clients bytes c.args.lines.now c.as_slice-line-items.result.now i c.as_slice-line-items.ensures are past)
