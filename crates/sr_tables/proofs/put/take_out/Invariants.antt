use Rattle.std.proofs.Common.{◌≡◌, drop}
use Rattle.std.specs.Prelude.{filter}
use Rattle.sr_tables.specs.Added.{is_unchanged}
use Rattle.sr_tables.proofs.put.take_out.Given as goal

abbrev pub invariant-loop-change : goal.invariant-loop-change
invariant-loop-change l = record {
  key : l.rows.key ≡ l.initial.rows.key;
  kind : l.rows.kind ≡ l.initial.rows.kind;
  rest : filter (is_unchanged l.initial.rows.key (drop l.change-index l.changes)) l.rows.rows ≡ filter (is_unchanged l.initial.rows.key l.changes) l.initial.rows.rows;
}
