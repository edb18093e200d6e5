use Rattle.std.proofs.Common.{◌≡◌, filter, length, arith, rules}
use Rattle.sr_grammar.specs.Trees.{is_key, key_of}
use Rattle.sr_grammar_laws.proofs.Columns.{key_short}
use Rattle.sr_sql.proofs.judge.table_of.Goals as goal

pub overflow_cast-key : goal.overflow_cast-key
overflow_cast-key c =
    let columns = c.args.written.columns in
    let one : length (filter is_key columns) ≡ 1 = search rules in
    let key : c.first_key-key.result ≡ key_of columns = search rules in
    let few = c.requires.few in
    omega (arith, key_short columns (omega (arith, one)), key, few)
