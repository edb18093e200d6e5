use Rattle.std.proofs.Common.{◌≡◌, true, rules}
use Rattle.std.specs.Prelude.{codes}
use Rattle.sr_grammar.specs.declared.statement.Atom.{Atom}
use Rattle.sr_grammar.specs.declared.statement.Atom.TheVariants as atoms
use Rattle.sr_grammar.specs.Tokens.{Key, is}
use Rattle.sr_grammar_laws.specs.Reading.{next_is}
use Rattle.sr_grammar_laws.specs.Readers.{between, atom}
use Rattle.sr_sql.proofs.Trees.{atom_between, reads_same}
use Rattle.sr_sql.proofs.conditions.atom.Goals as goal

pub returns-then-is_word : goal.returns-then-is_word
returns-then-is_word c =
    let other = rw c.in_default.is at c.maybe_word.ensures in
    let word : next_is (is Key (codes "BETWEEN")) c.args.cursor.now ≡ true = search rules in
    reads_same (λ (a : Atom). a) atom (between atoms.Between) c.args.cursor.now c.maybe_word.new.self c.between.new.cursor c.between.result
    (rw other.1 (atom_between c.args.cursor.now other.0 word)) c.between.ensures
