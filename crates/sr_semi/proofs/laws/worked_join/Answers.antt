use Rattle.std.proofs.Common.{refl}
use Rattle.std.specs.Fmt.{digits}
use Rattle.sr_token.specs.Tokens.{tokens_from}
use Rattle.sr_grammar_laws.specs.Readers.{literal, reference, in_list, atom, comparison, conj_of, cond_of, unit, filter, listed, select, tree, statement, whole}
use Rattle.sr_semi.proofs.laws.worked_join.Goals as goal

pub returns : goal.returns
unfolding digits tokens_from literal reference in_list atom comparison conj_of cond_of unit filter listed select tree statement whole
returns c = record { first = refl; second = refl; done = refl; again = refl; plain = refl; few = refl }
