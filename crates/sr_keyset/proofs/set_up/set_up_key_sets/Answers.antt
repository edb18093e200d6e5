use Rattle.std.proofs.Common.{refl}
use Rattle.sr_grammar_laws.proofs.OneSaying.{each_says_something}
use Rattle.sr_keyset.specs.Lines.{words_in}
use Rattle.sr_keyset.specs.Plans.{Said, key_set_plan}
use Rattle.sr_keyset.proofs.set_up.set_up_key_sets.Goals as goal

pub returns-in-Ok-new-clause-asked : goal.returns-in-Ok-new-clause-asked
returns-in-Ok-new-clause-asked c =
    let said : Said = λ text. (each_says_something text).0 in
    let asked = c.in-Ok.ensures.asked in (
      λ answer. key_set_plan c.in-Ok.read.schema said (words_in c.args.script.now),
      record {
        inside = asked.inside;
        created = asked.created;
        accepts = asked.accepts;
        said = said;
        says = λ text. (each_says_something text).1;
        ahead_is = λ answer. refl;
      },
      c.in-Ok-new.ensures.follows said (λ text. (each_says_something text).1),
    )
