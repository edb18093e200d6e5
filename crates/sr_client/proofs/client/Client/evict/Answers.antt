use Rattle.std.proofs.Common.{rules, sym, subst}
use Rattle.sr_client.specs.declared.client.Client.{Client}
use Rattle.sr_client.specs.declared.steps.EvictStep.TheVariants.{Dropped, NoSuch}
use Rattle.sr_client.specs.Steps.{Evicts}
use Rattle.sr_store.specs.declared.store.Store.{Store}
use Rattle.sr_client.proofs.EvictLemmas.{busy_evicts, none_evicts, one_evicts}
use Rattle.sr_client.proofs.client.Client.evict.Goals as goal

abbrev with_store : Client → Store → Client
with_store c store = record c { store = store }

pub returns-in-Some-clause-evicts : goal.returns-in-Some-clause-evicts
returns-in-Some-clause-evicts c = busy_evicts c.args.self.now c.args.number c.number.result c.in-Some.request c.requires.stands (search rules) c.number.ensures

pub returns-in-Ok-clause-evicts : goal.returns-in-Ok-clause-evicts
returns-in-Ok-clause-evicts c =
    let old = c.args.self.now in
    subst (λ (s : Store). Evicts old c.args.number (with_store old s) (Dropped c.in-Ok.region)) (sym c.in-Ok.ensures.left)
    (one_evicts old c.args.number c.in-Ok.region c.requires.stands (search rules) c.in-Ok.ensures.evicted)

pub returns-in-Err-clause-evicts : goal.returns-in-Err-clause-evicts
returns-in-Err-clause-evicts c =
    let old = c.args.self.now in
    subst (λ (s : Store). Evicts old c.args.number (with_store old s) (NoSuch c.in-Err.no.count)) (sym c.in-Err.ensures.unchanged)
    (none_evicts old c.args.number c.in-Err.no.count c.requires.stands (search rules) c.in-Err.ensures.none.0 c.in-Err.ensures.none.1)
