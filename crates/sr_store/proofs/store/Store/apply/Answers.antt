use Rattle.std.proofs.Common.{sym, subst, ap}
use Rattle.std.proofs.lemmas.Result.{on_ok_weaker}
use Rattle.sr_store.specs.Stores.{IsStore}
use Rattle.sr_store.specs.declared.store.Store.{Store}
use Rattle.sr_store.proofs.Storing.{store-told}
use Rattle.sr_store.proofs.store.Store.apply.Goals as goal

pub returns-clause-store : goal.returns-clause-store
returns-clause-store c = λ schema.
    on_ok_weaker c.apply_from.result
    (λ applied h all. subst (IsStore schema) (sym (ap (λ (s : Store). s.regions) applied)) (store-told schema c.args.told.now c.args.self.now.regions h all)) c.apply_from.ensures.applied
