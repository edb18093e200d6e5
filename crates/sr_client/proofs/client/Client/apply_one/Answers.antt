use Rattle.std.proofs.Common.{sym, subst}
use Rattle.std.specs.Prelude.{OnOk}
use Rattle.std.specs.List.{All}
use Rattle.sr_store.specs.declared.store.Store.{Store}
use Rattle.sr_store.specs.Noticed.{IsTellOf}
use Rattle.sr_store.specs.Stores.{IsStore}
use Rattle.sr_store.proofs.Fewer.{none_store}
use Rattle.sr_client.specs.Laying.{TellsRows}
use Rattle.sr_client.proofs.client.Client.apply_one.Goals as goal

pub returns-in-Notice-clause-store : goal.returns-in-Notice-clause-store
returns-in-Notice-clause-store c = λ schema.
    let regions = c.args.self.now.store.regions in
    let new = c.apply.new.self.regions in
    subst (λ m. OnOk c.apply.result (IsStore schema regions → TellsRows schema m → IsStore schema new)) (sym c.in-Notice.is)
    (subst (λ told. OnOk c.apply.result (IsStore schema regions → All (IsTellOf schema) told → IsStore schema new)) c.as_slice.ensures (c.apply.ensures.store schema))

pub returns-in-Lapse-clause-store : goal.returns-in-Lapse-clause-store
returns-in-Lapse-clause-store c = λ schema store tells.
    subst (λ (s : Store). IsStore schema s.regions) (sym c.forget.ensures) (none_store schema c.args.self.now.store.regions store)
