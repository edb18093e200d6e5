use Rattle.std.proofs.Common.{sym, subst}
use Rattle.sr_store.specs.Stores.{IsStore}
use Rattle.sr_store.proofs.Dropping.{evicted_store}
use Rattle.sr_store.proofs.Fewer.{fitted_keeps}
use Rattle.sr_store.proofs.Starting.{regions-store}
use Rattle.sr_store.proofs.store.Store.of.Goals as goal

pub keep-requires-clause-store : goal.keep-requires-clause-store
keep-requires-clause-store c = subst (IsStore c.args.schema.now) (sym c.in_ok-regions.ensures) (regions-store c.args.schema.now c.args.kept c.requires.lawful)

pub returns-clause-store : goal.returns-clause-store
returns-clause-store c =
    let schema = c.args.schema.now in
    let kept = c.in_ok-marks-2.ensures.kept in
    let store = subst (IsStore schema) (sym c.in_ok-regions.ensures) (regions-store schema c.args.kept c.requires.lawful) in
    fitted_keeps schema _ _ _ _ kept.0 (IsStore schema) (λ n gs p. evicted_store schema n gs p) kept.1 store
