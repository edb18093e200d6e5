use Rattle.std.proofs.Common.{◌≡◌, ◌∙◌, List, sym, ap, subst}
use Rattle.std.specs.List.{All}
use Rattle.sr_cell.specs.declared.table.Table.{Table}
use Rattle.sr_store.specs.Stores.{IsStore}
use Rattle.sr_session.specs.Regions.{after_messages}
use Rattle.sr_client.specs.declared.client.Client.{Client}
use Rattle.sr_client.specs.Laying.{TellsRows}
use Rattle.sr_client.proofs.SettleLemmas.{fits-laid, laid-store}
use Rattle.sr_client.proofs.client.Client.settle_fit.Goals as goal

pub apply_laid-requires : goal.apply_laid-requires
apply_laid-requires c =
    let old = c.args.self.now in
    (old.schema, c.requires.stands.1.store, subst (All (TellsRows old.schema)) (sym c.replace-laid.ensures.value) (fits-laid old c.requires.stands c.requires.values))

pub fit-requires-clause-store : goal.fit-requires-clause-store
fit-requires-clause-store c =
    let old = c.args.self.now in
    let schema_is : c.apply_laid.new.self.schema ≡ old.schema = ap (λ (x : Client). x.schema) c.apply_laid.ensures.rest in
    let regions_are : c.apply_laid.new.self.store.regions ≡ after_messages old.laid old.store.regions =
    c.in_ok-apply_laid.ensures.applied ∙ ap (λ ms. after_messages ms old.store.regions) c.replace-laid.ensures.value in
    subst (λ (s : List Table). IsStore s c.apply_laid.new.self.store.regions) (sym schema_is) (subst (IsStore old.schema) (sym regions_are) (laid-store old c.requires.stands c.requires.values))
