use Rattle.std.proofs.Common.{◌≡◌, List}
use Rattle.std.specs.List.{All}
use Rattle.std.specs.Vec.Iter.{into_iter_items}
use Rattle.sr_cell.specs.declared.table.Table.{Table}
use Rattle.sr_store.specs.Stores.{IsStore}
use Rattle.sr_session.specs.Regions.{after_messages}
use Rattle.sr_client.specs.Arriving.{with_messages}
use Rattle.sr_client.specs.Laying.{TellsRows}
use Rattle.sr_client.proofs.client.Client.apply_laid.Given as goal

abbrev pub invariant-loop-message : goal.invariant-loop-message
invariant-loop-message l = record {
  same : l.self ≡ record l.initial.self { store = record l.initial.self.store { regions = l.self.store.regions } };
  applied : after_messages (into_iter_items l.message-iterator) l.self.store.regions ≡ after_messages l.fn.laid l.initial.self.store.regions;
  arrivals : with_messages (into_iter_items l.message-iterator) l.arrivals ≡ with_messages l.fn.laid l.initial.arrivals;
  store : (schema : List Table) → IsStore schema l.initial.self.store.regions → All (TellsRows schema) l.fn.laid
      → IsStore schema l.self.store.regions × All (TellsRows schema) (into_iter_items l.message-iterator);
}
