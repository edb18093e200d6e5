-- On any link a client keeps to its budgets.
use Rattle.std.proofs.Common.{◌≤◌, map, sym, subst}
use Rattle.std.proofs.lemmas.List.{length-map}
use Rattle.sr_history.specs.Classes.{stamp}
use Rattle.sr_store.specs.Past.{class_of}
use Rattle.sr_store.proofs.Classing.{all_solid, are_classes}
use Rattle.sr_store.proofs.KeptTold.{kept_told_rows}
use Rattle.sr_session.specs.Brought.{told_basis}
use Rattle.sr_session.specs.Headline.{KeepsToBudgets}
use Rattle.sr_client.specs.ByTold.{ClientsKeepToBudgets}
use Rattle.sr_client.proofs.TableLemmas.{have-first}

pub clients-keep-to-budgets : ClientsKeepToBudgets
clients-keep-to-budgets c past told (h, f, same) is =
    let first = have-first c.schema f.tables in
    subst (KeepsToBudgets (told_basis c.schema c.store.limits told)) (sym same) (record {
      rows = subst (λ n. n ≤ c.store.limits.rows)
          (sym (kept_told_rows c.schema told h.marks (stamp h.queries) c.store.regions first is.0 f.store.each (all_solid c.schema c.store.regions first f.store.each) f.keeps is.1)) f.rows;
      classes = map class_of c.store.regions;
      are = are_classes c.schema h.marks h.queries c.store.regions first f.store.each f.store.order f.keeps;
      few = subst (λ n. n ≤ c.store.limits.regions) (sym (length-map c.store.regions class_of)) f.few;
    })
