use Rattle.std.proofs.Common.{◌≡◌, [], ◌++◌, ◌∙◌, sym, ap, subst}
use Rattle.std.proofs.lemmas.List.Elements.{All-append}
use Rattle.sr_store.specs.Stores.{IsOfSchema}
use Rattle.sr_store.specs.Renewing.{IsRenewal, with_regions}
use Rattle.sr_store.specs.Making.{CanJoin}
use Rattle.sr_store.proofs.Adding.{with_regions_append}
use Rattle.sr_store.proofs.Answering.{can_join}
use Rattle.sr_store.proofs.Arrived.{all_of}
use Rattle.sr_store.proofs.Keeping.{renewed_store}
use Rattle.sr_store.proofs.Tables.{tables_first}
use Rattle.sr_store.proofs.answer.renewed.Goals as goal

pub together-requires-clause-join : goal.together-requires-clause-join
together-requires-clause-join c =
    let schema = c.args.schema.now in
    let pieces = c.in-Ok.pieces in
    let arrived = c.in-Ok-arrived_regions.arrived in
    let each = All-append (IsOfSchema schema) pieces arrived c.in-Ok.ensures.restamped.each
    (all_of schema c.args.number c.args.parts.now c.args.arrivals arrived (λ t. tables_first schema t c.requires.tables) c.requires.arrivals c.in-Ok-arrived_regions.ensures.arrived) in
    subst (λ gs. CanJoin gs c.append.new.self) (sym c.new.ensures)
    (subst (CanJoin []) (sym c.in_ok-append-in-Ok-arrived_regions.ensures.appended) (can_join schema (pieces ++ arrived) each))

pub returns-clause-renewal : goal.returns-clause-renewal
returns-clause-renewal c =
    let schema = c.args.schema.now in
    let pieces = c.in-Ok.pieces in
    let arrived = c.in-Ok-arrived_regions.arrived in
    let is : c.in_ok-together.field-0 ≡ with_regions (with_regions [] pieces) arrived =
    c.in_ok-together.ensures ∙ ap (λ gs. with_regions gs c.append.new.self) c.new.ensures ∙ ap (with_regions []) c.in_ok-append-in-Ok-arrived_regions.ensures.appended
    ∙ with_regions_append [] pieces arrived in
    subst (IsRenewal schema c.args.number c.args.parts.now c.args.arrivals c.args.old) (sym is)
    (renewed_store schema c.args.number c.args.parts.now c.args.arrivals c.args.old pieces arrived (record {
      tables = c.requires.tables;
      restamped = c.in-Ok.ensures.restamped;
      are_arrivals = c.requires.arrivals;
      apart = c.requires.apart;
      are_arrived = c.in-Ok-arrived_regions.ensures.arrived;
      told = c.requires.told.0;
      is_told = c.requires.told.1;
      old_true = c.requires.told.2;
      rows = c.requires.told.3;
    }))
