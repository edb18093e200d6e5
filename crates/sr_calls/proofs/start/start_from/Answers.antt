use Rattle.std.proofs.Common.{◌≡◌, List, sym, subst}
use Rattle.std.specs.Prelude.{IfOk}
use Rattle.sr_cell.specs.declared.table.Table.{Table}
use Rattle.sr_client.specs.Stands.{StandsFor}
use Rattle.sr_client.specs.Starting.{start_client, start_past}
use Rattle.sr_client.specs.declared.start.ClientStart.{ClientStart}
use Rattle.sr_store.specs.Brought.{IsToldOf}
use Rattle.sr_store.specs.Starting.{AreLawful, IsStart, kept_rows}
use Rattle.sr_image.proofs.Lawful.{image-lawful}
use Rattle.sr_calls.proofs.ImageLemmas.{image-rects, starts_ready}
use Rattle.sr_calls.proofs.start.start_from.Goals as goal

pub of-requires-clause-lawful : goal.of-requires-clause-lawful
of-requires-clause-lawful c =
    subst (λ (s : List Table). AreLawful s c.args.image.kept) (sym c.in_ok-own.ensures) (image-lawful c.args.schema.now c.args.image c.requires.tables c.requires.image)

pub of-requires-clause-short : goal.of-requires-clause-short
of-requires-clause-short c = image-rects c.args.schema.now c.args.image c.requires.image

pub returns : goal.returns
returns c =
    let schema = c.args.schema.now in
    let image = c.args.image in
    let client =
    subst (λ (s : List Table). IfOk c.of.result (λ (x : ClientStart). x.client ≡ start_client c.args.id s c.args.limits c.args.image.version x.client.store)) c.in_ok-own.ensures c.of.ensures.client in
    let store =
    subst (λ (s : List Table). IfOk c.of.result (λ (x : ClientStart). IsStart s c.args.limits c.args.image.kept (record { store = x.client.store; marks = x.marks }))) c.in_ok-own.ensures c.of.ensures.store in
    let stands =
    subst (λ (s : List Table). IfOk c.of.result (λ (x : ClientStart). StandsFor (start_past s c.args.image.version c.args.image.kept x.marks) x.client)) c.in_ok-own.ensures c.of.ensures.stands in
    let told =
    subst (λ (s : List Table). IfOk c.of.result (λ (x : ClientStart). IsToldOf s (kept_rows c.args.image.kept) x.client.store.regions)) c.in_ok-own.ensures c.of.ensures.told in
    record {
      client = client;
      store = store;
      stands = stands;
      ready = starts_ready c.args.id c.args.schema.now c.args.limits c.args.image c.of.result c.requires.image client store stands told c.requires.first c.requires.last c.requires.regions;
    }
