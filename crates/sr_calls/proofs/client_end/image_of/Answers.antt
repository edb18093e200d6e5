use Rattle.std.proofs.Common.{◌≡◌, ◌≤◌, List, true, length, ap, sym, subst, arith}
use Rattle.std.specs.Prelude.{IsTrue}
use Rattle.std.specs.List.{list_all}
use Rattle.std.proofs.lemmas.Result.{IfOk-weaker}
use Rattle.sr_region.specs.declared.region.Region.{Region}
use Rattle.sr_store.specs.Fitted.{count_rows}
use Rattle.sr_store.specs.Stores.{IsStore}
use Rattle.sr_image.specs.declared.image.Image.{Image}
use Rattle.sr_image.specs.Laws.{is_image}
use Rattle.sr_image.specs.Writing.{may_write_image, may_write_region}
use Rattle.sr_image.proofs.Writable.{may-be-written}
use Rattle.sr_calls.proofs.ImageLemmas.{held-may}
use Rattle.sr_calls.proofs.client_end.image_of.Goals as goal

pub image_of_store-requires-clause-store : goal.image_of_store-requires-clause-store
image_of_store-requires-clause-store c = (c.args.client.now.schema, subst (IsStore c.args.client.now.schema) (sym c.regions.ensures) c.requires.ready.0.1.store)

pub image_of_store-requires-clause-short : goal.image_of_store-requires-clause-short
image_of_store-requires-clause-short c =
    subst (λ (rs : List Region). IsTrue (list_all may_write_region rs)) (sym c.regions.ensures) (held-may c.args.client.now c.requires.ready)

pub image_of_store-requires-clause-few : goal.image_of_store-requires-clause-few
image_of_store-requires-clause-few c =
    let same = ap (λ (rs : List Region). length rs) c.regions.ensures in
    let few = c.requires.ready.0.1.few in
    let room = c.requires.ready.1.regions in
    omega (arith, same, few, room)

pub image_of_store-requires-clause-rows : goal.image_of_store-requires-clause-rows
image_of_store-requires-clause-rows c =
    let same = ap (λ (rs : List Region). count_rows rs) c.regions.ensures in
    let rows = c.requires.ready.0.1.rows in
    let most = c.requires.rows in
    omega (arith, same, rows, most)

pub returns-clause-whole : goal.returns-clause-whole
returns-clause-whole c =
    c.image_of_store.ensures.whole c.args.client.now.schema c.requires.ready.0.1.tables (subst (IsStore c.args.client.now.schema) (sym c.regions.ensures) c.requires.ready.0.1.store)

pub returns-clause-may_write : goal.returns-clause-may_write
returns-clause-may_write c =
    IfOk-weaker c.image_of_store.result (λ (image : Image). IsTrue (is_image c.args.client.now.schema image)) (λ (image : Image). IsTrue (may_write_image image))
    (λ image is. may-be-written c.args.client.now.schema image is)
    (c.image_of_store.ensures.whole c.args.client.now.schema c.requires.ready.0.1.tables (subst (IsStore c.args.client.now.schema) (sym c.regions.ensures) c.requires.ready.0.1.store))
