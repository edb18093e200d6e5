use Rattle.std.proofs.Common.{◌≡◌, sym, subst, arith}
use Rattle.std.specs.Prelude.{IsTrue}
use Rattle.std.proofs.lemmas.Result.{IfOk-weaker}
use Rattle.sr_image.specs.declared.image.Image.{Image}
use Rattle.sr_image.specs.Joining.{image_from}
use Rattle.sr_image.specs.Laws.{is_image}
use Rattle.sr_image.proofs.Made.{may-be-made}
use Rattle.sr_image.proofs.Stored.{image-of-store}
use Rattle.sr_image.proofs.joining.image_of_store.Goals as goal

pub image_of-requires : goal.image_of-requires
image_of-requires c = may-be-made c.requires.store.0 c.args.regions.now c.requires.store.1

pub returns-clause-whole : goal.returns-clause-whole
returns-clause-whole c = λ schema tables store.
    let version = c.args.version in
    let regions = c.args.regions.now in
    let low = c.ranges.version in
    IfOk-weaker c.image_of.result (λ (image : Image). image ≡ image_from c.args.version c.args.regions.now) (λ (image : Image). IsTrue (is_image schema image))
    (λ image is. subst (λ (i : Image). IsTrue (is_image schema i)) (sym is)
    (image-of-store schema c.args.version c.args.regions.now tables store c.know_regions.ensures (omega (arith, low)) c.requires.few c.requires.rows)) c.image_of.ensures
