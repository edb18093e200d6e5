use Rattle.std.proofs.Common.{◌≡◌, List, ◌∷◌, [], length, ap, subst, arith, ◌∙◌}
use Rattle.std.specs.Prelude.{Err}
use Rattle.std.proofs.lemmas.List.Sums.{sum_by-append}
use Rattle.sr_bytes.specs.Reading.{Got}
use Rattle.sr_store.specs.declared.start.Kept.{Kept}
use Rattle.sr_image.specs.Reading.{a_kept, count_rects}
use Rattle.sr_image.specs.Found.{ReadsOr}
use Rattle.sr_image.proofs.Each.{one-more, stops}
use Rattle.sr_image.proofs.read.each_kept.Goals as goal

pub returns-in-Err : goal.returns-in-Err
returns-in-Err c =
    stops c.in-Err.no (a_kept c.args.schema.now) c.args.count c.loop.counter c.loop.kept c.loop.bytes c.next_kept.new.bytes _ c.loop-test.true
    (subst (λ (before : List Kept). ReadsOr {X = Kept} (Err c.in-Err.no) c.next_kept.new.bytes (a_kept c.args.schema.now before c.loop.bytes)) c.as_slice.ensures c.in-Err.ensures.read)
    c.loop.invariant.read

pub loop-preserved : goal.loop-preserved
loop-preserved c =
    let parts = ap count_rects c.in_ok-push-in-Ok.ensures.pushed in
    let more = sum_by-append (λ (k : Kept). length k.rects) c.loop.kept (c.in-Ok.part ∷ []) in
    record {
      read =
          one-more (a_kept c.args.schema.now) c.args.count c.loop.counter c.loop.kept c.loop.bytes c.in-Ok.part c.next_kept.new.bytes _ c.loop-test.true
          (subst (λ (before : List Kept). a_kept c.args.schema.now before c.loop.bytes ≡ Got c.in-Ok.part c.next_kept.new.bytes) c.as_slice.ensures c.in-Ok.ensures.read)
          c.loop.invariant.read _ c.in_ok-push-in-Ok.ensures.pushed;
      many = omega (arith, c.loop.invariant.many, parts, more, c.len-many.ensures);
      few = omega (arith, c.in-Ok.ensures.few, c.len-many.ensures);
    }
