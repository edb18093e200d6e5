use Rattle.std.proofs.Common.{◌≡◌, ℕ, List, ◌∷◌, [], length, ap, subst, arith, length-append}
use Rattle.std.specs.Prelude.{Err}
use Rattle.sr_box.specs.Points.{Rect}
use Rattle.sr_bytes.specs.Reading.{Got, a_rect, passing}
use Rattle.sr_image.specs.Reading.{is_lone}
use Rattle.sr_image.specs.Found.{ReadsOr}
use Rattle.sr_image.proofs.Each.{one-more, stops}
use Rattle.sr_image.proofs.rects.each_lone.Goals as goal

pub returns-in-Err-clause-read : goal.returns-in-Err-clause-read
returns-in-Err-clause-read c =
    stops c.in-Err.no (λ (before : List Rect). passing (is_lone c.args.part.now.table.now c.args.part.now.attrs c.args.part.now.many (length before)) a_rect) c.args.count c.loop.counter c.loop.rects c.loop.bytes c.one_lone.new.bytes _ c.loop-test.true
    (subst (λ (place : ℕ). ReadsOr {X = Rect} (Err c.in-Err.no) c.one_lone.new.bytes (passing (is_lone c.args.part.now.table.now c.args.part.now.attrs c.args.part.now.many place) a_rect c.loop.bytes)) c.len.ensures c.in-Err.ensures.read)
    c.loop.invariant.read

pub loop-preserved : goal.loop-preserved
loop-preserved c = record {
  read =
      one-more (λ (before : List Rect). passing (is_lone c.args.part.now.table.now c.args.part.now.attrs c.args.part.now.many (length before)) a_rect) c.args.count c.loop.counter c.loop.rects c.loop.bytes c.in-Ok.rect c.one_lone.new.bytes _ c.loop-test.true
      (subst (λ (place : ℕ). passing (is_lone c.args.part.now.table.now c.args.part.now.attrs c.args.part.now.many place) a_rect c.loop.bytes ≡ Got c.in-Ok.rect c.one_lone.new.bytes) c.len.ensures c.in-Ok.ensures.read)
      c.loop.invariant.read _ c.in_ok-push-in-Ok.ensures.pushed;
  few =
      let longer = ap (length {A = Rect}) c.in_ok-push-in-Ok.ensures.pushed in
      let one = length-append c.loop.rects (c.in-Ok.rect ∷ []) in
      omega (arith, c.in-Ok.ensures.few, c.len.ensures, longer, one);
}
