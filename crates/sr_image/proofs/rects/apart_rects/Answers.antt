use Rattle.std.proofs.Common.{◌≡◌, ℕ, List, [], None, subst, sym, ap, ◌∙◌}
use Rattle.sr_box.specs.Points.{Rect}
use Rattle.sr_bytes.specs.Reading.{a_rect, passing}
use Rattle.sr_image.specs.Found.{ReadsOr}
use Rattle.sr_image.specs.Index.{first_met}
use Rattle.sr_image.specs.Reading.{each_behind, may_rect}
use Rattle.sr_image.proofs.Apart.{lone-is}
use Rattle.sr_image.proofs.rects.apart_rects.Goals as goal

pub returns-clause-read : goal.returns-clause-read
returns-clause-read c =
    subst (λ (xs : List ℕ). ReadsOr {X = List Rect} c.each_rect.result c.each_rect.new.bytes (each_behind (λ (before : List Rect). passing (may_rect c.args.part.now.table.now c.args.part.now.attrs c.args.part.now.many before) a_rect) c.args.count [] xs))
    (c.over.ensures ∙ c.left-at.ensures) c.each_rect.ensures.read

pub returns-in-None-clause-read : goal.returns-in-None-clause-read
returns-in-None-clause-read c =
    let none : first_met [] c.in-Ok.rects ≡ None = sym (c.in_ok-first_met-in-Ok.ensures ∙ ap (first_met []) c.as_slice.ensures) ∙ c.in-None.is in
    lone-is c.args.part.now.table.now c.args.part.now.attrs c.args.part.now.many c.args.count [] c.args.bytes.now c.in-Ok.rects c.each_lone.new.bytes c.in-Ok.ensures.read none
