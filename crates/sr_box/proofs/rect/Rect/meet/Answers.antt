use Rattle.std.proofs.Common.{◌≡◌, ap, ◌∙◌}
use Rattle.std.proofs.lemmas.Result.{IfOk-weaker}
use Rattle.sr_box.specs.Cut.{rect_meet, in_some, some_fits}
use Rattle.sr_box.proofs.Meets.{rect_meet-is, rect_meet-fits}
use Rattle.sr_box.proofs.rect.Rect.meet.Goals as goal

pub returns-clause-points : goal.returns-clause-points
returns-clause-points c =
    let same : rect_meet c.as_slice.result.now c.as_slice-2.result.now ≡ rect_meet c.args.self.now c.args.other.now = cc (c.as_slice.ensures, c.as_slice-2.ensures) in
    IfOk-weaker c.meet_spans.result _ _ (λ part is p. ap (λ m. in_some m p) (is ∙ same) ∙ rect_meet-is c.args.self.now c.args.other.now p) c.meet_spans.ensures

pub returns-clause-fits : goal.returns-clause-fits
returns-clause-fits c =
    let same : rect_meet c.as_slice.result.now c.as_slice-2.result.now ≡ rect_meet c.args.self.now c.args.other.now = cc (c.as_slice.ensures, c.as_slice-2.ensures) in
    IfOk-weaker c.meet_spans.result _ _ (λ part is columns f g. ap (some_fits columns) (is ∙ same) ∙ rect_meet-fits columns c.args.self.now c.args.other.now f g) c.meet_spans.ensures
