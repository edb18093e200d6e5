use Rattle.std.proofs.Common.{◌≡◌, drop}
use Rattle.sr_box.specs.Cut.{rect_meet}
use Rattle.sr_box.proofs.Meets.{behind}
use Rattle.sr_box.proofs.rect.meet_spans.Given as goal

abbrev pub invariant-loop-i : goal.invariant-loop-i
invariant-loop-i l = behind l.rect (rect_meet (drop l.i l.spans) (drop l.i l.others)) ≡ rect_meet l.spans l.others
