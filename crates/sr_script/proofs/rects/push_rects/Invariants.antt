use Rattle.std.proofs.Common.{◌≡◌, ◌++◌, drop, codes, map, string_bytes}
use Rattle.std.specs.Str.{IsUtf8}
use Rattle.sr_script.specs.TraceText.{rect_text, rects_text}
use Rattle.sr_script.proofs.Separated.{behind}
use Rattle.sr_script.proofs.rects.push_rects.Given as goal

abbrev pub invariant-loop-rect : goal.invariant-loop-rect
invariant-loop-rect l = record {
  printed :
      string_bytes l.text ++ behind l.separator (codes " ") (map (rect_text l.columns) (drop l.rect-index l.rects))
      ≡ string_bytes l.fn.text ++ rects_text l.columns l.rects;
  is_text : IsUtf8 l.separator;
}
