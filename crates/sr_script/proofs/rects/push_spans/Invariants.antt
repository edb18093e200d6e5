use Rattle.std.proofs.Common.{◌≡◌, ◌++◌, drop, codes, string_bytes}
use Rattle.std.specs.Str.{IsUtf8}
use Rattle.sr_lines.specs.Texts.{joined}
use Rattle.sr_script.specs.TraceText.{spans_text}
use Rattle.sr_script.proofs.Separated.{behind}
use Rattle.sr_script.proofs.rects.push_spans.Given as goal

abbrev pub invariant-loop-i : goal.invariant-loop-i
invariant-loop-i l = record {
  printed :
      string_bytes l.text ++ behind l.separator (codes ", ") (spans_text (drop l.i l.columns) (drop l.i l.spans))
      ≡ string_bytes l.fn.text ++ joined (codes ", ") (spans_text l.columns l.spans);
  is_text : IsUtf8 l.separator;
}
