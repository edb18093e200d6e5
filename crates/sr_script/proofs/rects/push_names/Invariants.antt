use Rattle.std.proofs.Common.{◌≡◌, ◌++◌, drop, codes, string_bytes}
use Rattle.std.specs.Str.{IsUtf8}
use Rattle.sr_lines.specs.Texts.{joined}
use Rattle.sr_script.specs.TraceText.{names_from}
use Rattle.sr_script.proofs.Separated.{behind}
use Rattle.sr_script.proofs.rects.push_names.Given as goal

abbrev pub invariant-loop-i : goal.invariant-loop-i
invariant-loop-i l = record {
  printed :
      string_bytes l.text ++ behind l.separator (codes ",") (names_from l.i l.attrs (drop l.i l.columns))
      ≡ string_bytes l.fn.text ++ joined (codes ",") (names_from 0 l.attrs l.columns);
  is_text : IsUtf8 l.separator;
}
