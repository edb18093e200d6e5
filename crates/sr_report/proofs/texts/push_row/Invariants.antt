use Rattle.std.proofs.Common.{◌≡◌, ◌++◌, drop, codes, map, string_bytes}
use Rattle.std.specs.Str.{IsUtf8}
use Rattle.sr_lines.specs.Texts.{joined}
use Rattle.sr_script.proofs.Separated.{behind}
use Rattle.sr_report.specs.Texts.{told_text}
use Rattle.sr_report.proofs.texts.push_row.Given as goal

abbrev pub invariant-loop-told : goal.invariant-loop-told
invariant-loop-told l = record {
  printed :
      string_bytes l.text ++ behind l.separator (codes ", ") (map told_text (drop l.told-index l.row))
      ≡ string_bytes l.fn.text ++ joined (codes ", ") (map told_text l.row);
  is_text : IsUtf8 l.separator;
}
