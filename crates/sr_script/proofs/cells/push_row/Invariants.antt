use Rattle.std.proofs.Common.{◌≡◌, ◌++◌, drop, codes, map, string_bytes}
use Rattle.std.specs.Str.{IsUtf8}
use Rattle.sr_lines.specs.Texts.{joined, cell_text}
use Rattle.sr_script.proofs.Separated.{behind}
use Rattle.sr_script.proofs.cells.push_row.Given as goal

abbrev pub invariant-loop-cell : goal.invariant-loop-cell
invariant-loop-cell l = record {
  printed :
      string_bytes l.text ++ behind l.separator (codes ", ") (map cell_text (drop l.cell-index l.row))
      ≡ string_bytes l.fn.text ++ joined (codes ", ") (map cell_text l.row);
  is_text : IsUtf8 l.separator;
}
