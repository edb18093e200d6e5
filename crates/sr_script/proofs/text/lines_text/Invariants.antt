use Rattle.std.specs.Prelude.{◌≡◌, flat_map, string_bytes, take}
use Rattle.std.specs.List.{AllWithin}
use Rattle.sr_script.specs.Printable.{HasNumbers}
use Rattle.sr_script.specs.TraceText.{line_text}
use Rattle.sr_script.proofs.text.lines_text.Given as goal

abbrev pub invariant-loop-line : goal.invariant-loop-line
invariant-loop-line l = record {
  text : string_bytes l.text ≡ flat_map (line_text l.schema l.number) (take l.line-index l.lines);
  numbers : AllWithin (HasNumbers l.schema) l.lines 0 l.line-index;
}
