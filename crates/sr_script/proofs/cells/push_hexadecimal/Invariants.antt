use Rattle.std.proofs.Common.{◌≡◌, ◌++◌, drop, codes, flat_map, string_bytes}
use Rattle.sr_lines.specs.Texts.{hex_byte, hexadecimal}
use Rattle.sr_script.proofs.cells.push_hexadecimal.Given as goal

abbrev pub invariant-loop-byte : goal.invariant-loop-byte
invariant-loop-byte l =
    string_bytes l.text ++ (flat_map hex_byte (drop l.byte-index l.bytes) ++ codes "'") ≡ string_bytes l.fn.text ++ hexadecimal l.bytes
