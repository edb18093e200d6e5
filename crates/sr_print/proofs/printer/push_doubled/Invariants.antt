use Rattle.std.proofs.Common.{◌≡◌, ◌++◌, flat_map, string_bytes}
use Rattle.sr_print.proofs.Writing.{doubled_letter}
use Rattle.sr_print.proofs.printer.push_doubled.Given as goal

abbrev pub invariant-loop-letter : goal.invariant-loop-letter
invariant-loop-letter l = string_bytes l.to ≡ string_bytes l.fn.to ++ flat_map doubled_letter l.yielded
