use Rattle.std.proofs.Common.{◌≡◌, take}
use Rattle.sr_image.specs.Spelling.{creates}
use Rattle.sr_image.proofs.texts.texts_of.Given as goal

abbrev pub invariant-loop-table : goal.invariant-loop-table
invariant-loop-table l = l.texts ≡ creates (take l.table-index l.tables)
