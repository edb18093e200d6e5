use Rattle.std.proofs.Common.{◌≡◌, []}
use Rattle.sr_bytes.specs.Reading.{a_row, passing}
use Rattle.sr_image.specs.Reading.{each_behind, may_row}
use Rattle.sr_image.proofs.Each.{all_of}
use Rattle.sr_image.proofs.rows.each_row.Given as goal

abbrev pub invariant-loop : goal.invariant-loop
invariant-loop l =
    all_of (λ before. passing (may_row l.part.table.now l.part.attrs l.part.rects.now before) a_row) l.count l.counter l.rows l.bytes
    ≡ each_behind (λ before. passing (may_row l.part.table.now l.part.attrs l.part.rects.now before) a_row) l.count [] l.initial.bytes
