use Rattle.std.proofs.Common.{◌≡◌, ◌+◌, ◌≤◌, [], length}
use Rattle.sr_bytes.specs.Reading.{a_rect, passing}
use Rattle.sr_image.specs.Reading.{each_behind, is_lone}
use Rattle.sr_image.proofs.Each.{all_of}
use Rattle.sr_image.proofs.rects.each_lone.Given as goal

abbrev pub invariant-loop : goal.invariant-loop
invariant-loop l = record {
  read : all_of (λ before. passing (is_lone l.part.table.now l.part.attrs l.part.many (length before)) a_rect) l.count l.counter l.rects l.bytes
      ≡ each_behind (λ before. passing (is_lone l.part.table.now l.part.attrs l.part.many (length before)) a_rect) l.count [] l.initial.bytes;
  few : l.part.many + length l.rects ≤ 16384;
}
