use Rattle.std.proofs.Common.{◌≡◌, ◌≤◌, []}
use Rattle.sr_image.specs.Reading.{a_kept, count_rects, each_behind}
use Rattle.sr_image.proofs.Each.{all_of}
use Rattle.sr_image.proofs.read.each_kept.Given as goal

abbrev pub invariant-loop : goal.invariant-loop
invariant-loop l = record {
  read : all_of (a_kept l.schema) l.count l.counter l.kept l.bytes ≡ each_behind (a_kept l.schema) l.count [] l.initial.bytes;
  many : l.many ≡ count_rects l.kept;
  few : l.many ≤ 16384;
}
