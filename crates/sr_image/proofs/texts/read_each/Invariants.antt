use Rattle.std.proofs.Common.{◌≡◌, []}
use Rattle.sr_image.specs.Reading.{a_long_text, each_behind}
use Rattle.sr_image.proofs.Each.{all_of}
use Rattle.sr_image.proofs.texts.read_each.Given as goal

abbrev pub invariant-loop : goal.invariant-loop
invariant-loop l = all_of (λ before. a_long_text) l.count l.counter l.texts l.bytes ≡ each_behind (λ before. a_long_text) l.count [] l.initial.bytes
