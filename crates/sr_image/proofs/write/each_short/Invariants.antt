use Rattle.std.proofs.Common.{◌≡◌, ◌^◌, nat_lt, drop, length}
use Rattle.std.specs.List.{list_all}
use Rattle.sr_image.proofs.write.each_short.Given as goal

abbrev pub invariant-loop-text : goal.invariant-loop-text
invariant-loop-text l = list_all (λ text. nat_lt (length text) (2 ^ 32)) l.texts ≡ list_all (λ text. nat_lt (length text) (2 ^ 32)) (drop l.text-index l.texts)
