use Rattle.std.proofs.Common.{◌≤◌, length, arith, length-append}
use Rattle.std.specs.Prelude.{nat_le}
use Rattle.std.specs.Cmp.{second_so}
use Rattle.std.proofs.lemmas.Bool.{leb-true}
use Rattle.sr_bytes.specs.Spelling.{count_bytes}
use Rattle.sr_wire.specs.Spelling.{body_of, has_fields, most_bytes}
use Rattle.sr_wire.proofs.Frames.{count_length}
use Rattle.sr_talk.proofs.ShortLemmas.{short-small}
use Rattle.sr_serve.proofs.laws.frames_are_bounded.Goals as goal

pub returns : goal.returns
returns c = record {
  frames = λ m has.
      let n = length (body_of m) in
      let most : n ≤ most_bytes = leb-true n most_bytes (second_so (has_fields m) (nat_le n most_bytes) has) in
      let four = count_length n in
      omega (arith, most, four, length-append (count_bytes n) (body_of m));
  beginnings = short-small;
}
