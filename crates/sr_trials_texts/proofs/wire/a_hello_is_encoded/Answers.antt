use Rattle.std.proofs.Common.{◌≡◌, arith, length, refl}
use Rattle.sr_bytes.specs.Spelling.{number_bytes, long_bytes, count_bytes, short_count_bytes}
use Rattle.sr_wire.specs.Examples.{hello}
use Rattle.sr_wire.specs.Limits.{IsSendable}
use Rattle.sr_wire.specs.Spelling.{body_of}
use Rattle.sr_trials_texts.proofs.wire.a_hello_is_encoded.Goals as goal

hello_is_sendable : IsSendable hello
unfolding number_bytes count_bytes short_count_bytes long_bytes
hello_is_sendable =
    let size : length (body_of hello) ≡ 11 = refl in
    record { limits = refl; size = rw size (omega arith) }

pub is_encoded-requires : goal.is_encoded-requires
is_encoded-requires c d = hello_is_sendable
