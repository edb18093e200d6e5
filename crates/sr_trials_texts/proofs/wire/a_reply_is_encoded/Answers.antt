use Rattle.std.proofs.Common.{◌≡◌, arith, length, refl}
use Rattle.sr_bytes.specs.Spelling.{number_bytes, long_bytes, count_bytes, short_count_bytes}
use Rattle.sr_wire.specs.Examples.{reply}
use Rattle.sr_wire.specs.Limits.{IsSendable}
use Rattle.sr_wire.specs.Spelling.{body_of}
use Rattle.sr_trials_texts.proofs.wire.a_reply_is_encoded.Goals as goal

reply_is_sendable : IsSendable reply
unfolding number_bytes count_bytes short_count_bytes long_bytes
reply_is_sendable =
    let size : length (body_of reply) ≡ 17 = refl in
    record { limits = refl; size = rw size (omega arith) }

pub is_encoded-requires : goal.is_encoded-requires
is_encoded-requires c d = reply_is_sendable
