use Rattle.std.proofs.Common.{◌≡◌, arith, length, refl}
use Rattle.sr_bytes.specs.Spelling.{number_bytes, long_bytes, count_bytes, short_count_bytes}
use Rattle.sr_wire.specs.Examples.{ask}
use Rattle.sr_wire.specs.Limits.{IsSendable}
use Rattle.sr_wire.specs.Spelling.{body_of}
use Rattle.sr_trials_texts.proofs.wire.is_ask_encoded.Goals as goal

ask_is_sendable : IsSendable ask
unfolding number_bytes count_bytes short_count_bytes long_bytes
ask_is_sendable =
    let size : length (body_of ask) ≡ 39 = refl in
    record { limits = refl; size = rw size (omega arith) }

pub is_encoded-requires : goal.is_encoded-requires
is_encoded-requires c = rw c.in_ok-ask.ensures ask_is_sendable
