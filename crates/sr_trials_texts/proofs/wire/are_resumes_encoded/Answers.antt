use Rattle.std.proofs.Common.{◌≡◌, arith, length, refl}
use Rattle.sr_bytes.specs.Spelling.{number_bytes, long_bytes, count_bytes, short_count_bytes}
use Rattle.sr_wire.specs.Examples.{resume, whole_resume}
use Rattle.sr_wire.specs.Limits.{IsSendable}
use Rattle.sr_wire.specs.Spelling.{body_of}
use Rattle.sr_trials_texts.proofs.wire.are_resumes_encoded.Goals as goal

resume_is_sendable : IsSendable resume
unfolding number_bytes count_bytes short_count_bytes long_bytes
resume_is_sendable =
    let size : length (body_of resume) ≡ 33 = refl in
    record { limits = refl; size = rw size (omega arith) }

whole_is_sendable : IsSendable whole_resume
unfolding number_bytes count_bytes short_count_bytes long_bytes
whole_is_sendable =
    let size : length (body_of whole_resume) ≡ 31 = refl in
    record { limits = refl; size = rw size (omega arith) }

pub is_encoded-requires : goal.is_encoded-requires
is_encoded-requires c = rw c.in_ok-resume.ensures resume_is_sendable

pub is_encoded-requires-then-branch : goal.is_encoded-requires-then-branch
is_encoded-requires-then-branch c = rw c.in_ok-whole.ensures whole_is_sendable
