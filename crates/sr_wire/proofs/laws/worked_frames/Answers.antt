use Rattle.std.proofs.Common.{refl}
use Rattle.sr_bytes.specs.Spelling.{number_bytes, long_bytes, count_bytes, short_count_bytes}
use Rattle.sr_wire.proofs.laws.worked_frames.Goals as goal

pub returns : goal.returns
unfolding number_bytes count_bytes short_count_bytes long_bytes
returns c = record {
  hello_is = refl;
  hello_back = refl;
  resume_is = refl;
  resume_back = refl;
  whole_resume_is = refl;
  whole_resume_back = refl;
  no_wire = refl;
  reply_is = refl;
  reply_back = refl;
  ask_is = refl;
  ask_back = refl;
  null_ask_is = refl;
  null_ask_back = refl;
  null_notice_is = refl;
  null_notice_back = refl;
  null_key = refl;
  left_over = refl;
}
