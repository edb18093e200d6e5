use Rattle.std.proofs.Common.{refl}
use Rattle.sr_bytes.specs.Spelling.{number_bytes, long_bytes, count_bytes, short_count_bytes}
use Rattle.sr_image.proofs.laws.worked_image.Goals as goal

pub returns : goal.returns
unfolding number_bytes count_bytes short_count_bytes long_bytes
returns c = record { spelled = refl; is_read = refl; longer = refl }
