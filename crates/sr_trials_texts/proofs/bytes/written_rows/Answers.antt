use Rattle.std.proofs.Common.{refl}
use Rattle.sr_trials_texts.proofs.bytes.written_rows.Goals as goal

pub push_rows-requires : goal.push_rows-requires
push_rows-requires c = rw c.in_ok-ink.ensures refl
