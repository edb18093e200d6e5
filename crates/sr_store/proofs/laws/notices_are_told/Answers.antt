use Rattle.sr_store.proofs.Bringing as lemmas
use Rattle.sr_store.proofs.laws.notices_are_told.Goals as goal

pub returns : goal.returns
returns c = lemmas.notices-are-told
