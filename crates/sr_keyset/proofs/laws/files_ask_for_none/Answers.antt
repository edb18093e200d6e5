use Rattle.sr_keyset.proofs.Asking.{files-ask-for-none}
use Rattle.sr_keyset.proofs.laws.files_ask_for_none.Goals as goal

pub returns : goal.returns
returns c = files-ask-for-none
