use Rattle.sr_keyset.proofs.Asking.{files-ask-few}
use Rattle.sr_keyset.proofs.laws.files_ask_few.Goals as goal

pub returns : goal.returns
returns c = files-ask-few
