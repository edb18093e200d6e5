use Rattle.std.proofs.Common.{sym}
use Rattle.sr_client.proofs.LayLemmas.{none-of}
use Rattle.sr_client.proofs.client.Client.take_one.Goals as goal

pub take_at_rest-requires-clause-idle : goal.take_at_rest-requires-clause-idle
take_at_rest-requires-clause-idle c = none-of c.args.self.now.out (sym c.if-is_some.ensures)
