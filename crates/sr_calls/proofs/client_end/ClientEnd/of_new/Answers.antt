use Rattle.sr_calls.proofs.ImageLemmas.{new_ready}
use Rattle.sr_calls.proofs.client_end.ClientEnd.of_new.Goals as goal

pub new-requires : goal.new-requires
new-requires c = new_ready c.args.id c.in_ok-own.own c.args.limits c.new-client.result c.new-client.ensures.is c.new-client.ensures.stands c.requires.first c.requires.last c.requires.regions
