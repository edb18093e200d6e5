use Rattle.sr_client.proofs.NewLemmas.{new_stands}
use Rattle.sr_client.proofs.client.Client.new.Goals as goal

pub returns-clause-stands : goal.returns-clause-stands
returns-clause-stands c = rw (c.new.ensures, c.new-2.ensures) (new_stands c.args.id c.args.schema c.args.limits c.requires.tables)
