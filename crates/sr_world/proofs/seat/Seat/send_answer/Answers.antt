use Rattle.std.proofs.Common.{◌∙◌, ap}
use Rattle.sr_server.specs.declared.outbox.Outbox.{Outbox}
use Rattle.sr_server.specs.Servers.{put}
use Rattle.sr_world.proofs.seat.Seat.send_answer.Goals as goal

pub finish-requires-clause-client : goal.finish-requires-clause-client
finish-requires-clause-client c = rw c.send_left.ensures.others c.requires.client

pub finish-requires-clause-closed : goal.finish-requires-clause-closed
finish-requires-clause-closed c = rw c.send_left.ensures.others c.requires.closed

pub finish-requires-clause-fits : goal.finish-requires-clause-fits
finish-requires-clause-fits c = rw c.send_left.ensures.others c.requires.fits

pub returns-in-Ok-clause-put : goal.returns-in-Ok-clause-put
returns-in-Ok-clause-put c = c.finish.ensures.put ∙ ap (λ (o : Outbox). put c.args.server.now o.client o.session) c.send_left.ensures.others
