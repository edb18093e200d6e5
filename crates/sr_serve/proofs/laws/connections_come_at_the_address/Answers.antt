use Rattle.std.proofs.Common.{sym, ◌∙◌}
use Rattle.std.proofs.lemmas.List.{append_cancel_left}
use Rattle.sr_io.specs.Told.{connections}
use Rattle.sr_talk.specs.Serving.{all_told}
use Rattle.sr_serve.proofs.laws.connections_come_at_the_address.Goals as goal

pub returns : goal.returns
returns c db texts address count ending old new before after made ran e =
    rw (append_cancel_left (connections old) made (all_told ran.served.conversations) (sym e ∙ ran.served.made)) ran.served.came_at
