use Rattle.std.proofs.Common.{false, sym, subst}
use Rattle.sr_session.specs.Scenes.{new_pair}
use Rattle.sr_client.specs.declared.client.Client.{Client}
use Rattle.sr_client.specs.Stands.{StandsOver}
use Rattle.sr_client.proofs.NewLemmas.{opened_over}
use Rattle.sr_client.proofs.client.Client.opened.Goals as goal

pub returns-clause-over : goal.returns-clause-over
returns-clause-over c = λ db sound same.
    subst (λ (x : Client). StandsOver db new_pair.client (record x { next_request = 1; cut = false })) (sym c.new-client.ensures.is)
    (opened_over c.args.id c.args.schema c.args.limits c.requires.tables db sound same)
