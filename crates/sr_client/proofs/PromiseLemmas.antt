-- What comes to a client that stands is promised.
use Rattle.std.proofs.Common.{◌≡◌, [], ◌∷◌, sym, ◌∙◌}
use Rattle.sr_session.specs.Clients.{is_open, is_down, is_resuming}
use Rattle.sr_client.specs.Stands.{PromisesAreTrue}

pub promises-are-true : PromisesAreTrue
promises-are-true db pair m rest (is_open session stands) first = record { connection = pair.connection; session = session; is_open = stands; rest = rest; first = first }
promises-are-true db pair m rest (is_down down) first = absurd (let wrong : m ∷ rest ≡ [] = sym first ∙ down.to_client in cc)
promises-are-true db pair m rest (is_resuming resuming) first = absurd (let wrong : m ∷ rest ≡ [] = sym first ∙ resuming.to_client in cc)
