-- What the server takes is a request.
use Rattle.std.proofs.Common.{◌≡◌, ℕ, Bool, true, List, Option, None, refl}
use Rattle.sr_cell.specs.declared.table.Table.{Table}
use Rattle.sr_message.specs.declared.message.AskPart.{AskPart}
use Rattle.sr_message.specs.declared.message.Holding.{Holding}
use Rattle.sr_message.specs.declared.message.Message.{Message}
use Rattle.sr_message.specs.declared.message.Message.TheVariants.{Hello, Resume, Ask, Write, Welcome, Notice, Rows, Reply, Written, Refused, Lapse}
use Rattle.sr_session.specs.Refusals.{is_request, server_misfit}
use Rattle.sr_session.specs.Sessions.{Session}

-- nothing stands against it
pub request-fits : (schema : List Table) (session : Option Session) (client : ℕ) (m : Message) → server_misfit schema session client m ≡ None → is_request m ≡ true
request-fits schema session client (Hello wire named number) none = refl
request-fits schema session client (Resume wire named number version holdings) none = refl
request-fits schema session client (Ask number fresh parts) none = refl
request-fits schema session client (Write number sql) none = refl
request-fits schema session client (Welcome number version kept) none = absurd (cc)
request-fits schema session client (Notice version told) none = absurd (cc)
request-fits schema session client (Rows number part rows) none = absurd (cc)
request-fits schema session client (Reply number version) none = absurd (cc)
request-fits schema session client (Written number version) none = absurd (cc)
request-fits schema session client (Refused number fault) none = absurd (cc)
request-fits schema session client (Lapse version) none = absurd (cc)

-- there are four kinds of requests
pub no-other-request : (m : Message) → is_request m ≡ true → ((wire client number : ℕ) → m ≡ Hello wire client number → ⊥)
    → ((wire client number version : ℕ) (holdings : List Holding) → m ≡ Resume wire client number version holdings → ⊥)
    → ((number : ℕ) (fresh : Bool) (parts : List AskPart) → m ≡ Ask number fresh parts → ⊥) → ((number : ℕ) (sql : List ℕ) → m ≡ Write number sql → ⊥) → ⊥
no-other-request (Hello wire client number) is hello resume ask write = hello wire client number refl
no-other-request (Resume wire client number version holdings) is hello resume ask write = resume wire client number version holdings refl
no-other-request (Ask number fresh parts) is hello resume ask write = ask number fresh parts refl
no-other-request (Write number sql) is hello resume ask write = write number sql refl
no-other-request (Welcome number version kept) is hello resume ask write = cc
no-other-request (Notice version told) is hello resume ask write = cc
no-other-request (Rows number part rows) is hello resume ask write = cc
no-other-request (Reply number version) is hello resume ask write = cc
no-other-request (Written number version) is hello resume ask write = cc
no-other-request (Refused number fault) is hello resume ask write = cc
no-other-request (Lapse version) is hello resume ask write = cc
