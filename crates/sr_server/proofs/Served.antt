-- Which messages are left, where nothing stands against one.
use Rattle.std.proofs.Common.{◌≡◌, ℕ, Bool, true, false, List, Option, Some, None, refl}
use Rattle.std.specs.Prelude.{not, ◌==◌, ◌&&◌}
use Rattle.sr_cell.specs.declared.table.Table.{Table}
use Rattle.sr_message.specs.declared.message.AskPart.{AskPart}
use Rattle.sr_message.specs.declared.message.Holding.{Holding}
use Rattle.sr_message.specs.declared.message.Message.{Message}
use Rattle.sr_message.specs.declared.message.Message.TheVariants.{Hello, Resume, Ask, Write, Welcome, Notice, Rows, Reply, Written, Refused, Lapse}
use Rattle.sr_wire.specs.declared.bad_frame.BadFrame.{BadFrame}
use Rattle.sr_wire.specs.declared.bad_frame.BadFrame.TheVariants.{State, Shape}
use Rattle.sr_session.specs.Misfits.{or_else}
use Rattle.sr_session.specs.Refusals.{is_open, is_request, server_misfit, suits_schema, suits_state}
use Rattle.sr_session.specs.Sessions.{Session}
use Rattle.sr_server.specs.Servers.{is_served}
use Rattle.sr_server.proofs.Taking.{IsNoWrite}

pub open-asked : (m : Message) → is_served true m ≡ true → ((number : ℕ) (fresh : Bool) (parts : List AskPart) → m ≡ Ask number fresh parts → ⊥) → ⊥
open-asked (Ask number fresh parts) is other = other number fresh parts refl
open-asked (Hello wire client number) is other = cc
open-asked (Resume wire client number version holdings) is other = cc
open-asked (Write number sql) is other = cc
open-asked (Welcome number version kept) is other = cc
open-asked (Notice version told) is other = cc
open-asked (Rows number part rows) is other = cc
open-asked (Reply number version) is other = cc
open-asked (Written number version) is other = cc
open-asked (Refused number fault) is other = cc
open-asked (Lapse version) is other = cc

pub closed-begun : (m : Message) → is_served false m ≡ true → ((wire client number : ℕ) → m ≡ Hello wire client number → ⊥)
    → ((wire client number version : ℕ) (holdings : List Holding) → m ≡ Resume wire client number version holdings → ⊥) → ⊥
closed-begun (Hello wire client number) is hello resume = hello wire client number refl
closed-begun (Resume wire client number version holdings) is hello resume = resume wire client number version holdings refl
closed-begun (Ask number fresh parts) is hello resume = cc
closed-begun (Write number sql) is hello resume = cc
closed-begun (Welcome number version kept) is hello resume = cc
closed-begun (Notice version told) is hello resume = cc
closed-begun (Rows number part rows) is hello resume = cc
closed-begun (Reply number version) is hello resume = cc
closed-begun (Written number version) is hello resume = cc
closed-begun (Refused number fault) is hello resume = cc
closed-begun (Lapse version) is hello resume = cc

pub served-suits : (schema : List Table) (session : Option Session) (client : ℕ) (m : Message) → server_misfit schema session client m ≡ None → IsNoWrite m → is_served (is_open session) m ≡ true
served-suits schema None client (Hello wire named number) none other = refl
served-suits schema None client (Resume wire named number version holdings) none other = refl
served-suits schema None client (Ask number fresh parts) none other = absurd (cc)
served-suits schema (Some session) client (Hello wire named number) none other = absurd (cc)
served-suits schema (Some session) client (Resume wire named number version holdings) none other = absurd (cc)
served-suits schema (Some session) client (Ask number fresh parts) none other = refl
served-suits schema session client (Write number sql) none other = absurd (other number sql refl)
served-suits schema session client (Welcome number version kept) none other = absurd (cc)
served-suits schema session client (Notice version told) none other = absurd (cc)
served-suits schema session client (Rows number part rows) none other = absurd (cc)
served-suits schema session client (Reply number version) none other = absurd (cc)
served-suits schema session client (Written number version) none other = absurd (cc)
served-suits schema session client (Refused number fault) none other = absurd (cc)
served-suits schema session client (Lapse version) none other = absurd (cc)
