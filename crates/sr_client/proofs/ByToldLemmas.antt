-- Regions that have the rows of a telling, and what messages make of both.
use Rattle.std.proofs.Common.{◌≡◌, ℕ, Bool, List, [], ◌∷◌, map, refl, sym, subst, Some, None}
use Rattle.std.specs.Prelude.{not, ◌==◌, nat_lt}
use Rattle.std.specs.List.{All, Contains}
use Rattle.std.proofs.lemmas.Bool.{eqb-true}
use Rattle.std.proofs.lemmas.List.Elements.{All-nil, All-weaker, All-contains, All-head, All-tail}
use Rattle.sr_cell.specs.declared.table.Table.{Table}
use Rattle.sr_cell.specs.Columns.{table_at}
use Rattle.sr_message.specs.declared.message.AskPart.{AskPart}
use Rattle.sr_message.specs.declared.message.Message.{Message}
use Rattle.sr_message.specs.declared.message.Message.TheVariants.{Hello, Resume, Ask, Write, Welcome, Notice, Rows, Reply, Written, Refused, Lapse}
use Rattle.sr_model.specs.Queries.{Query}
use Rattle.sr_region.specs.declared.region.Region.{Region}
use Rattle.sr_region.specs.Regions.{IsPart}
use Rattle.sr_store.specs.Brought.{nothing_told, tells_all, IsToldOf}
use Rattle.sr_store.specs.Noticed.{told_to, IsTellOf}
use Rattle.sr_store.specs.Stores.{IsOfSchema}
use Rattle.sr_store.specs.Told.{Told, IsTold, IsTrueOf}
use Rattle.sr_store.proofs.Bringing.{notices-are-told}
use Rattle.sr_store.proofs.Telling.{each-told}
use Rattle.sr_wire.specs.declared.bad_frame.BadFrame.TheVariants.{Number, Version}
use Rattle.sr_session.specs.Brought.{told_by_all, told_where, told_basis}
use Rattle.sr_session.specs.Misfits.{misfit, or_else, known}
use Rattle.sr_session.specs.Regions.{after_messages}
use Rattle.sr_session.specs.Rules.{Basis}
use Rattle.sr_session.specs.Walks.{Request, AskOut, WriteOut, ResumeOut, IsLaid}
use Rattle.sr_client.specs.ByTold.{GoesByTold}
use Rattle.sr_client.specs.Laying.{TellsRows}
use Rattle.sr_client.specs.declared.client.Client.{Client}
use Rattle.sr_client.proofs.SuitLemmas.{not-false, or-none}

-- ---- which rows

pub nothing-is-told : (schema : List Table) → IsTold schema nothing_told
nothing-is-told schema = record { rows = λ t a. All-nil (IsPart (table_at schema t).columns a); ascending = λ t a has. refl }

-- no region
pub told-none : (schema : List Table) (told : Told) → IsTold schema told → IsToldOf schema told []
told-none schema told is = (is, All-nil (IsTrueOf told))

-- some of the regions
pub told-some : (schema : List Table) (told : Told) (old new : List Region) → All (Contains old) new → IsToldOf schema told old → IsToldOf schema told new
told-some schema told old new some (is, own) = (is, All-weaker (Contains old) (IsTrueOf told) (λ g there. All-contains (IsTrueOf told) old g own there) new some)

-- what was laid by is applied
pub laid-told : (schema : List Table) (ms : List Message) (gs : List Region) (told : Told) → All (IsOfSchema schema) gs → All (TellsRows schema) ms → IsToldOf schema told gs
    → IsToldOf schema (told_by_all schema ms told) (after_messages ms gs)
laid-told schema [] gs told each tells is = is
laid-told schema (Notice w tells ∷ ms) gs told each all is =
    let own : All (IsTellOf schema) tells = All-head (TellsRows schema) (Notice w tells) ms all in
    laid-told schema ms (map (told_to tells) gs) (tells_all schema tells told) (each-told schema tells gs own each) (All-tail (TellsRows schema) (Notice w tells) ms all) (notices-are-told schema tells told gs own each is)
laid-told schema (Lapse w ∷ ms) gs told each all is =
    laid-told schema ms [] nothing_told (All-nil (IsOfSchema schema)) (All-tail (TellsRows schema) (Lapse w) ms all) (told-none schema nothing_told (nothing-is-told schema))
laid-told schema (Rows k part rows ∷ ms) gs told each all is = laid-told schema ms gs told each (All-tail (TellsRows schema) (Rows k part rows) ms all) is
laid-told schema (Reply k w ∷ ms) gs told each all is = laid-told schema ms gs told each (All-tail (TellsRows schema) (Reply k w) ms all) is
laid-told schema (Written k w ∷ ms) gs told each all is = laid-told schema ms gs told each (All-tail (TellsRows schema) (Written k w) ms all) is
laid-told schema (Refused k fault ∷ ms) gs told each all is = laid-told schema ms gs told each (All-tail (TellsRows schema) (Refused k fault) ms all) is
laid-told schema (Welcome k w kept ∷ ms) gs told each all is = laid-told schema ms gs told each (All-tail (TellsRows schema) (Welcome k w kept) ms all) is
laid-told schema (Hello wire client n ∷ ms) gs told each all is = laid-told schema ms gs told each (All-tail (TellsRows schema) (Hello wire client n) ms all) is
laid-told schema (Resume wire client n v holdings ∷ ms) gs told each all is = laid-told schema ms gs told each (All-tail (TellsRows schema) (Resume wire client n v holdings) ms all) is
laid-told schema (Ask n mode parts ∷ ms) gs told each all is = laid-told schema ms gs told each (All-tail (TellsRows schema) (Ask n mode parts) ms all) is
laid-told schema (Write n sql ∷ ms) gs told each all is = laid-told schema ms gs told each (All-tail (TellsRows schema) (Write n sql) ms all) is

-- what is laid by itself brings nothing yet
pub where-laid : (schema : List Table) (request : Request) (laid : List Message) (m : Message) (told : Told) → IsLaid m → told_where schema (Some request) laid m told ≡ told
where-laid schema (AskOut n q m f p) laid (Notice w tells) told is = refl
where-laid schema (AskOut n q m f p) laid (Lapse w) told is = refl
where-laid schema (AskOut n q m f p) laid (Rows k part rows) told is = refl
where-laid schema (AskOut n q m f p) laid x told is = absurd is
where-laid schema (WriteOut n) laid (Notice w tells) told is = refl
where-laid schema (WriteOut n) laid (Lapse w) told is = refl
where-laid schema (WriteOut n) laid (Rows k part rows) told is = refl
where-laid schema (WriteOut n) laid x told is = absurd is
where-laid schema (ResumeOut n) laid (Notice w tells) told is = refl
where-laid schema (ResumeOut n) laid (Lapse w) told is = refl
where-laid schema (ResumeOut n) laid (Rows k part rows) told is = refl
where-laid schema (ResumeOut n) laid x told is = absurd is

-- ---- a step

-- the same, of what is told next in other words
pub by-told : (old new : Client) (next other : Told → Told) (rule : Basis → Type 0) → ((told : Told) → next told ≡ other told) → GoesByTold old new other rule → GoesByTold old new next rule
by-told old new next other rule same goes told is =
    subst (λ t. IsToldOf old.schema t new.store.regions × rule (told_basis old.schema old.store.limits t)) (sym (same told)) (goes told is)

-- ---- a reply that is not refused

-- its number is that of the ask that is out
pub reply-own : (schema : List Table) (number query : ℕ) (q : Query) (fresh : Bool) (parts : List AskPart) (laid : List Message) (version k w : ℕ)
    → misfit schema (Some (AskOut number query q fresh parts)) laid version (Reply k w) ≡ None → k ≡ number
reply-own schema number query q fresh parts laid version k w fit =
    let none = or-none (not (k == number)) Number (or_else (nat_lt w (known version laid)) Version None) fit in
    eqb-true k number (not-false (k == number) none)
