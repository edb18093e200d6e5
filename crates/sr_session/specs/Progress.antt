-- What comes of a query in the end: the rules answer it after at most two asks, and drop nothing for its pieces where the load is not high.
use Rattle.std.specs.Prelude.{ℕ, Bool, true, false, not, List, [], ◌≡◌, Some, None, Ok}
use Rattle.std.specs.List.{list_all}
use Rattle.sr_cell.specs.declared.cause.Cause.{Cause}
use Rattle.sr_cell.specs.declared.cause.Cause.TheVariants.{Pieces}
use Rattle.sr_message.specs.declared.message.AskPart.{AskPart}
use Rattle.sr_message.specs.declared.message.Message.TheVariants.{Reply}
use Rattle.sr_model.specs.Queries.{Query}
use Rattle.sr_history.specs.declared.mark.Mark.{Mark}
use Rattle.sr_history.specs.declared.mark.Mark.TheVariants.{Held, Dropped}
use Rattle.sr_history.specs.Load.{IsHeavy}
use Rattle.sr_session.specs.Walks.{AskOut}
use Rattle.sr_session.specs.Clients.{Client}
use Rattle.sr_session.specs.Rules.{Basis, Outcome, Answered, AskSent, counted, next_query, with_query, with_answered, QueryStep, TakeStep}

-- ---- a query is answered, or asked

-- It is answered under this number, or it is asked, and then its ask is out.
abbrev pub IsAnsweredOrAsked : ℕ → Query → Outcome → Client → Type 0
IsAnsweredOrAsked number q (Answered query version rows marks) new = query ≡ number
IsAnsweredOrAsked number q (AskSent drops request fresh parts) new = new.out ≡ Some (AskOut request number q fresh parts)
IsAnsweredOrAsked number q other new = ⊥

-- A query that means something, while no request is out and the link is not cut, is answered or asked.
abbrev pub QueriesAreAnsweredOrAsked : Type 0
QueriesAreAnsweredOrAsked = (b : Basis) (c new : Client) (q : Query) (o : Outcome) → c.out ≡ None → c.cut ≡ false → QueryStep b c (Ok q) o new
    → IsAnsweredOrAsked (next_query c) q o new

-- It is answered under this number; or, where it was not asked afresh, it is asked once more, afresh.
abbrev pub IsAnsweredOrAskedAfresh : ℕ → Query → Bool → Outcome → Client → Type 0
IsAnsweredOrAskedAfresh number q fresh (Answered query version rows marks) new = query ≡ number
IsAnsweredOrAskedAfresh number q fresh (AskSent drops request again parts) new =
    (fresh ≡ false) × (again ≡ true) × (new.out ≡ Some (AskOut request number q true parts))
IsAnsweredOrAskedAfresh number q fresh other new = ⊥

-- The reply of an ask answers its query in the same step, or the query is asked once more. The reply of an ask that is fresh answers it, so
-- no query has more than two asks.
abbrev pub RepliesAnswer : Type 0
RepliesAnswer = (b : Basis) (c new : Client) (number query : ℕ) (q : Query) (fresh : Bool) (parts : List AskPart) (k version : ℕ) (o : Outcome)
    → c.out ≡ Some (AskOut number query q fresh parts) → TakeStep b c (Reply k version) o new → IsAnsweredOrAskedAfresh query q fresh o new

-- ---- what is dropped

abbrev pub is_pieces : Cause → Bool
is_pieces Pieces = true
is_pieces other = false

abbrev pub drops_pieces : Mark → Bool
drops_pieces (Held table attrs rects) = false
drops_pieces (Dropped cause table attrs stamp rects) = is_pieces cause

abbrev pub marks_of : Outcome → List Mark
marks_of (Answered query version rows marks) = marks
marks_of (AskSent drops request fresh parts) = drops
marks_of other = []

-- no mark of the outcome is a drop for too many pieces
abbrev pub DropsNoPieces : Outcome → Type 0
DropsNoPieces o = list_all (λ mark. not (drops_pieces mark)) (marks_of o) ≡ true

-- Where the load is not too high, counting the query, nothing is dropped for its pieces.
abbrev pub LightQueriesKeepTheirPieces : Type 0
LightQueriesKeepTheirPieces = (b : Basis) (c new : Client) (q : Query) (o : Outcome)
    → (IsHeavy b.schema c.marks [] q (counted c.counted_from (with_query q true c)) → ⊥)
    → (IsHeavy b.schema c.marks [] q (counted c.counted_from (with_query q false c)) → ⊥)
    → QueryStep b c (Ok q) o new → DropsNoPieces o

-- Nor at the reply of its ask, counting what was asked.
abbrev pub LightRepliesKeepTheirPieces : Type 0
LightRepliesKeepTheirPieces = (b : Basis) (c new : Client) (number query : ℕ) (q : Query) (fresh : Bool) (parts : List AskPart) (k version : ℕ) (o : Outcome)
    → c.out ≡ Some (AskOut number query q fresh parts) → (IsHeavy b.schema c.marks parts q (counted c.counted_from (with_answered query q c.queries)) → ⊥)
    → TakeStep b c (Reply k version) o new → DropsNoPieces o
