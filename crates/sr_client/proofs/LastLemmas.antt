-- What the last query that was answered asked.
use Rattle.std.proofs.Common.{◌≡◌, ℕ, ◌+◌, ◌-◌, true, false, List, [], ◌∷◌, ◌++◌, length, refl, ◌∙◌, ap, arith, length-append}
use Rattle.std.specs.Prelude.{fold, slice_set, if◌then◌else◌}
use Rattle.sr_model.specs.Queries.{Part, Query}
use Rattle.sr_history.specs.Classes.{Numbered}
use Rattle.sr_history.specs.Victims.{last_parts}
use Rattle.sr_session.specs.Rules.{with_answered}

-- the last parts with one query more
last-more : (parts : List Part) (queries : List Numbered) (n : Numbered)
    → fold (λ parts (q : Numbered). if q.answered then q.query.parts else parts) parts (queries ++ n ∷ [])
    ≡ (if n.answered then n.query.parts else fold (λ parts (q : Numbered). if q.answered then q.query.parts else parts) parts queries)
last-more parts [] n = refl
last-more parts (q ∷ queries) n = last-more (if q.answered then q.query.parts else parts) queries n

pub last-answered : (queries : List Numbered) (q : Query) → last_parts (queries ++ record { query = q; answered = true } ∷ []) ≡ q.parts
last-answered queries q = last-more [] queries (record { query = q; answered = true })

pub last-asked : (queries : List Numbered) (q : Query) → last_parts (queries ++ record { query = q; answered = false } ∷ []) ≡ last_parts queries
last-asked queries q = last-more [] queries (record { query = q; answered = false })

set-last : (earlier : List Numbered) (x y : Numbered) → slice_set (earlier ++ x ∷ []) (length earlier) y ≡ earlier ++ y ∷ []
set-last [] x y = refl
set-last (n ∷ earlier) x y = ap (λ rest. n ∷ rest) (set-last earlier x y)

-- of the newest query, once it is answered
pub last-with-answered : (number : ℕ) (queries earlier : List Numbered) (q : Query) → queries ≡ earlier ++ record { query = q; answered = false } ∷ [] → number ≡ length queries
    → last_parts (with_answered number q queries) ≡ q.parts
last-with-answered number queries earlier q newest is =
    ap (λ qs. last_parts (with_answered number q qs)) newest
    ∙ (ap (λ k. last_parts (slice_set (earlier ++ record { query = q; answered = false } ∷ []) k (record { query = q; answered = true }))) at
    ∙ (ap last_parts (set-last earlier (record { query = q; answered = false }) (record { query = q; answered = true })) ∙ last-answered earlier q))
  where
    at : number - 1 ≡ length earlier
    at = let l : length queries ≡ length earlier + 1 = ap length newest ∙ length-append earlier (record { query = q; answered = false } ∷ []) in omega (arith, is, l)
