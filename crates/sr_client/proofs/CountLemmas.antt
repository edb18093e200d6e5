-- The queries whose tests count for the load.
use Rattle.std.proofs.Common.{◌≡◌, ℕ, ◌+◌, ◌-◌, ◌≤◌, zero, suc, true, false, List, [], ◌∷◌, ◌++◌, map, length, drop, refl, sym, ◌∙◌, ap, subst, arith, append_assoc, length-append}
use Rattle.std.specs.Prelude.{slice_set}
use Rattle.std.proofs.lemmas.List.{drop-map}
use Rattle.sr_model.specs.Queries.{Query}
use Rattle.sr_history.specs.Classes.{Numbered}
use Rattle.sr_session.specs.Clients.{Counting, from_query}
use Rattle.sr_session.specs.Rules.{counted, with_answered}

-- the next query counts
pub counted-more : (whose : Counting) (queries : List Numbered) (n : Numbered) → whose.from ≤ length queries + 1 → counted whose (queries ++ n ∷ []) ≡ counted whose queries ++ n.query ∷ []
counted-more whose queries n few =
    ap (λ qs. whose.start ++ qs) (by (whose.from - 1) queries (omega (arith, few))) ∙ sym (append_assoc whose.start (map (λ (x : Numbered). x.query) (drop (whose.from - 1) queries)) (n.query ∷ []))
  where
    by : (k : ℕ) (qs : List Numbered) → k ≤ length qs → map (λ (x : Numbered). x.query) (drop k (qs ++ n ∷ [])) ≡ map (λ (x : Numbered). x.query) (drop k qs) ++ n.query ∷ []
    by zero [] l = refl
    by zero (q ∷ qs) l = ap (λ rest. q.query ∷ rest) (by zero qs (omega arith))
    by (suc k) [] l = absurd (omega (arith, l))
    by (suc k) (q ∷ qs) l = by k qs (omega (arith, l))

set-last : (earlier : List Numbered) (x y : Numbered) → x.query ≡ y.query
    → map (λ (n : Numbered). n.query) (slice_set (earlier ++ x ∷ []) (length earlier) y) ≡ map (λ (n : Numbered). n.query) (earlier ++ x ∷ [])
set-last [] x y same = ap (λ q. q ∷ []) (sym same)
set-last (n ∷ earlier) x y same = ap (λ rest. n.query ∷ rest) (set-last earlier x y same)

-- that the last query is answered changes none of them
pub counted-answered : (whose : Counting) (number : ℕ) (queries earlier : List Numbered) (q : Query) → queries ≡ earlier ++ record { query = q; answered = false } ∷ [] → number ≡ length queries
    → counted whose (with_answered number q queries) ≡ counted whose queries
counted-answered whose number queries earlier q newest is =
    ap (λ qs. whose.start ++ qs)
    (sym (drop-map (λ (n : Numbered). n.query) (whose.from - 1) (with_answered number q queries))
    ∙ (ap (drop (whose.from - 1)) same ∙ drop-map (λ (n : Numbered). n.query) (whose.from - 1) queries))
  where
    at : number - 1 ≡ length earlier
    at = let l : length queries ≡ length earlier + 1 = ap length newest ∙ length-append earlier (record { query = q; answered = false } ∷ []) in omega (arith, is, l)

    same : map (λ (n : Numbered). n.query) (with_answered number q queries) ≡ map (λ (n : Numbered). n.query) queries
    same =
        ap (λ k. map (λ (n : Numbered). n.query) (slice_set queries k (record { query = q; answered = true }))) at
        ∙ subst (λ qs. map (λ (n : Numbered). n.query) (slice_set qs (length earlier) (record { query = q; answered = true })) ≡ map (λ (n : Numbered). n.query) qs) (sym newest)
        (set-last earlier (record { query = q; answered = false }) (record { query = q; answered = true }) refl)

-- from the next one on none counts yet
pub counted-none : (n : ℕ) (queries : List Numbered) → length queries ≤ n → counted (from_query (n + 1)) queries ≡ []
counted-none n queries few = by (n + 1 - 1) queries (omega (arith, few))
  where
    by : (k : ℕ) (qs : List Numbered) → length qs ≤ k → map (λ (x : Numbered). x.query) (drop k qs) ≡ []
    by zero [] l = refl
    by zero (q ∷ qs) l = absurd (omega (arith, l))
    by (suc k) [] l = refl
    by (suc k) (q ∷ qs) l = by k qs (omega (arith, l))

pub set-length : (qs : List Numbered) (n : ℕ) (x : Numbered) → length (slice_set qs n x) ≡ length qs
set-length [] n x = refl
set-length (q ∷ qs) zero x = refl
set-length (q ∷ qs) (suc n) x = ap (λ k. suc k) (set-length qs n x)
