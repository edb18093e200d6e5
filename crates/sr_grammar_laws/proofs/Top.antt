-- Reading is exact.
use Rattle.std.proofs.Common.{◌≡◌, ℕ, zero, suc, ◌+◌, Bool, true, false, List, [], ◌∷◌, ◌++◌, refl, sym, ap, subst, ◌∙◌, append_assoc, arith}
use Rattle.std.proofs.lemmas.List.{append-nil, append_cancel_right}
use Rattle.sr_grammar.specs.Tokens.{Tok}
use Rattle.sr_grammar.specs.Trees.{Tree}
use Rattle.sr_grammar.specs.Rules.{Rule, Nothing, ◌>>=◌ as ◌▸◌}
use Rattle.sr_grammar_laws.specs.Reading.{Got, Fails, next_is}
use Rattle.sr_grammar.specs.Statements.{IsStatement}
use Rattle.sr_grammar_laws.specs.Readers.{statement, end, whole}
use Rattle.sr_grammar.specs.Says.{Begins}
use Rattle.sr_grammar_laws.specs.Exact.{StopsAt, EachIsExact}
use Rattle.sr_grammar_laws.proofs.Good.{first, bind_ok}
use Rattle.sr_grammar_laws.proofs.Deep.{Both, both_then}
use Rattle.sr_grammar_laws.proofs.LawsOfTrees.{any, both_statement}

both_end : {A : Type 0} (d : A) → Both (end d) (end d) (Nothing d) (Nothing d) any
both_end {A = A} d = record {
  good = record {
    sound = sound;
    complete = λ a front rest h stop. complete a front rest h stop;
    viable = viable;
    stays_ok = λ a front r r' same e. stays_ok a front r r' same e;
    stays_err = λ c front r r' same e. stays_err c front r r' same e;
    value = d;
    spelling = [];
    some = (refl, refl);
  };
  wider = λ a x h. h;
  got = λ ts a rest e. e;
  fails = λ ts bad e. e;
  deep = λ ts bad e. absurd (never ts bad e);
}
  where
    sound : (ts : List Tok) (a : A) (rest : List Tok) → end d ts ≡ Got a rest → (front : List Tok) × (ts ≡ front ++ rest) × Nothing d a front
    sound [] a rest e = let k : [] ≡ rest = cc in let j : a ≡ d = cc in ([], k, (j, refl))
    sound (t ∷ ts) a rest e = absurd cc

    complete : (a : A) (front rest : List Tok) → Nothing d a front → next_is any rest ≡ false → end d (front ++ rest) ≡ Got a rest
    complete a front [] h stop = rw (h.0, h.1) refl
    complete a front (t ∷ ts) h stop = absurd cc

    viable : (ts : List Tok) (c : Bool) (bad : List Tok) → end d ts ≡ Fails c bad → (front : List Tok) × (ts ≡ front ++ bad) × (a : A) × (tail : List Tok) × Nothing d a (front ++ tail)
    viable [] c bad e = absurd cc
    viable (t ∷ ts) c bad e = let k : t ∷ ts ≡ bad = cc in ([], k, d, [], (refl, refl))

    stays_ok : (a : A) (front r r' : List Tok) → first r ≡ first r' → end d (front ++ r) ≡ Got a r → end d (front ++ r') ≡ Got a r'
    stays_ok a [] [] [] same e = e
    stays_ok a [] [] (u ∷ us) same e = absurd cc
    stays_ok a [] (t ∷ ts) r' same e = absurd cc
    stays_ok a (t ∷ ts) r r' same e = absurd cc

    stays_err : (c : Bool) (front r r' : List Tok) → first r ≡ first r' → end d (front ++ r) ≡ Fails c r → end d (front ++ r') ≡ Fails c r'
    stays_err c [] [] r' same e = absurd cc
    stays_err c [] (t ∷ ts) [] same e = absurd cc
    stays_err c [] (t ∷ ts) (u ∷ us) same e = let k : false ≡ c = cc in rw k refl
    stays_err c (t ∷ ts) r r' same e = let k : t ∷ ts ++ r ≡ r = cc in absurd (let j : t ∷ ts ≡ [] = append_cancel_right (t ∷ ts) [] r k in cc)

    never : (ts bad : List Tok) → end d ts ≡ Fails true bad → ⊥
    never [] bad e = cc
    never (t ∷ ts) bad e = cc

abbrev Whole : ℕ → Rule Tree
Whole n = IsStatement n ▸ λ d. Nothing d

both_whole : (n : ℕ) → Both (whole n) (whole (suc n)) (Whole n) (Whole (suc n)) any
unfolding whole
both_whole n = both_then _ _ _ _ any _ _ _ _ any (both_statement n) (λ d. both_end d) (λ a x b y rest u v w. rw v.1 w)

to_whole : (n : ℕ) (s : Tree) (ts : List Tok) → IsStatement n s ts → Whole n s ts
to_whole n s ts h = (s, ts, [], sym (append-nil ts), h, (refl, refl))

from_whole : (n : ℕ) (s : Tree) (ts : List Tok) → Whole n s ts → IsStatement n s ts
from_whole n s ts h = rw (h.3, h.5.1, append-nil, h.5.0) h.4

-- k more levels
abbrev above : ℕ → ℕ → ℕ
above zero n = n
above (suc k) n = suc (above k n)

above_sum : (k n : ℕ) → above k n ≡ k + n
above_sum zero n = omega arith
above_sum (suc k) n = omega (arith, above_sum k n)

wider : (k n : ℕ) (s : Tree) (ts : List Tok) → IsStatement n s ts → IsStatement (above k n) s ts
wider zero n s ts h = h
wider (suc k) n s ts h = (both_statement (above k n)).wider s ts (wider k n s ts h)

fails : (k n : ℕ) (ts bad : List Tok) → whole n ts ≡ Fails false bad → whole (above k n) ts ≡ Fails false bad
fails zero n ts bad e = e
fails (suc k) n ts bad e = (both_whole (above k n)).fails ts bad (fails k n ts bad e)

-- where reading fails with a token, no statement begins so
refutes : (n : ℕ) (d : Bool) (front : List Tok) (t : Tok) (ts : List Tok) → whole n (front ++ t ∷ ts) ≡ Fails d (t ∷ ts) → Begins n (front ++ t ∷ []) → ⊥
refutes n d front t ts e b =
    let g = (both_whole n).good in
    let stays : whole n (front ++ t ∷ b.1) ≡ Fails d (t ∷ b.1) = g.stays_err d front (t ∷ ts) (t ∷ b.1) refl e in
    let reads : whole n (((front ++ t ∷ []) ++ b.1) ++ []) ≡ Got b.0 [] = g.complete b.0 ((front ++ t ∷ []) ++ b.1) [] (to_whole n b.0 _ b.2) refl in
    let same : ((front ++ t ∷ []) ++ b.1) ++ [] ≡ front ++ t ∷ b.1 = append-nil _ ∙ append_assoc front (t ∷ []) b.1 in
    let reads2 = subst (λ z. whole n z ≡ Got b.0 []) same reads in
    absurd (cc (stays, reads2))

begins : (n : ℕ) (front : List Tok) (s : Tree) (tail : List Tok) → Whole n s (front ++ tail) → Begins n front
begins n front s tail h = (s, tail, from_whole n s (front ++ tail) h)

regroup : (n : ℕ) (s : Tree) (front x : List Tok) (t u : Tok) (tail : List Tok) → front ≡ x → t ≡ u → Whole (suc n) s (x ++ u ∷ tail) → Whole (suc n) s ((front ++ t ∷ []) ++ tail)
regroup n s front x t u tail cut token h =
    let e : (front ++ t ∷ []) ++ tail ≡ x ++ u ∷ tail = rw (append_assoc, cut, token) refl in
    subst (λ z. Whole (suc n) s z) (sym e) h

stops : (n : ℕ) (ts bad : List Tok) (deep : Bool) → whole n ts ≡ Fails deep bad → StopsAt n deep ts bad
stops n ts [] false e =
    let g = (both_whole n).good in
    let v = g.viable ts false [] e in (
      v.0,
      v.1,
      begins n v.0 v.2 v.3 v.4,
      (λ s h.
          let reads : whole n (v.0 ++ []) ≡ Got s [] = g.complete s v.0 [] (to_whole n s v.0 h) refl in
          let reads2 : whole n ts ≡ Got s [] = rw v.1 reads in
          absurd (cc (e, reads2))),
    )
stops n ts [] true e = absurd (let x = (both_whole n).deep ts [] e in let k = x.4 in cc k)
stops n ts (t ∷ bad) false e =
    let g = (both_whole n).good in
    let v = g.viable ts false (t ∷ bad) e in (
      v.0,
      v.1,
      begins n v.0 v.2 v.3 v.4,
      (λ m b.
          let high : whole (above m n) (v.0 ++ t ∷ bad) ≡ Fails false (t ∷ bad) = rw (← v.1) (fails m n ts (t ∷ bad) e) in
          let level : above n m ≡ above m n = above_sum n m ∙ (let k : n + m ≡ m + n = omega arith in k) ∙ sym (above_sum m n) in
          let up : IsStatement (above m n) b.0 ((v.0 ++ t ∷ []) ++ b.1) = subst (λ z. IsStatement z b.0 ((v.0 ++ t ∷ []) ++ b.1)) level (wider n m b.0 _ b.2) in
          refutes (above m n) false v.0 t bad high (b.0, b.1, up)),
    )
stops n ts (t ∷ bad) true e =
    let g = (both_whole n).good in
    let v = g.viable ts true (t ∷ bad) e in
    let x = (both_whole n).deep ts (t ∷ bad) e in
    let k = x.4 in
    let token : t ≡ x.1 = cc k in
    let cut : v.0 ≡ x.0 = append_cancel_right v.0 x.0 (t ∷ bad) (sym v.1 ∙ x.3 ∙ ap (λ z. x.0 ++ z) (sym x.4)) in
    let more = regroup n x.5 v.0 x.0 t x.1 x.6 cut token x.7 in
    (v.0, v.1, begins n v.0 v.2 v.3 v.4, ((suc n, begins (suc n) (v.0 ++ t ∷ []) x.5 x.6 more), (λ b. refutes n true v.0 t bad (rw (← v.1) e) b)))

found : (n : ℕ) (ts rest : List Tok) (s : Tree) → whole n ts ≡ Got s rest → (rest ≡ []) × IsStatement n s ts
unfolding whole
found n ts rest s e =
    let b = bind_ok (statement n ts) end s rest e in
    let x = (both_statement n).good.sound ts b.0 b.1 b.2 in
    go b.0 x.0 b.1 x.1 x.2 b.3
  where
    go : (a : Tree) (front r : List Tok) → ts ≡ front ++ r → IsStatement n a front → end a r ≡ Got s rest → (rest ≡ []) × IsStatement n s ts
    go a front [] whole spelled e = let k : [] ≡ rest = cc in let j : a ≡ s = cc in (sym k, rw (← j, whole, append-nil) spelled)
    go a front (t ∷ r) whole spelled e = absurd cc

pub each_is_exact : EachIsExact
each_is_exact n = record {
  found = found n;
  only = λ ts s h. subst (λ z. whole n z ≡ Got s []) (append-nil ts) ((both_whole n).good.complete s ts [] (to_whole n s ts h) refl);
  stops = stops n;
}
