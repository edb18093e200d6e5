-- A reader of fewer levels and one of more: the same, or the limit alone stopped the first.
use Rattle.std.proofs.Common.{◌≡◌, ℕ, zero, suc, Bool, true, false, List, [], ◌∷◌, ◌++◌, ◌⊎◌, inl, inr, length, Option, Some, None, refl, sym, ap, ◌∙◌, append_assoc}
use Rattle.std.specs.Prelude.{if◌then◌else◌}
use Rattle.std.proofs.lemmas.List.{append-nil}
use Rattle.std.proofs.lemmas.Bool.{cond-true, cond-false}
use Rattle.sr_grammar.specs.Tokens.{Tok}
use Rattle.sr_grammar.specs.Rules.{Rule, One, Nothing, ◌>>=◌ as ◌▸◌, ◌or◌, Many}
use Rattle.sr_grammar_laws.specs.Reading.{Reading, Got, Fails, Reader, ◌>>=◌, and_then, nothing, taken, one, next_is, branch, many_for, many}
use Rattle.sr_grammar_laws.proofs.Good.{Good, bind_ok, bind_err, good_nothing, good_one, good_then, good_branch, good_limit, or_test}
use Rattle.sr_grammar_laws.proofs.Many.{good_many}

pub record Both {A : Type 0} (p p' : Reader A) (P P' : Rule A) (more : Tok → Bool) : Type 0 where
  pub good : Good p P more
  pub wider : (a : A) (x : List Tok) → P a x → P' a x
  pub got : (ts : List Tok) (a : A) (rest : List Tok) → p ts ≡ Got a rest → p' ts ≡ Got a rest
  pub fails : (ts bad : List Tok) → p ts ≡ Fails false bad → p' ts ≡ Fails false bad
  pub deep : (ts bad : List Tok) → p ts ≡ Fails true bad → (front : List Tok) × (t : Tok) × (tail : List Tok) × (ts ≡ front ++ t ∷ tail) × (bad ≡ t ∷ tail) × (a : A) × (end : List Tok) × P' a (front ++ t ∷ end)

pub both_nothing : {A : Type 0} (b : A) (more : Tok → Bool) → Both (nothing b) (nothing b) (Nothing b) (Nothing b) more
both_nothing b more = record { good = good_nothing b more; wider = λ a x h. h; got = λ ts a rest e. e; fails = λ ts bad e. e; deep = λ ts bad e. absurd cc }

pub both_one : {A : Type 0} (f : Tok → Option A) (value : A) (t : Tok) → f t ≡ Some value → Both (one f) (one f) (One f) (One f) (λ _. false)
both_one {A = A} f value t is = record { good = good_one f value t is; wider = λ a x h. h; got = λ ts a rest e. e; fails = λ ts bad e. e; deep = λ ts bad e. absurd (never ts bad e) }
  where
    never : (ts bad : List Tok) → one f ts ≡ Fails true bad → ⊥
    never [] bad e = cc
    never (u ∷ us) bad e = go (f u) e
      where
        go : (o : Option A) → taken o u us ≡ Fails true bad → ⊥
        go None e = cc
        go (Some b) e = cc

pub both_then : {A B : Type 0} (p p' : Reader A) (P P' : Rule A) (more : Tok → Bool) (f f' : A → Reader B) (Q Q' : A → Rule B) (more' : Tok → Bool)
    → Both p p' P P' more → ((a : A) → Both (f a) (f' a) (Q a) (Q' a) more')
    → ((a : A) (x : List Tok) (b : B) (y rest : List Tok) → P a x → Q a b y → next_is more' rest ≡ false → next_is more (y ++ rest) ≡ false)
    → Both (and_then p f) (and_then p' f') (P ▸ Q) (P' ▸ Q') more'
both_then {A = A} {B = B} p p' P P' more f f' Q Q' more' gp gf apart = record {
  good = good_then p P more f Q more' gp.good (λ a. (gf a).good) apart;
  wider = λ b z h. (h.0, h.1, h.2, h.3, gp.wider h.0 h.1 h.4, (gf h.0).wider b h.2 h.5);
  got = λ ts b end e. let s = bind_ok (p ts) f b end e in ap (λ r. r >>= f') (gp.got ts s.0 s.1 s.2) ∙ (gf s.0).got s.1 b end s.3;
  fails = λ ts bad e. elim (bind_err (p ts) f false bad e) [
    | inl k ↦ ap (λ r. r >>= f') (gp.fails ts bad k)
    | inr s ↦ ap (λ r. r >>= f') (gp.got ts s.0 s.1 s.2) ∙ (gf s.0).fails s.1 bad s.3
  ];
  deep = λ ts bad e. elim (bind_err (p ts) f true bad e) [
    | inl k ↦ (let x = gp.deep ts bad k in let g = gf x.5 in
        (x.0, x.1, x.2, x.3, x.4, g.good.value, x.6 ++ g.good.spelling, (x.5, x.0 ++ x.1 ∷ x.6, g.good.spelling, sym (append_assoc x.0 (x.1 ∷ x.6) g.good.spelling), x.7, g.wider _ _ g.good.some)))
    | inr s ↦ (let x = gp.good.sound ts s.0 s.1 s.2 in let y = (gf s.0).deep s.1 bad s.3 in
        (x.0 ++ y.0, y.1, y.2, x.1 ∙ ap (λ z. x.0 ++ z) y.3 ∙ sym (append_assoc x.0 y.0 (y.1 ∷ y.2)), y.4, y.5, y.6, (s.0, x.0, y.0 ++ y.1 ∷ y.6, append_assoc x.0 y.0 (y.1 ∷ y.6), gp.wider _ _ x.2, y.7)))
  ];
}

pub both_branch : {A : Type 0} (f : Tok → Bool) (p p' q q' : Reader A) (P P' Q Q' : Rule A) (more : Tok → Bool)
    → Both p p' P P' more → Both q q' Q Q' more
    → ((a : A) (x rest : List Tok) → P a x → next_is f (x ++ rest) ≡ true)
    → ((a : A) (x rest : List Tok) → Q a x → next_is more rest ≡ false → next_is f (x ++ rest) ≡ false)
    → Both (branch f p q) (branch f p' q') (P or Q) (P' or Q') more
both_branch {A = A} f p p' q q' P P' Q Q' more gp gq begins begins_not = record {
  good = good_branch f p q P Q more gp.good gq.good begins begins_not;
  wider = λ a x h. elim h [ inl k ↦ inl (gp.wider a x k) | inr k ↦ inr (gq.wider a x k) ];
  got = λ ts a rest e. got (next_is f ts) ts a rest e;
  fails = λ ts bad e. fails (next_is f ts) ts bad e;
  deep = λ ts bad e. deep (next_is f ts) ts bad e;
}
  where
    got : (b : Bool) (ts : List Tok) (a : A) (rest : List Tok) → (if b then p ts else q ts) ≡ Got a rest → (if b then p' ts else q' ts) ≡ Got a rest
    got true ts a rest e = gp.got ts a rest e
    got false ts a rest e = gq.got ts a rest e

    fails : (b : Bool) (ts bad : List Tok) → (if b then p ts else q ts) ≡ Fails false bad → (if b then p' ts else q' ts) ≡ Fails false bad
    fails true ts bad e = gp.fails ts bad e
    fails false ts bad e = gq.fails ts bad e

    deep : (b : Bool) (ts bad : List Tok) → (if b then p ts else q ts) ≡ Fails true bad → (front : List Tok) × (t : Tok) × (tail : List Tok) × (ts ≡ front ++ t ∷ tail) × (bad ≡ t ∷ tail) × (a : A) × (end : List Tok) × (P' or Q') a (front ++ t ∷ end)
    deep true ts bad e = let x = gp.deep ts bad e in (x.0, x.1, x.2, x.3, x.4, x.5, x.6, inl x.7)
    deep false ts bad e = let x = gq.deep ts bad e in (x.0, x.1, x.2, x.3, x.4, x.5, x.6, inr x.7)

-- at the limit: Q alone is read, and what begins with f begins a spelling of P'
pub both_limit : {A : Type 0} (f : Tok → Bool) (q : Reader A) (Q : Rule A) (q' : Reader A) (P' : Rule A) (more : Tok → Bool)
    → Both q q Q Q more
    → ((a : A) (x rest : List Tok) → Q a x → next_is more rest ≡ false → next_is f (x ++ rest) ≡ false)
    → ((ts : List Tok) → next_is f ts ≡ false → q' ts ≡ q ts)
    → ((a : A) (x : List Tok) → Q a x → P' a x)
    → ((t : Tok) → f t ≡ true → (a : A) × (end : List Tok) × P' a (t ∷ end))
    → Both (branch f (λ ts. Fails true ts) q) q' Q P' more
both_limit {A = A} f q Q q' P' more gq begins_not same wider opens = record {
  good = good_limit f q Q more gq.good begins_not;
  wider = wider;
  got = λ ts a rest e. got (next_is f ts) ts a rest refl e;
  fails = λ ts bad e. fails (next_is f ts) ts bad refl e;
  deep = λ ts bad e. deep (next_is f ts) ts bad refl e;
}
  where
    got : (b : Bool) (ts : List Tok) (a : A) (rest : List Tok) → next_is f ts ≡ b → (if b then Fails true ts else q ts) ≡ Got a rest → q' ts ≡ Got a rest
    got true ts a rest was e = absurd cc
    got false ts a rest was e = same ts was ∙ e

    fails : (b : Bool) (ts bad : List Tok) → next_is f ts ≡ b → (if b then Fails true ts else q ts) ≡ Fails false bad → q' ts ≡ Fails false bad
    fails true ts bad was e = absurd cc
    fails false ts bad was e = same ts was ∙ e

    deep : (b : Bool) (ts bad : List Tok) → next_is f ts ≡ b → (if b then Fails true ts else q ts) ≡ Fails true bad → (front : List Tok) × (t : Tok) × (tail : List Tok) × (ts ≡ front ++ t ∷ tail) × (bad ≡ t ∷ tail) × (a : A) × (end : List Tok) × P' a (front ++ t ∷ end)
    deep true [] bad was e = absurd cc
    deep true (t ∷ ts) bad was e = let k : t ∷ ts ≡ bad = cc e in let o = opens t was in ([], t, ts, refl, sym k, o.0, o.1, o.2)
    deep false ts bad was e = let x = gq.deep ts bad e in (x.0, x.1, x.2, x.3, x.4, x.5, x.6, wider _ _ x.7)

pub both_many : {A : Type 0} (f : Tok → Bool) (p p' : Reader A) (P P' : Rule A) (more : Tok → Bool)
    → Both p p' P P' more
    → ((a : A) (x rest : List Tok) → P a x → next_is f (x ++ rest) ≡ true)
    → ((t : Tok) → f t ≡ true → more t ≡ false)
    → Both (many f p) (many f p') (Many P) (Many P') (or_test f more)
both_many {A = A} f p p' P P' more gp begins apart = record {
  good = good_many f p P more gp.good begins apart;
  wider = wider;
  got = λ ts xs rest e. got (suc (length ts)) ts xs rest e;
  fails = λ ts bad e. fails (suc (length ts)) ts bad e;
  deep = λ ts bad e. deep (suc (length ts)) ts bad e;
}
  where
    rest_of : (r : ℕ) → Reader A → A → Reader (List A)
    rest_of k q x rest = many_for k f q rest >>= λ y end. Got (x ∷ y) end

    split : {B : Type 0} (b : Bool) (x y z : B) → (if b then x else y) ≡ z → ((b ≡ true) × (x ≡ z)) ⊎ ((b ≡ false) × (y ≡ z))
    split true x y z e = inl (refl, e)
    split false x y z e = inr (refl, e)

    wider : (xs : List A) (x : List Tok) → Many P xs x → Many P' xs x
    wider [] x h = h
    wider (a ∷ xs) x h = (h.0, h.1, h.2, gp.wider a h.0 h.3, wider xs h.1 h.4)

    got : (k : ℕ) (ts : List Tok) (xs : List A) (rest : List Tok) → many_for k f p ts ≡ Got xs rest → many_for k f p' ts ≡ Got xs rest
    got zero ts xs rest e = e
    got (suc k) ts xs rest e = elim (split (next_is f ts) _ _ _ e) [
      | inl h ↦ (
          let s = bind_ok (p ts) (λ x rest. many_for k f p rest >>= λ y end. Got (x ∷ y) end) xs rest h.1 in
          let u = bind_ok (many_for k f p s.1) (λ y end. Got (s.0 ∷ y) end) xs rest s.3 in
          cond-true _ _ _ h.0 ∙ rw (gp.got ts s.0 s.1 s.2, got k s.1 u.0 u.1 u.2) u.3)
      | inr h ↦ cond-false _ _ _ h.0 ∙ h.1
    ]

    never_last : (a : A) (r : Reading (List A)) (d : Bool) (bad : List Tok) → (r >>= λ y end. Got (a ∷ y) end) ≡ Fails d bad → r ≡ Fails d bad
    never_last a (Got y end) d bad e = absurd cc
    never_last a (Fails c ts) d bad e = let k : c ≡ d = cc in let j : ts ≡ bad = cc in rw (k, j) refl

    fails : (k : ℕ) (ts bad : List Tok) → many_for k f p ts ≡ Fails false bad → many_for k f p' ts ≡ Fails false bad
    fails zero ts bad e = absurd cc
    fails (suc k) ts bad e = elim (split (next_is f ts) _ _ _ e) [
      | inl h ↦ elim (bind_err (p ts) (λ x rest. many_for k f p rest >>= λ y end. Got (x ∷ y) end) false bad h.1) [
        | inl b ↦ cond-true _ _ _ h.0 ∙ rw (gp.fails ts bad b) refl
        | inr s ↦ cond-true _ _ _ h.0 ∙ rw (gp.got ts s.0 s.1 s.2, fails k s.1 bad (never_last s.0 (many_for k f p s.1) false bad s.3)) refl
      ]
      | inr h ↦ (let e2 = h.1 in absurd (cc e2))
    ]

    deep : (k : ℕ) (ts bad : List Tok) → many_for k f p ts ≡ Fails true bad → (front : List Tok) × (t : Tok) × (tail : List Tok) × (ts ≡ front ++ t ∷ tail) × (bad ≡ t ∷ tail) × (xs : List A) × (end : List Tok) × Many P' xs (front ++ t ∷ end)
    deep zero ts bad e = absurd cc
    deep (suc k) ts bad e = elim (split (next_is f ts) _ _ _ e) [
      | inl h ↦ elim (bind_err (p ts) (λ x rest. many_for k f p rest >>= λ y end. Got (x ∷ y) end) true bad h.1) [
        | inl b ↦ (let x = gp.deep ts bad b in (x.0, x.1, x.2, x.3, x.4, x.5 ∷ [], x.6, (x.0 ++ x.1 ∷ x.6, [], sym (append-nil _), x.7, refl)))
        | inr s ↦ (
            let x = gp.good.sound ts s.0 s.1 s.2 in
            let y = deep k s.1 bad (never_last s.0 (many_for k f p s.1) true bad s.3) in
            (x.0 ++ y.0, y.1, y.2, x.1 ∙ ap (λ z. x.0 ++ z) y.3 ∙ sym (append_assoc x.0 y.0 (y.1 ∷ y.2)), y.4, s.0 ∷ y.5, y.6, (x.0, y.0 ++ y.1 ∷ y.6, append_assoc x.0 y.0 (y.1 ∷ y.6), gp.wider _ _ x.2, y.7)))
      ]
      | inr h ↦ (let e2 = h.1 in absurd (cc e2))
    ]
