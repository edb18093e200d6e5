-- One region put among others at its place in class order.
use Rattle.std.proofs.Common.{◌≡◌, ℕ, ◌+◌, ◌<◌, zero, suc, Bool, true, false, cond, List, [], ◌∷◌, ◌++◌, length, take, drop, refl, sym, ap, subst, ◌∙◌, arith, one-add, add-one}
use Rattle.std.specs.Prelude.{if◌then◌else◌, Some, slice_get, slice_index_or}
use Rattle.std.specs.List.{All}
use Rattle.std.specs.List.Sorted.{IsPartitionedBy}
use Rattle.std.proofs.lemmas.List.Elements.{All-nil, All-cons, All-head, All-tail, All-get_or}
use Rattle.std.proofs.lemmas.Option.{slice_get_within, get_or_from_slice_get}
use Rattle.std.proofs.lemmas.Bool.Decides.{nat_tests}
use Rattle.sr_model.specs.SortedRows.{ascend}
use Rattle.sr_region.specs.declared.region.Region.{Region}
use Rattle.sr_region.specs.Regions.{rank, joined}
use Rattle.sr_store.specs.Classes.{is_before, is_same, ascends}
use Rattle.sr_store.specs.Renewing.{with_region}
use Rattle.sr_store.specs.Making.{place_in, is_same_first, HasKey, IsKeyed, CanJoin}

pub before-trans : (f g h : Region) → is_before f g ≡ true → is_before g h ≡ true → is_before f h ≡ true
before-trans f g h x y = grind (arith, nat_tests)

not-back : (h g : Region) → is_before h g ≡ true → is_before g h ≡ false
not-back h g e = grind (arith, nat_tests)

pub not-same : (h g : Region) → is_before h g ≡ true → is_same h g ≡ false
not-same h g e = grind (arith, nat_tests)

same-level : (h g : Region) → is_same h g ≡ true → is_before g h ≡ false
same-level h g e = grind (arith, nat_tests)

else-before : (h g : Region) → is_before h g ≡ false → is_same h g ≡ false → is_before g h ≡ true
else-before h g b s = grind (arith, nat_tests)

-- the regions in front of one that stands before another do so too
ascends-tail : (h : Region) (hs : List Region) → ascends (h ∷ hs) ≡ true → ascends hs ≡ true
ascends-tail h [] a = refl
ascends-tail h (k ∷ hs) a = grind arith

first-before : (g h : Region) (hs : List Region) (j : ℕ) (d : Region) → ascends (h ∷ hs) ≡ true → j < length hs → is_before (slice_index_or hs j d) g ≡ true → is_before h g ≡ true
first-before g h [] j d a below b = absurd (omega arith)
first-before g h (k ∷ hs) zero d a below b = before-trans h k g (grind arith) b
first-before g h (k ∷ hs) (suc j) d a below b = before-trans h k g (grind arith) (first-before g k hs j d (ascends-tail h (k ∷ hs) a) (omega arith) b)

pub ascends-parted : (g : Region) (hs : List Region) → ascends hs ≡ true → IsPartitionedBy (λ h. is_before h g) hs
ascends-parted g [] a i j d le below p = absurd (omega arith)
ascends-parted g (h ∷ hs) a zero zero d le below p = p
ascends-parted g (h ∷ hs) a zero (suc j) d le below p = first-before g h hs j d a (omega arith) p
ascends-parted g (h ∷ hs) a (suc i) zero d le below p = absurd (omega arith)
ascends-parted g (h ∷ hs) a (suc i) (suc j) d le below p = ascends-parted g hs (ascends-tail h hs a) i j d (omega arith) (omega arith) p

pub behind : (h : Region) (hs : List Region) (g : Region) → is_before h g ≡ true → with_region (h ∷ hs) g ≡ h ∷ with_region hs g
behind h hs g e = let b = not-back h g e in let s = not-same h g e in rw (b, s) refl

-- where none is of its class, it stands at its place
with_region-new : (hs : List Region) (g : Region) → is_same_first (drop (place_in hs g) hs) g ≡ false → with_region hs g ≡ take (place_in hs g) hs ++ g ∷ drop (place_in hs g) hs
with_region-new [] g s = refl
with_region-new (h ∷ hs) g s = go (is_before h g) refl s (with_region-new hs g)
  where
    go : (b : Bool) → is_before h g ≡ b → is_same_first (drop (cond b (1 + place_in hs g) 0) (h ∷ hs)) g ≡ false
        → (is_same_first (drop (place_in hs g) hs) g ≡ false → with_region hs g ≡ take (place_in hs g) hs ++ g ∷ drop (place_in hs g) hs)
        → with_region (h ∷ hs) g ≡ take (cond b (1 + place_in hs g) 0) (h ∷ hs) ++ g ∷ drop (cond b (1 + place_in hs g) 0) (h ∷ hs)
    go true e s ih = rw one-add (behind h hs g e ∙ ap (λ xs. h ∷ xs) (ih (rw one-add at s)))
    go false e s ih = let b = else-before h g e s in rw b refl

-- where the one at its place is of its class, both are joined
with_region-joined : (hs : List Region) (g own : Region) → is_same_first (drop (place_in hs g) hs) g ≡ true → slice_get hs (place_in hs g) ≡ Some own
    → with_region hs g ≡ take (place_in hs g) hs ++ joined own g ∷ drop (suc (place_in hs g)) hs
with_region-joined [] g own s is = absurd (grind arith)
with_region-joined (h ∷ hs) g own s is = go (is_before h g) refl s is (with_region-joined hs g own)
  where
    go : (b : Bool) → is_before h g ≡ b → is_same_first (drop (cond b (1 + place_in hs g) 0) (h ∷ hs)) g ≡ true → slice_get (h ∷ hs) (cond b (1 + place_in hs g) 0) ≡ Some own
        → (is_same_first (drop (place_in hs g) hs) g ≡ true → slice_get hs (place_in hs g) ≡ Some own → with_region hs g ≡ take (place_in hs g) hs ++ joined own g ∷ drop (suc (place_in hs g)) hs)
        → with_region (h ∷ hs) g ≡ take (cond b (1 + place_in hs g) 0) (h ∷ hs) ++ joined own g ∷ drop (suc (cond b (1 + place_in hs g) 0)) (h ∷ hs)
    go true e s is ih = rw one-add (behind h hs g e ∙ ap (λ xs. h ∷ xs) (ih (rw one-add at s) (rw one-add at is)))
    go false e s is ih = let b = same-level h g s in let o : h ≡ own = cc in rw (b, s) (ap (λ k. joined k g ∷ hs) o)

put-back : {X : Type 0} (xs : List X) (n : ℕ) (x : X) → n < length xs → take n (take n xs ++ drop (suc n) xs) ++ x ∷ drop n (take n xs ++ drop (suc n) xs) ≡ take n xs ++ x ∷ drop (suc n) xs
put-back [] n x l = absurd (omega arith)
put-back (y ∷ xs) zero x l = refl
put-back (y ∷ xs) (suc n) x l = ap (λ ys. y ∷ ys) (put-back xs n x (omega arith))

at-place : {X : Type 0} (P : X → Type 0) (xs : List X) (n : ℕ) (x : X) → slice_get xs n ≡ Some x → All P xs → P x
at-place P xs n x is all = subst P (get_or_from_slice_get xs n x x is) (All-get_or P xs n x (slice_get_within xs n x is) all)

same-at : (hs : List Region) (n : ℕ) (g own : Region) → slice_get hs n ≡ Some own → is_same_first (drop n hs) g ≡ true → is_same own g ≡ true
same-at [] n g own is s = absurd (cc)
same-at (h ∷ hs) zero g own is s = let o : h ≡ own = cc in subst (λ k. is_same k g ≡ true) o s
same-at (h ∷ hs) (suc n) g own is s = same-at hs n g own is s

-- what `add` makes where the one at the place is of the class
pub added_joined : (hs removed new : List Region) (g own both : Region) (n : ℕ) → n ≡ place_in hs g → is_same_first (drop n hs) g ≡ true → slice_get hs n ≡ Some own
    → removed ≡ take n hs ++ drop (n + 1) hs → both ≡ joined own g → new ≡ take n removed ++ both ∷ drop n removed → new ≡ with_region hs g
added_joined hs removed new g own both n place s is gone one put =
    let e : removed ≡ take n hs ++ drop (suc n) hs = gone ∙ ap (λ m. take n hs ++ drop m hs) (add-one n) in
    put ∙ ap (λ xs. take n xs ++ both ∷ drop n xs) e ∙ put-back hs n both (slice_get_within hs n own is) ∙ ap (λ k. take n hs ++ k ∷ drop (suc n) hs) one
    ∙ ap (λ m. take m hs ++ joined own g ∷ drop (suc m) hs) place
    ∙ sym (with_region-joined hs g own (subst (λ m. is_same_first (drop m hs) g ≡ true) place s) (subst (λ m. slice_get hs m ≡ Some own) place is))

pub added_new : (hs new : List Region) (g : Region) (n : ℕ) → n ≡ place_in hs g → is_same_first (drop n hs) g ≡ false → new ≡ take n hs ++ g ∷ drop n hs → new ≡ with_region hs g
added_new hs new g n place s put =
    put ∙ ap (λ m. take m hs ++ g ∷ drop m hs) place ∙ sym (with_region-new hs g (subst (λ m. is_same_first (drop m hs) g ≡ false) place s))

same-parts : (h g : Region) → is_same h g ≡ true → (h.table ≡ g.table) × (h.attrs ≡ g.attrs)
same-parts h g e = (grind (arith, nat_tests), grind (arith, nat_tests))

-- the rows of one that is joined lie by the key of the other
pub joins : (hs : List Region) (g own : Region) (n : ℕ) → CanJoin hs (g ∷ []) → is_same_first (drop n hs) g ≡ true → slice_get hs n ≡ Some own
    → ascend (rank own.attrs own.key) g.rows ≡ true
joins hs g own n can s is =
    let same = same-parts own g (same-at hs n g own is s) in
    let keyed = All-head (IsKeyed can.key) g [] can.keyed in
    let k : own.key ≡ g.key = at-place (HasKey can.key) hs n own is can.keys ∙ ap can.key same.0 ∙ sym keyed.0 in
    subst (λ m. ascend m g.rows ≡ true) (sym (ap (λ a. rank a own.key) same.1 ∙ ap (rank g.attrs) k)) keyed.1

-- the key of the table stays
keys-with : (key : ℕ → ℕ) (hs : List Region) (g : Region) → All (HasKey key) hs → HasKey key g → All (HasKey key) (with_region hs g)
keys-with key [] g all one = All-cons (HasKey key) g [] one (All-nil (HasKey key))
keys-with key (h ∷ hs) g all one = go (is_before g h) (is_same h g) (keys-with key hs g (All-tail (HasKey key) h hs all) one)
  where
    go : (b s : Bool) → All (HasKey key) (with_region hs g) → All (HasKey key) (if b then g ∷ h ∷ hs else (if s then joined h g ∷ hs else h ∷ with_region hs g))
    go true s ih = All-cons (HasKey key) g (h ∷ hs) one all
    go false true ih = All-cons (HasKey key) (joined h g) hs (All-head (HasKey key) h hs all) (All-tail (HasKey key) h hs all)
    go false false ih = All-cons (HasKey key) h (with_region hs g) (All-head (HasKey key) h hs all) ih

pub join_one : (hs : List Region) (g : Region) (gs : List Region) → CanJoin hs (g ∷ gs) → CanJoin hs (g ∷ [])
join_one hs g gs can = record { key = can.key; keys = can.keys; keyed = All-cons (IsKeyed can.key) g [] (All-head (IsKeyed can.key) g gs can.keyed) (All-nil (IsKeyed can.key)) }

pub join_more : (hs : List Region) (g : Region) (gs : List Region) → CanJoin hs (g ∷ gs) → CanJoin (with_region hs g) gs
join_more hs g gs can = record {
  key = can.key;
  keys = keys-with can.key hs g can.keys (All-head (IsKeyed can.key) g gs can.keyed).0;
  keyed = All-tail (IsKeyed can.key) g gs can.keyed;
}
