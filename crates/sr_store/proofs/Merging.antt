-- Two lists of regions put together in class order, where none is of a class of the other list.
use Rattle.std.proofs.Common.{◌≡◌, ℕ, ◌+◌, Bool, true, false, List, [], ◌∷◌, ◌++◌, length, map, refl, sym, ap, ◌∙◌, ◌↔◌, arith}
use Rattle.std.specs.Prelude.{not, if◌then◌else◌, IsTrue}
use Rattle.std.specs.List.{list_all}
use Rattle.std.proofs.lemmas.Bool.Decides.{nat_tests}
use Rattle.sr_cell.specs.declared.cause.Cause.{Cause}
use Rattle.sr_region.specs.declared.region.Region.{Region}
use Rattle.sr_region.specs.Regions.{joined}
use Rattle.sr_store.specs.Classes.{is_before, is_same, ascends}
use Rattle.sr_store.specs.Stores.{count_rects, drop_of}
use Rattle.sr_store.specs.Answered.{AreFlags, same_flag, flagged}
use Rattle.sr_store.specs.Renewing.{with_region, with_regions}
use Rattle.sr_store.specs.Making.{without_rows}
use Rattle.sr_store.proofs.Adding.{not-before, with_region-ascends}
use Rattle.sr_store.proofs.Joining.{behind, not-same}
use Rattle.sr_store.proofs.Dropping.{before_all, before-less, ascends_all, flagged-before, count_rects-cons}

-- no region is of that one's class
abbrev pub has_none : List Region → Region → Bool
has_none hs g = list_all (λ h. not (is_same h g)) hs

-- no region is of a class of the others
abbrev pub have_no_class : List Region → List Region → Bool
have_no_class hs gs = list_all (has_none hs) gs

-- ---- regions that stand before the others

before-front : (g : Region) (hs : List Region) → before_all g hs ≡ true → with_region hs g ≡ g ∷ hs
before-front g [] b = refl
before-front g (h ∷ hs) b = let e : is_before g h ≡ true = grind (arith, b) in rw e refl

front-stays : (f : Region) (hs gs : List Region) → before_all f gs ≡ true → with_regions (f ∷ hs) gs ≡ f ∷ with_regions hs gs
front-stays f hs [] b = refl
front-stays f hs (g ∷ gs) b = ap (λ xs. with_regions xs gs) (behind f hs g (grind (arith, b))) ∙ front-stays f (with_region hs g) gs (grind (arith, b))

-- the regions without flag and those with one are all
pub unsifted : (fs : List Bool) (gs : List Region) → ascends gs ≡ true → length fs ≡ length gs → with_regions (flagged false fs gs) (flagged true fs gs) ≡ gs
unsifted [] [] a l = refl
unsifted [] (g ∷ gs) a l = absurd (omega (arith, l))
unsifted (f ∷ fs) [] a l = absurd (omega (arith, l))
unsifted (true ∷ fs) (g ∷ gs) a l =
    let two = ascends_all g gs a in
    ap (λ xs. with_regions xs (flagged true fs gs)) (before-front g (flagged false fs gs) (flagged-before g false fs gs two.0))
    ∙ front-stays g (flagged false fs gs) (flagged true fs gs) (flagged-before g true fs gs two.0) ∙ ap (λ xs. g ∷ xs) (unsifted fs gs two.1 (omega (arith, l)))
unsifted (false ∷ fs) (g ∷ gs) a l =
    let two = ascends_all g gs a in
    front-stays g (flagged false fs gs) (flagged true fs gs) (flagged-before g true fs gs two.0) ∙ ap (λ xs. g ∷ xs) (unsifted fs gs two.1 (omega (arith, l)))

-- ---- classes

not-back : (h g : Region) → is_before h g ≡ true → is_same g h ≡ false
not-back h g e = grind (arith, nat_tests)

none-behind : (f : Region) (gs : List Region) → before_all f gs ≡ true → has_none gs f ≡ true
none-behind f [] b = refl
none-behind f (g ∷ gs) b = let ih = none-behind f gs (grind (arith, b)) in let e = not-back f g (grind (arith, b)) in rw (e, ih) refl

none-front : (f : Region) (hs gs : List Region) → before_all f gs ≡ true → have_no_class hs gs ≡ true → have_no_class (f ∷ hs) gs ≡ true
none-front f hs [] b h = refl
none-front f hs (g ∷ gs) b h =
    let ih = none-front f hs gs (grind (arith, b)) (grind (arith, h)) in
    let e = not-same f g (grind (arith, b)) in
    let one : has_none hs g ≡ true = grind (arith, h) in
    rw (e, one, ih) refl

-- of regions in class order, those without flag have no class of those with one
pub parted_classes : (fs : List Bool) (gs : List Region) → ascends gs ≡ true → have_no_class (flagged false fs gs) (flagged true fs gs) ≡ true
parted_classes [] gs a = refl
parted_classes (f ∷ fs) [] a = refl
parted_classes (true ∷ fs) (g ∷ gs) a =
    let two = ascends_all g gs a in
    let one = none-behind g (flagged false fs gs) (flagged-before g false fs gs two.0) in
    let ih = parted_classes fs gs two.1 in
    rw (one, ih) refl
parted_classes (false ∷ fs) (g ∷ gs) a =
    let two = ascends_all g gs a in
    none-front g (flagged false fs gs) (flagged true fs gs) (flagged-before g true fs gs two.0) (parted_classes fs gs two.1)

none-with : (hs : List Region) (g k : Region) → has_none hs k ≡ true → is_same g k ≡ false → has_none (with_region hs g) k ≡ true
none-with [] g k h e = rw e refl
none-with (f ∷ hs) g k h e = go (is_before g f) (is_same f g) (none-with hs g k (grind (arith, h)) e)
  where
    go : (x y : Bool) → has_none (with_region hs g) k ≡ true → has_none (if x then g ∷ f ∷ hs else (if y then joined f g ∷ hs else f ∷ with_region hs g)) k ≡ true
    go true y ih = rw e h
    go false true ih = h
    go false false ih = let one : not (is_same f k) ≡ true = grind (arith, h) in rw (one, ih) refl

no-class-with : (hs : List Region) (g : Region) (gs : List Region) → before_all g gs ≡ true → have_no_class hs gs ≡ true → have_no_class (with_region hs g) gs ≡ true
no-class-with hs g [] b h = refl
no-class-with hs g (k ∷ gs) b h =
    let one = none-with hs g k (grind (arith, h)) (not-same g k (grind (arith, b))) in
    let ih = no-class-with hs g gs (grind (arith, b)) (grind (arith, h)) in
    rw (one, ih) refl

-- ---- flags

module _ (P : Region → Type 0) where
  flags-with : (hs : List Region) (fs : List Bool) (g : Region) (e : Bool) → ascends hs ≡ true → has_none hs g ≡ true → AreFlags P fs hs → (IsTrue e ↔ P g)
      → (ds : List Bool) × AreFlags P ds (with_region hs g) × ((b : Bool) → flagged b ds (with_region hs g) ≡ (if same_flag e b then with_region (flagged b fs hs) g else flagged b fs hs))
  flags-with [] [] g e a none flags is = (e ∷ [], (is, tt), λ b. refl)
  flags-with [] (f ∷ fs) g e a none flags is = absurd flags
  flags-with (h ∷ hs) [] g e a none flags is = absurd flags
  flags-with (h ∷ hs) (f ∷ fs) g e a none flags is =
      go (is_before g h) (is_same h g) refl refl (flags-with hs fs g e (ascends_all h hs a).1 (grind (arith, none)) flags.1 is)
    where
      front : (s : Bool) (xs : List Region) → before_all g xs ≡ true → (if s then g ∷ xs else xs) ≡ (if s then with_region xs g else xs)
      front true xs b = sym (before-front g xs b)
      front false xs b = refl

      back : (s t : Bool) (F ds : List Region) → is_before h g ≡ true → ds ≡ (if t then with_region F g else F)
          → (if s then h ∷ ds else ds) ≡ (if t then with_region (if s then h ∷ F else F) g else (if s then h ∷ F else F))
      back true true F ds b is = ap (λ xs. h ∷ xs) is ∙ sym (behind h F g b)
      back true false F ds b is = ap (λ xs. h ∷ xs) is
      back false true F ds b is = is
      back false false F ds b is = is

      go : (x y : Bool) → is_before g h ≡ x → is_same h g ≡ y
          → (ds : List Bool) × AreFlags P ds (with_region hs g) × ((b : Bool) → flagged b ds (with_region hs g) ≡ (if same_flag e b then with_region (flagged b fs hs) g else flagged b fs hs))
          → (ds : List Bool) × AreFlags P ds (if x then g ∷ h ∷ hs else (if y then joined h g ∷ hs else h ∷ with_region hs g))
          × ((b : Bool) → flagged b ds (if x then g ∷ h ∷ hs else (if y then joined h g ∷ hs else h ∷ with_region hs g))
          ≡ (if same_flag e b then with_region (flagged b (f ∷ fs) (h ∷ hs)) g else flagged b (f ∷ fs) (h ∷ hs)))
      go true y ex ey ih =
          let all : before_all g (h ∷ hs) ≡ true = let two = ascends_all h hs a in let rest = before-less g h hs ex two.0 in rw (ex, rest) refl in
          (e ∷ f ∷ fs, (is, flags), λ b. front (same_flag e b) (flagged b (f ∷ fs) (h ∷ hs)) (flagged-before g b (f ∷ fs) (h ∷ hs) all))
      go false true ex ey ih = absurd (grind (arith, none, ey))
      go false false ex ey ih =
          (f ∷ ih.0, (flags.0, ih.1), λ b. back (same_flag f b) (same_flag e b) (flagged b fs hs) (flagged b ih.0 (with_region hs g)) (not-before g h ex ey) (ih.2 b))

  -- the flags of two lists of regions are flags of both put together
  pub flags_both : (hs gs : List Region) (fs es : List Bool) → ascends hs ≡ true → ascends gs ≡ true → have_no_class hs gs ≡ true → AreFlags P fs hs → AreFlags P es gs
      → (ds : List Bool) × AreFlags P ds (with_regions hs gs) × ((b : Bool) → flagged b ds (with_regions hs gs) ≡ with_regions (flagged b fs hs) (flagged b es gs))
  flags_both hs [] fs [] a c none flags more = (fs, flags, λ b. refl)
  flags_both hs [] fs (e ∷ es) a c none flags more = absurd more
  flags_both hs (g ∷ gs) fs [] a c none flags more = absurd more
  flags_both hs (g ∷ gs) fs (e ∷ es) a c none flags more =
      let two = ascends_all g gs c in
      let one = flags-with hs fs g e a (grind (arith, none)) flags more.0 in
      let rest = flags_both (with_region hs g) gs one.0 es (with_region-ascends hs g a) two.1 (no-class-with hs g gs two.0 (grind (arith, none))) one.1 more.1 in
      (rest.0, rest.1, λ b. rest.2 b ∙ ap (λ xs. with_regions xs (flagged b es gs)) (one.2 b) ∙ step (same_flag e b) (flagged b fs hs) (flagged b es gs))
    where
      step : (s : Bool) (F G : List Region) → with_regions (if s then with_region F g else F) G ≡ with_regions F (if s then g ∷ G else G)
      step true F G = refl
      step false F G = refl

-- ---- how many rects

count-joined : (h g : Region) (hs : List Region) → count_rects (joined h g ∷ hs) ≡ length g.rects + count_rects (h ∷ hs)
count-joined h g hs =
    let x = count_rects-cons (joined h g) hs in let y = count_rects-cons h hs in let l = long h.rects g.rects in
    sums (count_rects (joined h g ∷ hs)) (length (h.rects ++ g.rects)) (count_rects hs) (length g.rects) (count_rects (h ∷ hs)) (length h.rects) x y l
  where
    long : {X : Type 0} (xs ys : List X) → length (xs ++ ys) ≡ length xs + length ys
    long [] ys = omega arith
    long (x ∷ xs) ys = let ih = long xs ys in omega (arith, ih)

    sums : (c l n g d h : ℕ) → c ≡ l + n → d ≡ h + n → l ≡ h + g → c ≡ g + d
    sums c l n g d h x y z = omega (arith, x, y, z)

count-with : (hs : List Region) (g : Region) → count_rects (with_region hs g) ≡ length g.rects + count_rects hs
count-with [] g = count_rects-cons g []
count-with (h ∷ hs) g = go (is_before g h) (is_same h g) (count-with hs g)
  where
    sums : (a b c d n m : ℕ) → a ≡ n + b → b ≡ m + c → d ≡ n + c → a ≡ m + d
    sums a b c d n m x y z = omega (arith, x, y, z)

    go : (x y : Bool) → count_rects (with_region hs g) ≡ length g.rects + count_rects hs
        → count_rects (if x then g ∷ h ∷ hs else (if y then joined h g ∷ hs else h ∷ with_region hs g)) ≡ length g.rects + count_rects (h ∷ hs)
    go true y ih = count_rects-cons g (h ∷ hs)
    go false true ih = count-joined h g hs
    go false false ih =
        sums (count_rects (h ∷ with_region hs g)) (count_rects (with_region hs g)) (count_rects hs) (count_rects (h ∷ hs)) (length h.rects) (length g.rects)
        (count_rects-cons h (with_region hs g)) ih (count_rects-cons h hs)

pub count_both : (hs gs : List Region) → count_rects (with_regions hs gs) ≡ count_rects hs + count_rects gs
count_both hs [] = zero-more (count_rects hs)
  where
    zero-more : (n : ℕ) → n ≡ n + 0
    zero-more n = omega arith
count_both hs (g ∷ gs) =
    sums (count_rects (with_regions (with_region hs g) gs)) (count_rects (with_region hs g)) (count_rects gs) (count_rects (g ∷ gs)) (count_rects hs) (length g.rects)
    (count_both (with_region hs g) gs) (count-with hs g) (count_rects-cons g gs)
  where
    sums : (a b c d n m : ℕ) → a ≡ b + c → b ≡ m + n → d ≡ m + c → a ≡ n + d
    sums a b c d n m x y z = omega (arith, x, y, z)

-- ---- rows play no part in drops

bare-with : (hs : List Region) (g : Region) → map without_rows (with_region hs g) ≡ with_region (map without_rows hs) (without_rows g)
bare-with [] g = refl
bare-with (h ∷ hs) g = go (is_before g h) (is_same h g) (bare-with hs g)
  where
    go : (x y : Bool) → map without_rows (with_region hs g) ≡ with_region (map without_rows hs) (without_rows g)
        → map without_rows (if x then g ∷ h ∷ hs else (if y then joined h g ∷ hs else h ∷ with_region hs g))
        ≡ (if x then without_rows g ∷ without_rows h ∷ map without_rows hs
        else (if y then joined (without_rows h) (without_rows g) ∷ map without_rows hs else without_rows h ∷ with_region (map without_rows hs) (without_rows g)))
    go true y ih = refl
    go false true ih = refl
    go false false ih = ap (λ xs. without_rows h ∷ xs) ih

bare-both : (hs gs : List Region) → map without_rows (with_regions hs gs) ≡ with_regions (map without_rows hs) (map without_rows gs)
bare-both hs [] = refl
bare-both hs (g ∷ gs) = bare-both (with_region hs g) gs ∙ ap (λ xs. with_regions xs (map without_rows gs)) (bare-with hs g)

bare-drops : (cause : Cause) (gs : List Region) → map (drop_of cause) (map without_rows gs) ≡ map (drop_of cause) gs
bare-drops cause [] = refl
bare-drops cause (g ∷ gs) = ap (λ ms. drop_of cause g ∷ ms) (bare-drops cause gs)

bare-twice : (gs : List Region) → map without_rows (map without_rows gs) ≡ map without_rows gs
bare-twice [] = refl
bare-twice (g ∷ gs) = ap (λ xs. without_rows g ∷ xs) (bare-twice gs)

-- the drops of all regions, of which those with a flag have no rows
pub drops_sifted : (cause : Cause) (fs : List Bool) (gs : List Region) → ascends gs ≡ true → length fs ≡ length gs
    → map (drop_of cause) (with_regions (flagged false fs gs) (map without_rows (flagged true fs gs))) ≡ map (drop_of cause) gs
drops_sifted cause fs gs a l =
    let F = flagged false fs gs in
    let T = flagged true fs gs in
    sym (bare-drops cause (with_regions F (map without_rows T)))
    ∙ ap (map (drop_of cause)) (bare-both F (map without_rows T) ∙ ap (with_regions (map without_rows F)) (bare-twice T) ∙ sym (bare-both F T))
    ∙ bare-drops cause (with_regions F T) ∙ ap (map (drop_of cause)) (unsifted fs gs a l)
