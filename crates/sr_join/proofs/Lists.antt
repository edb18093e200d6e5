-- Lists of lists.
use Rattle.std.proofs.Common.{◌≡◌, Bool, true, false, cond, ◌&&◌, List, [], ◌∷◌, ◌++◌, map, refl, ap, ◌∙◌}
use Rattle.std.specs.Prelude.{filter, flat_map}
use Rattle.std.specs.List.{AllZip}

pub map-append : {A B : Type 0} (f : A → B) (xs ys : List A) → map f (xs ++ ys) ≡ map f xs ++ map f ys
map-append f [] ys = refl
map-append f (x ∷ xs) ys = ap (λ all. f x ∷ all) (map-append f xs ys)

pub filter-append : {A : Type 0} (t : A → Bool) (xs ys : List A) → filter t (xs ++ ys) ≡ filter t xs ++ filter t ys
filter-append t [] ys = refl
filter-append t (x ∷ xs) ys = go (t x) (filter-append t xs ys)
  where
    go : (b : Bool) → filter t (xs ++ ys) ≡ filter t xs ++ filter t ys → cond b (x ∷ filter t (xs ++ ys)) (filter t (xs ++ ys)) ≡ cond b (x ∷ filter t xs) (filter t xs) ++ filter t ys
    go true ih = ap (λ all. x ∷ all) ih
    go false ih = ih

-- what is chosen of lists, and mapped, list by list
pub chosen-lists : {A B C : Type 0} (f : B → C) (t : B → Bool) (h : A → List B) (xs : List A) → map f (filter t (flat_map h xs)) ≡ flat_map (λ x. map f (filter t (h x))) xs
chosen-lists f t h [] = refl
chosen-lists f t h (x ∷ xs) =
    ap (map f) (filter-append t (h x) (flat_map h xs)) ∙ (map-append f (filter t (h x)) (filter t (flat_map h xs)) ∙ ap (λ all. map f (filter t (h x)) ++ all) (chosen-lists f t h xs))

pub map-lists : {A B C : Type 0} (f : B → C) (h : A → List B) (xs : List A) → map f (flat_map h xs) ≡ flat_map (λ x. map f (h x)) xs
map-lists f h [] = refl
map-lists f h (x ∷ xs) = map-append f (h x) (flat_map h xs) ∙ ap (λ all. map f (h x) ++ all) (map-lists f h xs)

-- what is chosen of images, by tests and maps that do the same to each
pub chosen-images : {A B C : Type 0} (f : B → C) (t : B → Bool) (h : A → B) (g : A → C) (s : A → Bool) (xs : List A)
    → ((x : A) → t (h x) ≡ s x) → ((x : A) → f (h x) ≡ g x) → map f (filter t (map h xs)) ≡ map g (filter s xs)
chosen-images f t h g s [] tests maps = refl
chosen-images f t h g s (x ∷ xs) tests maps = rw (tests x) (go (s x) (chosen-images f t h g s xs tests maps))
  where
    go : (b : Bool) → map f (filter t (map h xs)) ≡ map g (filter s xs) → map f (cond b (h x ∷ filter t (map h xs)) (filter t (map h xs))) ≡ map g (cond b (x ∷ filter s xs) (filter s xs))
    go true ih = rw (maps x, ih) refl
    go false ih = ih

-- where the test of an image fails in any case, nothing is chosen
pub none-chosen : {A B C : Type 0} (f : B → C) (t : B → Bool) (h : A → B) (xs : List A) → ((x : A) → t (h x) ≡ false) → map f (filter t (map h xs)) ≡ []
none-chosen f t h [] fails = refl
none-chosen f t h (x ∷ xs) fails = rw (fails x) (none-chosen f t h xs fails)

-- lists of those alone that pass a test
pub some-lists : {A B : Type 0} (t : A → Bool) (g h : A → List B) (xs : List A) → ((x : A) → t x ≡ true → g x ≡ h x) → ((x : A) → t x ≡ false → g x ≡ []) → flat_map g xs ≡ flat_map h (filter t xs)
some-lists t g h [] same none = refl
some-lists t g h (x ∷ xs) same none = go (t x) refl (some-lists t g h xs same none)
  where
    go : (b : Bool) → t x ≡ b → flat_map g xs ≡ flat_map h (filter t xs) → g x ++ flat_map g xs ≡ flat_map h (cond b (x ∷ filter t xs) (filter t xs))
    go true is ih = rw (same x is, ih) refl
    go false is ih = rw (none x is) ih

-- a test of two parts chooses in two steps
pub filter-both : {A : Type 0} (a b : A → Bool) (xs : List A) → filter (λ x. a x && b x) xs ≡ filter a (filter b xs)
filter-both a b [] = refl
filter-both a b (x ∷ xs) = go (a x) refl (b x) (filter-both a b xs)
  where
    go : (c : Bool) → a x ≡ c → (d : Bool) → filter (λ x. a x && b x) xs ≡ filter a (filter b xs)
        → cond (c && d) (x ∷ filter (λ x. a x && b x) xs) (filter (λ x. a x && b x) xs) ≡ filter a (cond d (x ∷ filter b xs) (filter b xs))
    go true is true ih = rw is (ap (λ all. x ∷ all) ih)
    go true is false ih = ih
    go false is true ih = rw is ih
    go false is false ih = ih

-- ---- two lists side by side

pub zip-filter : {A B : Type 0} (R : A → B → Type 0) (t : A → Bool) (s : B → Bool) (xs : List A) (ys : List B) → AllZip R xs ys → ((x : A) (y : B) → R x y → s y ≡ t x) → AllZip R (filter t xs) (filter s ys)
zip-filter R t s [] [] zip same = tt
zip-filter R t s [] (y ∷ ys) zip same = absurd zip
zip-filter R t s (x ∷ xs) [] zip same = absurd zip
zip-filter R t s (x ∷ xs) (y ∷ ys) zip same = rw (same x y zip.0) (go (t x) (zip-filter R t s xs ys zip.1 same))
  where
    go : (b : Bool) → AllZip R (filter t xs) (filter s ys) → AllZip R (cond b (x ∷ filter t xs) (filter t xs)) (cond b (y ∷ filter s ys) (filter s ys))
    go true ih = (zip.0, ih)
    go false ih = ih

pub zip-lists : {A B C : Type 0} (R : A → B → Type 0) (g : A → List C) (h : B → List C) (xs : List A) (ys : List B) → AllZip R xs ys → ((x : A) (y : B) → R x y → g x ≡ h y) → flat_map g xs ≡ flat_map h ys
zip-lists R g h [] [] zip same = refl
zip-lists R g h [] (y ∷ ys) zip same = absurd zip
zip-lists R g h (x ∷ xs) [] zip same = absurd zip
zip-lists R g h (x ∷ xs) (y ∷ ys) zip same = rw (same x y zip.0, zip-lists R g h xs ys zip.1 same) refl
