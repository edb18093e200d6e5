-- Lists with a separator between two: equal texts have the same list, and the same follows.
use Rattle.std.proofs.Common.{◌≡◌, ℕ, true, List, [], ◌∷◌, ◌++◌, map, refl, sym, ap, ◌∙◌, append_assoc}
use Rattle.std.specs.List.{AllByRecursion}
use Rattle.std.proofs.lemmas.List.{append_cancel_left}
use Rattle.sr_lines.specs.Texts.{joined}
use Rattle.sr_script.proofs.Plain.{is_stop, first_is, others_are}

-- texts that end before a stop: equal texts have the same item, and none begins with a stop
pub record IsCut (A : Type 0) (text : A → List ℕ) (Fits : A → Type 0) : Type 0 where
  pub same : (a b : A) (x y : List ℕ) (p q : ℕ) → Fits a → Fits b → is_stop p ≡ true → is_stop q ≡ true → text a ++ (p ∷ x) ≡ text b ++ (q ∷ y) → (a ≡ b) × (p ∷ x ≡ q ∷ y)
  pub begins : (a : A) (x y : List ℕ) (p q : ℕ) → Fits a → is_stop p ≡ true → is_stop q ≡ true → text a ++ (p ∷ x) ≡ q ∷ y → ⊥

-- a separator, which begins with a stop, and the stop behind the list, which is another
pub record IsBetween (first last : ℕ) : Type 0 where
  pub stops : is_stop first ≡ true
  pub ends : is_stop last ≡ true
  pub differ : first ≡ last → ⊥

module _ (A : Type 0) (text : A → List ℕ) (Fits : A → Type 0) (item : IsCut A text Fits) (first : ℕ) (more : List ℕ) (last : ℕ) (between : IsBetween first last) where
  -- the byte behind an item, before these items, and what follows that byte
  abbrev behind : List A → ℕ
  behind [] = last
  behind (a ∷ items) = first

  abbrev later : List A → List ℕ → List ℕ
  later [] after = after
  later (a ∷ items) after = more ++ (text a ++ (behind items ∷ later items after))

  stops : (items : List A) → is_stop (behind items) ≡ true
  stops [] = between.ends
  stops (a ∷ items) = between.stops

  joined_is : (a : A) (items : List A) (after : List ℕ) → joined (first ∷ more) (map text (a ∷ items)) ++ (last ∷ after) ≡ text a ++ (behind items ∷ later items after)
  joined_is a [] after = refl
  joined_is a (b ∷ items) after =
      append_assoc (text a) (first ∷ (more ++ joined (first ∷ more) (map text (b ∷ items)))) (last ∷ after)
      ∙ ap (λ z. text a ++ (first ∷ z)) (append_assoc more (joined (first ∷ more) (map text (b ∷ items))) (last ∷ after)
      ∙ ap (λ z. more ++ z) (joined_is b items after))

  later_cut : (one other : List A) (x y : List ℕ) → AllByRecursion Fits one → AllByRecursion Fits other
      → behind one ∷ later one x ≡ behind other ∷ later other y → (one ≡ other) × (x ≡ y)
  later_cut [] [] x y f g e = (refl, others_are last last x y e)
  later_cut [] (b ∷ other) x y f g e = absurd (between.differ (sym (first_is last first x (later (b ∷ other) y) e)))
  later_cut (a ∷ one) [] x y f g e = absurd (between.differ (first_is first last (later (a ∷ one) x) y e))
  later_cut (a ∷ one) (b ∷ other) x y f g e =
      let texts = append_cancel_left more (text a ++ (behind one ∷ later one x)) (text b ++ (behind other ∷ later other y)) (others_are first first _ _ e) in
      let same = item.same a b (later one x) (later other y) (behind one) (behind other) f.0 g.0 (stops one) (stops other) texts in
      let rest = later_cut one other x y f.1 g.1 same.1 in
      (ap (λ z. z ∷ one) same.0 ∙ ap (λ z. b ∷ z) rest.0, rest.1)

  pub list_cut : (one other : List A) (x y : List ℕ) → AllByRecursion Fits one → AllByRecursion Fits other
      → joined (first ∷ more) (map text one) ++ (last ∷ x) ≡ joined (first ∷ more) (map text other) ++ (last ∷ y) → (one ≡ other) × (x ≡ y)
  list_cut [] [] x y f g e = (refl, others_are last last x y e)
  list_cut [] (b ∷ other) x y f g e =
      absurd (item.begins b (later other y) x (behind other) last g.0 (stops other) between.ends (sym (joined_is b other y) ∙ sym e))
  list_cut (a ∷ one) [] x y f g e =
      absurd (item.begins a (later one x) y (behind one) last f.0 (stops one) between.ends (sym (joined_is a one x) ∙ e))
  list_cut (a ∷ one) (b ∷ other) x y f g e =
      let texts = sym (joined_is a one x) ∙ e ∙ joined_is b other y in
      let same = item.same a b (later one x) (later other y) (behind one) (behind other) f.0 g.0 (stops one) (stops other) texts in
      let rest = later_cut one other x y f.1 g.1 same.1 in
      (ap (λ z. z ∷ one) same.0 ∙ ap (λ z. b ∷ z) rest.0, rest.1)
