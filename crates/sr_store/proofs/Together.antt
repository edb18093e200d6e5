-- The regions that an answer leaves as they are, and those that it makes, put together.
use Rattle.std.proofs.Common.{◌≡◌, ℕ, ◌+◌, ◌≤◌, Bool, true, false, List, [], ◌∷◌, refl, sym, ap, subst, ◌∙◌, arith, get_or}
use Rattle.std.specs.Prelude.{not, ◌&&◌, ◌||◌, ◌==◌, nat_eq, if◌then◌else◌}
use Rattle.std.specs.List.{list_all, All, AllZip}
use Rattle.std.proofs.lemmas.Bool.Decides.{nat_tests}
use Rattle.std.proofs.lemmas.List.Elements.{All-head, All-tail, All-weaker}
use Rattle.sr_cell.specs.declared.table.Table.{Table}
use Rattle.sr_cell.specs.Cells.{Row}
use Rattle.sr_cell.specs.Columns.{table_at, is_point}
use Rattle.sr_query.specs.declared.query.Part.{Part}
use Rattle.sr_region.specs.declared.region.Region.{Region}
use Rattle.sr_store.specs.declared.store.Arrival.{Arrival}
use Rattle.sr_store.specs.Classes.{Held, Stamps, occurs, IsStamped, ascends, Keeps, restamped}
use Rattle.sr_store.specs.Told.{Told, IsTold, IsTrueOf, AreTrueOf}
use Rattle.sr_store.specs.Stores.{IsOfSchema, IsAbsorbedIn}
use Rattle.sr_store.specs.Answered.{arrives, arrivals_at, AreApart, HaveArrived, flagged}
use Rattle.sr_store.specs.Renewing.{IsCutFrom, with_regions, IsRenewal}
use Rattle.sr_store.specs.Making.{IsStill, AreParted, IsUnmetOr, IsKeptOr}
use Rattle.sr_store.proofs.Adding.{with_regions-occurs, with_regions-ascends, with_regions-all, with_regions-used, with_regions-classes, joined_stamped, joined_cut}
use Rattle.sr_store.proofs.Dropping.{flagged_all, flagged_occurs, flagged_ascends}
use Rattle.sr_store.proofs.Keeping.{arrives-is, held_sum}
use Rattle.sr_store.proofs.Merging.{have_no_class, parted_classes}
use Rattle.sr_store.proofs.Settled.{not_absorbed}
use Rattle.sr_store.proofs.Sound.{IsSound, with_regions-sound}
use Rattle.sr_store.proofs.Untouched.{still_stamped}

flagged-list : (f : Region → Bool) (b : Bool) (fs : List Bool) (gs : List Region) → list_all f gs ≡ true → list_all f (flagged b fs gs) ≡ true
flagged-list f b [] gs h = refl
flagged-list f b (d ∷ fs) [] h = refl
flagged-list f b (true ∷ fs) (g ∷ gs) h = go b (flagged-list f b fs gs (grind (arith, h)))
  where
    go : (c : Bool) → list_all f (flagged b fs gs) ≡ true → list_all f (if c then g ∷ flagged b fs gs else flagged b fs gs) ≡ true
    go true ih = let one : f g ≡ true = grind (arith, h) in rw (one, ih) refl
    go false ih = ih
flagged-list f b (false ∷ fs) (g ∷ gs) h = go (not b) (flagged-list f b fs gs (grind (arith, h)))
  where
    go : (c : Bool) → list_all f (flagged b fs gs) ≡ true → list_all f (if c then g ∷ flagged b fs gs else flagged b fs gs) ≡ true
    go true ih = let one : f g ≡ true = grind (arith, h) in rw (one, ih) refl
    go false ih = ih

module _ (schema : List Table) (number : ℕ) (parts : List Part) (arrivals : List Arrival) (old still changed : List Region) (p : AreParted schema number parts arrivals old still changed) where
  pub still_all : (P : Region → Type 0) → All P old → All P still
  still_all P all = subst (All P) (sym p.still_are) (flagged_all P false p.flags old all)

  pub changed_all : (P : Region → Type 0) → All P old → All P changed
  changed_all P all = subst (All P) (sym p.changed_are) (flagged_all P true p.flags old all)

  still-list : (f : Region → Bool) → list_all f old ≡ true → list_all f still ≡ true
  still-list f all = ap (list_all f) p.still_are ∙ flagged-list f false p.flags old all

  changed-list : (f : Region → Bool) → list_all f old ≡ true → list_all f changed ≡ true
  changed-list f all = ap (list_all f) p.changed_are ∙ flagged-list f true p.flags old all

  pub still_order : ascends still ≡ true
  still_order = ap ascends p.still_are ∙ flagged_ascends false p.flags old p.order

  part-occurs : (t a : ℕ) (q : Row) → occurs still t a q + occurs changed t a q ≡ occurs old t a q
  part-occurs t a q =
      let x = ap (λ gs. occurs gs t a q) p.still_are in
      let y = ap (λ gs. occurs gs t a q) p.changed_are in
      let s = flagged_occurs p.flags old t a q p.long in
      omega (arith, x, y, s)

  pub changed_apart : AreApart schema changed arrivals
  changed_apart t a q point = let s = part-occurs t a q in let le = p.apart t a q point in omega (arith, s, le)

  changed-keeps : (stamps : Stamps) → All (IsStamped schema stamps) old → Keeps schema (λ t a q. not (nat_eq (occurs changed t a q) 0)) stamps changed
  changed-keeps stamps are = record {
    points = λ t a q point. let le = changed_apart t a q point in count (occurs changed t a q) (omega (arith, le));
    stamped = changed_all (IsStamped schema stamps) are;
  }
    where
      count : (n : ℕ) → n ≤ 1 → n ≡ (if not (nat_eq n 0) then 1 else 0)
      count n le = grind (arith, nat_tests)

  still-stamped : (stamps : Stamps) → All (IsStamped schema stamps) old → All (IsStamped schema (restamped number parts stamps)) still
  still-stamped stamps are = λ k d l.
      let own = still_all (IsStamped schema stamps) are in
      let g = get_or still k d in
      still_stamped schema number parts g stamps ((p.are_still k d l).1 (table_at schema g.table).columns) (own k d l)

  module _ (news : List Region) (r : IsRenewal schema number parts arrivals changed news) where
    pub news_sum : (t a : ℕ) (q : Row) → is_point (table_at schema t).columns q ≡ true → occurs still t a q + occurs news t a q ≡ occurs old t a q + arrivals_at arrivals t a q
    news_sum t a q point = let x = r.points t a q point in let s = part-occurs t a q in omega (arith, x, s)

    news-once : (t a : ℕ) (q : Row) → is_point (table_at schema t).columns q ≡ true → occurs still t a q + occurs news t a q ≤ 1
    news-once t a q point = let x = news_sum t a q point in let le = p.apart t a q point in omega (arith, x, le)

    all-sum : (t a : ℕ) (q : Row) → is_point (table_at schema t).columns q ≡ true → occurs (with_regions still news) t a q ≡ occurs old t a q + arrivals_at arrivals t a q
    all-sum t a q point = with_regions-occurs still news t a q ∙ news_sum t a q point

    all-sound : (told : Told) → IsTold schema told → AreTrueOf told old → HaveArrived told arrivals → All (IsSound schema told) (with_regions still news)
    all-sound told is_told old_true rows =
        with_regions-sound schema told still news is_told news-once (still_all (IsOfSchema schema) p.each) (still_all (IsTrueOf told) old_true)
        r.each (r.are_true told is_told (changed_all (IsTrueOf told) old_true) rows)

    all-keeps : (held : Held) (stamps : Stamps) → Keeps schema held stamps old
        → Keeps schema (λ t a q. held t a q || arrives arrivals t a q) (restamped number parts stamps) (with_regions still news)
    all-keeps held stamps k = record {
      points = λ t a q point.
          held_sum (occurs (with_regions still news) t a q) (occurs old t a q) (arrivals_at arrivals t a q) (held t a q) (arrives arrivals t a q)
          (all-sum t a q point) (k.points t a q point) (arrives-is arrivals t a q) (p.apart t a q point);
      stamped = with_regions-all schema (IsStamped schema (restamped number parts stamps)) (joined_stamped schema (restamped number parts stamps)) still news news-once
          (still-stamped stamps k.stamped) (r.keeps (λ t a q. not (nat_eq (occurs changed t a q) 0)) stamps (changed-keeps stamps k.stamped)).stamped;
    }

    -- the regions that stay, and what the changed ones and what arrives make, are what all make
    pub together : IsRenewal schema number parts arrivals old (with_regions still news)
    together = record {
      each = All-weaker (IsSound schema p.told) (IsOfSchema schema) (λ g is. is.0) (with_regions still news) (all-sound p.told p.is_told p.old_true p.rows);
      order = with_regions-ascends still news still_order;
      points = all-sum;
      once = λ t a q point. let x = all-sum t a q point in let le = p.apart t a q point in omega (arith, x, le);
      keeps = all-keeps;
      are_true = λ told is_told old_true rows.
          All-weaker (IsSound schema told) (IsTrueOf told) (λ g is. is.1) (with_regions still news) (all-sound told is_told old_true rows);
      cuts = λ given old_cut parts_cut arrivals_cut.
          with_regions-all schema (IsCutFrom schema given) (joined_cut schema given) still news news-once (still_all (IsCutFrom schema given) old_cut)
          (r.cuts given (changed_all (IsCutFrom schema given) old_cut) parts_cut arrivals_cut);
      used = λ used old_are arrivals_are.
          with_regions-used used still news (still-list (λ g. used g.table g.attrs) old_are) (r.used used (changed-list (λ g. used g.table g.attrs) old_are) arrivals_are);
      classes = λ is new own.
          with_regions-classes is still news (still-list (λ g. is g.table g.attrs g.stamp) own) (r.classes is new (changed-list (λ g. is g.table g.attrs g.stamp) own));
    }

    -- the new regions are of no class of those that stay
    pub news_classes : have_no_class still news ≡ true
    news_classes = r.classes (λ t a s. list_all (λ h. not (h.table == t && (h.attrs == a && h.stamp == s))) still) (λ t a. other still t a p.are_still)
        (subst (λ gs. have_no_class gs changed ≡ true) (sym p.still_are) (ap (have_no_class (flagged false p.flags old)) p.changed_are ∙ parted_classes p.flags old p.order))
      where
        not-number : (h : Region) (t a : ℕ) → (h.stamp ≡ number → ⊥) → (h.table == t && (h.attrs == a && h.stamp == number)) ≡ false
        not-number h t a differs = go (h.stamp == number) refl (h.table == t) (h.attrs == a)
          where
            go : (b : Bool) → (h.stamp == number) ≡ b → (x y : Bool) → (x && (y && b)) ≡ false
            go true e x y = absurd (differs (grind (arith, nat_tests, e)))
            go false e true true = refl
            go false e true false = refl
            go false e false y = refl

        other : (gs : List Region) (t a : ℕ) → All (IsStill number parts) gs → list_all (λ h. not (h.table == t && (h.attrs == a && h.stamp == number))) gs ≡ true
        other [] t a all = refl
        other (h ∷ gs) t a all =
            let one = not-number h t a (All-head (IsStill number parts) h gs all).0 in
            let ih = other gs t a (All-tail (IsStill number parts) h gs all) in
            rw (one, ih) refl

    -- of those that stay, only the met ones may be absorbed
    pub others_kept : (met : List Bool) → AllZip (IsUnmetOr arrivals) met still → AllZip (IsKeptOr schema still news) met still
    others_kept met unmet = go met still unmet p.settled
      where
        go : (fs : List Bool) (gs : List Region) → AllZip (IsUnmetOr arrivals) fs gs → All (λ g. IsAbsorbedIn schema old g → ⊥) gs → AllZip (IsKeptOr schema still news) fs gs
        go [] [] h all = tt
        go [] (g ∷ gs) h all = absurd h
        go (f ∷ fs) [] h all = absurd h
        go (f ∷ fs) (g ∷ gs) h all = (
          (λ e. not_absorbed schema arrivals old still news g news_sum (All-head (λ g. IsAbsorbedIn schema old g → ⊥) g gs all) (h.0 e)),
          go fs gs h.1 (All-tail (λ g. IsAbsorbedIn schema old g → ⊥) g gs all),
        )
