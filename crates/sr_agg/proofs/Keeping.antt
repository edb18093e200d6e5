-- A row more in the groups that a map keeps.
use Rattle.std.proofs.Common.{◌≡◌, ℕ, Bool, true, false, ◌||◌, List, [], ◌∷◌, ◌++◌, map, fold, refl, sym, ap, subst, ◌∙◌, arith}
use Rattle.std.specs.Prelude.{Option, Some, None, if◌then◌else◌, filter, is_some, OnOk, Result, Ok, Err}
use Rattle.std.specs.Global.{Vec}
use Rattle.std.specs.declared.cmp.Ordering.{Ordering}
use Rattle.std.specs.declared.cmp.Ordering.TheVariants.{Less, Equal, Greater}
use Rattle.std.specs.Ordering.{is_eq}
use Rattle.std.specs.List.{list_any, AllByRecursion}
use Rattle.std.specs.Option.{option_map}
use Rattle.std.specs.Cmp.Lexicographic.{slice_cmp}
use Rattle.std.specs.List.Sorted.{IsStrictlySortedBy}
use Rattle.std.specs.BTreeSet.{insert_key}
use Rattle.std.specs.BTreeMap.{insert_entry}
use Rattle.std.specs.Map.{keys_of, lookup, set_value}
use Rattle.std.proofs.lemmas.Map.Keys.{sorted_head, sorted_tail}
use Rattle.std.proofs.lemmas.Map.Made.{is_some-lookup}
use Rattle.sr_cell.specs.declared.cell.Cell.{Cell}
use Rattle.sr_cell.specs.Cells.{Row}
use Rattle.sr_agg.specs.declared.item.Item.{Item}
use Rattle.sr_agg.specs.declared.tally.Tally.{Tally}
use Rattle.sr_agg.specs.Groups.{Key, first_keys, group_keys, group_of, key_order, rows_with}
use Rattle.sr_agg.specs.Kept.{entry_seen, entries_seen}
use Rattle.sr_agg.specs.Tallies.{first_tally, with_row, tally_of, grouped}
use Rattle.sr_agg.proofs.Order.{order, keys-same, key-total, key-exact, level, below, alike}

abbrev pub vec_order : Vec (Option Cell) → Vec (Option Cell) → Ordering
vec_order k l = slice_cmp order k.items l.items

-- whether a key is this one
abbrev pub at : Key → Key → Bool
at k l = is_eq (key_order k l)

pub on-ok : {A E P Q : Type 0} (r : Result A E) → OnOk r P → (P → Q) → OnOk r Q
on-ok (Ok x) h f = f h
on-ok (Err x) h f = tt

-- ---- lists with one more behind them

pub fold-push : {A B : Type 0} (op : B → A → B) (z : B) (xs : List A) (x : A) → fold op z (xs ++ x ∷ []) ≡ op (fold op z xs) x
fold-push op z [] x = refl
fold-push op z (y ∷ xs) x = fold-push op (op z y) xs x

filter-push : {A : Type 0} (test : A → Bool) (xs : List A) (x : A) → filter test (xs ++ x ∷ []) ≡ (if test x then filter test xs ++ x ∷ [] else filter test xs)
filter-push test [] x = by (test x) refl
  where
    by : (b : Bool) → test x ≡ b → filter test (x ∷ []) ≡ (if test x then x ∷ [] else [])
    by true e = rw e refl
    by false e = rw e refl
filter-push {A = A} test (y ∷ xs) x = by (test y) refl (test x) refl (filter-push test xs x)
  where
    by : (b : Bool) → test y ≡ b → (d : Bool) → test x ≡ d → filter test (xs ++ x ∷ []) ≡ (if test x then filter test xs ++ x ∷ [] else filter test xs)
        → filter test (y ∷ xs ++ x ∷ []) ≡ (if test x then filter test (y ∷ xs) ++ x ∷ [] else filter test (y ∷ xs))
    by true e true f ih = let k : filter test (xs ++ x ∷ []) ≡ filter test xs ++ x ∷ [] = rw f at ih in rw (e, f) (ap (λ zs. y ∷ zs) k)
    by true e false f ih = let k : filter test (xs ++ x ∷ []) ≡ filter test xs = rw f at ih in rw (e, f) (ap (λ zs. y ∷ zs) k)
    by false e true f ih = let k : filter test (xs ++ x ∷ []) ≡ filter test xs ++ x ∷ [] = rw f at ih in rw (e, f) k
    by false e false f ih = let k : filter test (xs ++ x ∷ []) ≡ filter test xs = rw f at ih in rw (e, f) k

-- ---- the keys of entries

-- each key is below those behind it
abbrev pub Ascends : List Key → Type 0
Ascends [] = Unit {0}
Ascends (k ∷ ks) = AllByRecursion (λ l. key_order k l ≡ Less) ks × Ascends ks

below-seen : (k : Vec (Option Cell)) (es : List (Vec (Option Cell) × Vec Tally)) → AllByRecursion (λ l. vec_order k l ≡ Less) (keys_of es)
    → AllByRecursion (λ l. key_order k.items l ≡ Less) (keys_of (entries_seen es))
below-seen k [] h = tt
below-seen k (e ∷ es) h = (sym (keys-same k.items e.0.items) ∙ h.0, below-seen k es h.1)

pub ascends-seen : (es : List (Vec (Option Cell) × Vec Tally)) → IsStrictlySortedBy vec_order (keys_of es) → Ascends (keys_of (entries_seen es))
ascends-seen [] s = tt
ascends-seen (e ∷ es) s = (below-seen e.0 es (sorted_head vec_order e.0 (keys_of es) s), ascends-seen es (sorted_tail vec_order e.0 (keys_of es) s))

pub lookup-seen : (k : Key) (es : List (Vec (Option Cell) × Vec Tally)) → option_map (λ (v : Vec Tally). v.items) (lookup (λ l. is_eq (slice_cmp order k l.items)) es) ≡ lookup (at k) (entries_seen es)
lookup-seen k [] = refl
lookup-seen k (e ∷ es) = by (key_order k e.0.items) refl (lookup-seen k es)
  where
    by : (p : Ordering) → key_order k e.0.items ≡ p → option_map (λ (v : Vec Tally). v.items) (lookup (λ l. is_eq (slice_cmp order k l.items)) es) ≡ lookup (at k) (entries_seen es)
        → option_map (λ (v : Vec Tally). v.items) (lookup (λ l. is_eq (slice_cmp order k l.items)) (e ∷ es)) ≡ lookup (at k) (entries_seen (e ∷ es))
    by Less q ih = rw (keys-same k e.0.items, q) ih
    by Equal q ih = rw (keys-same k e.0.items, q) refl
    by Greater q ih = rw (keys-same k e.0.items, q) ih

pub set-seen : (k : Key) (es : List (Vec (Option Cell) × Vec Tally)) (w : Vec Tally) → entries_seen (set_value (λ l. is_eq (slice_cmp order k l.items)) es w) ≡ set_value (at k) (entries_seen es) w.items
set-seen k [] w = refl
set-seen k (e ∷ es) w = by (key_order k e.0.items) refl (set-seen k es w)
  where
    by : (p : Ordering) → key_order k e.0.items ≡ p → entries_seen (set_value (λ l. is_eq (slice_cmp order k l.items)) es w) ≡ set_value (at k) (entries_seen es) w.items
        → entries_seen (set_value (λ l. is_eq (slice_cmp order k l.items)) (e ∷ es) w) ≡ set_value (at k) (entries_seen (e ∷ es)) w.items
    by Less q ih = rw (keys-same k e.0.items, q) (ap (λ zs. entry_seen e ∷ zs) ih)
    by Equal q ih = rw (keys-same k e.0.items, q) refl
    by Greater q ih = rw (keys-same k e.0.items, q) (ap (λ zs. entry_seen e ∷ zs) ih)

pub insert-seen : (k : Vec (Option Cell)) (es : List (Vec (Option Cell) × Vec Tally)) (w : Vec Tally) → entries_seen (insert_entry vec_order es k w) ≡ insert_entry key_order (entries_seen es) k.items w.items
insert-seen k [] w = refl
insert-seen k (e ∷ es) w = by (key_order k.items e.0.items) refl (insert-seen k es w)
  where
    by : (p : Ordering) → key_order k.items e.0.items ≡ p → entries_seen (insert_entry vec_order es k w) ≡ insert_entry key_order (entries_seen es) k.items w.items
        → entries_seen (insert_entry vec_order (e ∷ es) k w) ≡ insert_entry key_order (entries_seen (e ∷ es)) k.items w.items
    by Less q ih = rw (keys-same k.items e.0.items, q) refl
    by Equal q ih = rw (keys-same k.items e.0.items, q) refl
    by Greater q ih = rw (keys-same k.items e.0.items, q) (ap (λ zs. entry_seen e ∷ zs) ih)

-- ---- a row more

not-at : (k l : Key) → at k l ≡ false → at l k ≡ false
not-at k l h = by (key_order l k) refl
  where
    by : (p : Ordering) → key_order l k ≡ p → is_eq (key_order l k) ≡ false
    by Less e = rw e refl
    by Equal e = let f : at k l ≡ true = ap is_eq (alike key-total l k e) in absurd cc
    by Greater e = rw e refl

module _ (g : ℕ) (items : List Item) (rows : List Row) (row : Row) where
  abbrev own : Key
  own = group_of g row

  abbrev entry : List Row → Key → Key × List Tally
  entry rows key = (key, map (tally_of (rows_with g key rows)) items)

  abbrev after : List Row
  after = rows ++ row ∷ []

  -- the keys of entries are those of the groups
  pub keys-entries : (ks : List Key) → keys_of (map (entry rows) ks) ≡ ks
  keys-entries [] = refl
  keys-entries (k ∷ ks) = ap (λ zs. k ∷ zs) (keys-entries ks)

  other : (key : Key) → at key own ≡ false → entry after key ≡ entry rows key
  other key h =
      let k : rows_with g key after ≡ rows_with g key rows = filter-push (λ (r : Row). at key (group_of g r)) rows row ∙ rw h refl in
      ap (λ rs. (key, map (tally_of rs) items)) k

  others : (ks : List Key) → list_any (at own) ks ≡ false → map (entry after) ks ≡ map (entry rows) ks
  others [] h = refl
  others (k ∷ ks) h =
      let a : at own k ≡ false = grind arith in
      let b : list_any (at own) ks ≡ false = grind arith in
      let e = other k (not-at own k a) in
      let f = others ks b in
      rw (e, f) refl

  with-each : (rs : List Row) (some : List Item) → map (tally_of (rs ++ row ∷ [])) some ≡ map (λ tally. with_row tally row) (map (tally_of rs) some)
  with-each rs [] = refl
  with-each rs (item ∷ some) =
      let e = fold-push with_row (first_tally item) rs row in
      let f = with-each rs some in
      rw (e, f) refl

  mine : (key : Key) → at key own ≡ true → entry after key ≡ (key, map (λ tally. with_row tally row) (map (tally_of (rows_with g key rows)) items))
  mine key h =
      let k : rows_with g key after ≡ rows_with g key rows ++ row ∷ [] = filter-push (λ (r : Row). at key (group_of g r)) rows row ∙ rw h refl in
      ap (λ rs. (key, map (tally_of rs) items)) k ∙ ap (λ ts. (key, ts)) (with-each (rows_with g key rows) items)

  all-behind : (k : Key) (ks : List Key) → key_order own k ≡ Less → AllByRecursion (λ l. key_order k l ≡ Less) ks → list_any (at own) ks ≡ false
  all-behind k [] less h = refl
  all-behind k (l ∷ ks) less h =
      let e : at own l ≡ false = ap is_eq (key-total.trans own k l less h.0) in
      let ih = all-behind k ks less h.1 in
      grind (arith, e, ih)

  behind-same : (k : Key) (ks : List Key) → key_order own k ≡ Equal → AllByRecursion (λ l. key_order k l ≡ Less) ks → list_any (at own) ks ≡ false
  behind-same k [] same h = refl
  behind-same k (l ∷ ks) same h =
      let e : at own l ≡ false = ap is_eq (key-total.congr own k l same ∙ h.0) in
      let ih = behind-same k ks same h.1 in
      grind (arith, e, ih)

  -- in a group that is there
  pub updated : (ks : List Key) (ts : List Tally) → Ascends ks → lookup (at own) (map (entry rows) ks) ≡ Some ts
      → set_value (at own) (map (entry rows) ks) (map (λ tally. with_row tally row) ts) ≡ map (entry after) (insert_key key_order ks own)
  updated [] ts s h = absurd cc
  updated (k ∷ ks) ts s h = by (key_order own k) refl h (updated ks ts s.1)
    where
      by : (p : Ordering) → key_order own k ≡ p → lookup (at own) (map (entry rows) (k ∷ ks)) ≡ Some ts
          → (lookup (at own) (map (entry rows) ks) ≡ Some ts → set_value (at own) (map (entry rows) ks) (map (λ tally. with_row tally row) ts) ≡ map (entry after) (insert_key key_order ks own))
          → set_value (at own) (map (entry rows) (k ∷ ks)) (map (λ tally. with_row tally row) ts) ≡ map (entry after) (insert_key key_order (k ∷ ks) own)
      by Less e h ih =
          let none : list_any (at own) ks ≡ false = all-behind k ks e s.0 in
          let there : lookup (at own) (map (entry rows) ks) ≡ Some ts = rw e at h in
          let yes : true ≡ list_any (at own) ks = ap is_some (sym there) ∙ (is_some-lookup (at own) (map (entry rows) ks) ∙ ap (list_any (at own)) (keys-entries ks)) in
          absurd cc
      by Equal e h ih =
          let there : Some (map (tally_of (rows_with g k rows)) items) ≡ Some ts = rw e at h in
          let same : map (tally_of (rows_with g k rows)) items ≡ ts = cc in
          let a = mine k (ap is_eq (alike key-total own k e)) in
          let b = others ks (behind-same k ks e s.0) in
          rw (e, a, b, same) refl
      by Greater e h ih =
          let there : lookup (at own) (map (entry rows) ks) ≡ Some ts = rw e at h in
          let a = other k (ap is_eq (below key-total own k e)) in
          rw (e, a) (ap (λ zs. entry rows k ∷ zs) (ih there))

  -- ---- in a new group

  insert-has : (k : Key) (ks : List Key) (l : Key) → list_any (at k) ks ≡ true → list_any (at k) (insert_key key_order ks l) ≡ true
  insert-has k [] l h = absurd cc
  insert-has k (x ∷ ks) l h = by (key_order l x) refl (insert-has k ks l)
    where
      by : (p : Ordering) → key_order l x ≡ p → (list_any (at k) ks ≡ true → list_any (at k) (insert_key key_order ks l) ≡ true) → list_any (at k) (insert_key key_order (x ∷ ks) l) ≡ true
      by Less e ih = rw e (grind arith)
      by Equal e ih = rw e h
      by Greater e ih = rw e (or (at k x) h ih)
        where
          or : (b : Bool) → (b || list_any (at k) ks) ≡ true → (list_any (at k) ks ≡ true → list_any (at k) (insert_key key_order ks l) ≡ true) → (b || list_any (at k) (insert_key key_order ks l)) ≡ true
          or true h ih = refl
          or false h ih = ih h

  insert-own : (k : Key) (ks : List Key) → list_any (at k) (insert_key key_order ks k) ≡ true
  insert-own k [] = let e = level key-total k in rw e refl
  insert-own k (x ∷ ks) = by (key_order k x) refl (insert-own k ks)
    where
      by : (p : Ordering) → key_order k x ≡ p → list_any (at k) (insert_key key_order ks k) ≡ true → list_any (at k) (insert_key key_order (x ∷ ks) k) ≡ true
      by Less e ih = let f = level key-total k in rw (e, f) refl
      by Equal e ih = rw (e, e) refl
      by Greater e ih = rw (e, e) ih

  abbrev insert_row : List Key → Row → List Key
  insert_row keys row = insert_key key_order keys (group_of g row)

  fold-has : (k : Key) (ks : List Key) (rs : List Row) → list_any (at k) ks ≡ true → list_any (at k) (fold insert_row ks rs) ≡ true
  fold-has k ks [] h = h
  fold-has k ks (r ∷ rs) h = fold-has k (insert_row ks r) rs (insert-has k ks (group_of g r) h)

  -- a key that is none of the groups' has no rows
  none-with : (k : Key) (ks : List Key) (rs : List Row) → list_any (at k) (fold insert_row ks rs) ≡ false → rows_with g k rs ≡ []
  none-with k ks [] h = refl
  none-with k ks (r ∷ rs) h = by (key_order k (group_of g r)) refl (none-with k (insert_row ks r) rs h)
    where
      by : (p : Ordering) → key_order k (group_of g r) ≡ p → rows_with g k rs ≡ [] → rows_with g k (r ∷ rs) ≡ []
      by Less e ih = rw e ih
      by Equal e ih =
          let same : k ≡ group_of g r = key-exact k (group_of g r) e in
          let has : list_any (at k) (insert_row ks r) ≡ true = subst (λ l. list_any (at k) (insert_key key_order ks l) ≡ true) same (insert-own k ks) in
          let all = fold-has k (insert_row ks r) rs has in
          absurd cc
      by Greater e ih = rw e ih

  alone : rows_with g own rows ≡ [] → entry after own ≡ (own, map (λ tally. with_row tally row) (map first_tally items))
  alone none =
      mine own (ap is_eq (level key-total own)) ∙ ap (λ rs. (own, map (λ tally. with_row tally row) (map (tally_of rs) items))) none

  put : (ks : List Key) (v : List Tally) → list_any (at own) ks ≡ false → entry after own ≡ (own, v)
      → insert_entry key_order (map (entry rows) ks) own v ≡ map (entry after) (insert_key key_order ks own)
  put [] v none is = ap (λ e. e ∷ []) (sym is)
  put (k ∷ ks) v none is = by (key_order own k) refl (put ks v (grind arith) is)
    where
      by : (p : Ordering) → key_order own k ≡ p → insert_entry key_order (map (entry rows) ks) own v ≡ map (entry after) (insert_key key_order ks own)
          → insert_entry key_order (map (entry rows) (k ∷ ks)) own v ≡ map (entry after) (insert_key key_order (k ∷ ks) own)
      by Less e ih = let a = others (k ∷ ks) none in rw (e, is, a) refl
      by Equal e ih = let f : at own k ≡ true = ap is_eq e in absurd (grind (arith, f, none))
      by Greater e ih = let a = other k (ap is_eq (below key-total own k e)) in rw (e, a) (ap (λ zs. entry rows k ∷ zs) ih)

  abbrev keys : List Key
  keys = group_keys g rows

  keys-after : group_keys g after ≡ insert_key key_order keys own
  keys-after = fold-push insert_row (first_keys g) rows row

  -- what a map keeps, with the row in its group
  pub row-added : (es : List (Vec (Option Cell) × Vec Tally)) (ts w : Vec Tally) → entries_seen es ≡ grouped g items rows → IsStrictlySortedBy vec_order (keys_of es)
      → lookup (λ l. is_eq (slice_cmp order own l.items)) es ≡ Some ts → w.items ≡ map (λ tally. with_row tally row) ts.items
      → entries_seen (set_value (λ l. is_eq (slice_cmp order own l.items)) es w) ≡ grouped g items after
  row-added es ts w is sorted found grown =
      let ascends : Ascends keys = subst Ascends (ap keys_of is ∙ keys-entries keys) (ascends-seen es sorted) in
      let there : lookup (at own) (map (entry rows) keys) ≡ Some ts.items = ap (lookup (at own)) (sym is) ∙ (sym (lookup-seen own es) ∙ ap (option_map (λ (v : Vec Tally). v.items)) found) in
      set-seen own es w
      ∙ (ap (λ zs. set_value (at own) zs w.items) is
      ∙ (ap (set_value (at own) (map (entry rows) keys)) grown
      ∙ (updated keys ts.items ascends there
      ∙ ap (map (entry after)) (sym keys-after))))

  -- what a map keeps, with a new group of the row
  pub group-added : (es : List (Vec (Option Cell) × Vec Tally)) (k : Vec (Option Cell)) (w : Vec Tally) → entries_seen es ≡ grouped g items rows → k.items ≡ own
      → lookup (λ l. is_eq (slice_cmp order own l.items)) es ≡ None → w.items ≡ map (λ tally. with_row tally row) (map first_tally items)
      → entries_seen (insert_entry vec_order es k w) ≡ grouped g items after
  group-added es k w is key found grown =
      let none : list_any (at own) keys ≡ false =
      ap (list_any (at own)) (sym (ap keys_of is ∙ keys-entries keys)) ∙ (sym (is_some-lookup (at own) (entries_seen es)) ∙ ap is_some (sym (lookup-seen own es) ∙ ap (option_map (λ (v : Vec Tally). v.items)) found)) in
      let no_rows = none-with own (first_keys g) rows none in
      insert-seen k es w
      ∙ (ap (λ zs. insert_entry key_order zs k.items w.items) is
      ∙ (ap (λ l. insert_entry key_order (map (entry rows) keys) l w.items) key
      ∙ (put keys w.items none (alone no_rows ∙ ap (λ v. (own, v)) (sym grown))
      ∙ ap (map (entry after)) (sym keys-after))))

-- ---- at a key that was cut from the row

abbrev pub finds : Key → Vec (Option Cell) → Bool
finds k l = is_eq (slice_cmp order k l.items)

pub row-added-at : (g : ℕ) (items : List Item) (rows : List Row) (row : Row) (k : Key) (es : List (Vec (Option Cell) × Vec Tally)) (ts w : Vec Tally) → k ≡ group_of g row → entries_seen es ≡ grouped g items rows
    → IsStrictlySortedBy vec_order (keys_of es) → lookup (finds k) es ≡ Some ts → w.items ≡ map (λ tally. with_row tally row) ts.items
    → entries_seen (set_value (finds k) es w) ≡ grouped g items (rows ++ row ∷ [])
row-added-at g items rows row k es ts w key is sorted found grown =
    let there : lookup (finds (group_of g row)) es ≡ Some ts = subst (λ z. lookup (finds z) es ≡ Some ts) key found in
    ap (λ z. entries_seen (set_value (finds z) es w)) key ∙ row-added g items rows row es ts w is sorted there grown

pub group-added-at : (g : ℕ) (items : List Item) (rows : List Row) (row : Row) (k : Key) (es : List (Vec (Option Cell) × Vec Tally)) (l : Vec (Option Cell)) (w : Vec Tally) → k ≡ group_of g row → entries_seen es ≡ grouped g items rows → l.items ≡ k
    → lookup (finds k) es ≡ None → w.items ≡ map (λ tally. with_row tally row) (map first_tally items) → entries_seen (insert_entry vec_order es l w) ≡ grouped g items (rows ++ row ∷ [])
group-added-at g items rows row k es l w key is copied found grown =
    group-added g items rows row es l w is (copied ∙ key) (subst (λ z. lookup (finds z) es ≡ None) key found) grown
