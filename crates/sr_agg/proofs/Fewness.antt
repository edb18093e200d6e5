-- No tally counts more rows than there are.
use Rattle.std.proofs.Common.{◌≡◌, ℕ, zero, suc, ◌<◌, ◌≤◌, ◌^◌, Bool, true, false, List, [], ◌∷◌, length, map, refl, sym, ap, subst, ◌∙◌, arith}
use Rattle.std.specs.Prelude.{Option, Some, filter}
use Rattle.std.specs.Global.{Vec}
use Rattle.std.specs.declared.cmp.Ordering.{Ordering}
use Rattle.std.specs.declared.cmp.Ordering.TheVariants.{Less, Equal, Greater}
use Rattle.std.specs.Ordering.{is_eq}
use Rattle.std.specs.List.{All}
use Rattle.std.specs.Option.{option_map}
use Rattle.std.specs.Cmp.Lexicographic.{slice_cmp}
use Rattle.std.specs.Map.{lookup}
use Rattle.sr_cell.specs.declared.cell.Cell.{Cell}
use Rattle.sr_cell.specs.Cells.{Row}
use Rattle.sr_agg.specs.declared.item.Item.{Item}
use Rattle.sr_agg.specs.declared.tally.Tally.{Tally}
use Rattle.sr_agg.specs.Groups.{Key, group_keys, group_of, key_order, rows_with}
use Rattle.sr_agg.specs.Kept.{entries_seen}
use Rattle.sr_agg.specs.Tallies.{first_tally, grouped, tally_of, IsFew}
use Rattle.sr_agg.proofs.Order.{order}
use Rattle.sr_agg.proofs.Keeping.{at, lookup-seen}
use Rattle.sr_agg.proofs.Tallying.{tally-few}

pub few-of : (test : Row → Bool) (rows : List Row) → length (filter test rows) ≤ length rows
few-of test [] = omega arith
few-of test (row ∷ rows) = by (test row) refl (few-of test rows)
  where
    by : (b : Bool) → test row ≡ b → length (filter test rows) ≤ length rows → length (filter test (row ∷ rows)) ≤ length (row ∷ rows)
    by true e ih = rw e (omega (arith, ih))
    by false e ih = rw e (omega (arith, ih))

tallies-few : (rows : List Row) (some : List Item) → length rows < 2 ^ 63 → All IsFew (map (tally_of rows) some)
tallies-few rows [] few k d h = absurd (omega (arith, h))
tallies-few rows (item ∷ some) few zero d h = let a = tally-few rows item in omega (arith, a, few)
tallies-few rows (item ∷ some) few (suc k) d h = tallies-few rows some few k d (omega (arith, h))

-- nor do the tallies that a group begins with
pub first-few : (some : List Item) → All IsFew (map first_tally some)
first-few [] k d h = absurd (omega (arith, h))
first-few (item ∷ some) zero d h = let a = tally-few [] item in omega (arith, a)
first-few (item ∷ some) (suc k) d h = first-few some k d (omega (arith, h))

found-few : (g : ℕ) (some : List Item) (rows : List Row) (own : Key) (ks : List Key) (ts : List Tally) → length rows < 2 ^ 63
    → lookup (at own) (map (λ key. (key, map (tally_of (rows_with g key rows)) some)) ks) ≡ Some ts → All IsFew ts
found-few g some rows own [] ts few h = absurd cc
found-few g some rows own (k ∷ ks) ts few h = by (key_order own k) refl h (found-few g some rows own ks ts few)
  where
    rest : List (Key × List Tally)
    rest = map (λ key. (key, map (tally_of (rows_with g key rows)) some)) ks

    by : (p : Ordering) → key_order own k ≡ p → lookup (at own) (map (λ key. (key, map (tally_of (rows_with g key rows)) some)) (k ∷ ks)) ≡ Some ts
        → (lookup (at own) (map (λ key. (key, map (tally_of (rows_with g key rows)) some)) ks) ≡ Some ts → All IsFew ts) → All IsFew ts
    by Less e h ih = ih (rw e at h)
    by Equal e h ih =
        let there : Some (map (tally_of (rows_with g k rows)) some) ≡ Some ts = rw e at h in
        let same : map (tally_of (rows_with g k rows)) some ≡ ts = cc in
        let less = few-of (λ (row : Row). is_eq (key_order k (group_of g row))) rows in
        subst (All IsFew) same (tallies-few (rows_with g k rows) some (omega (arith, less, few)))
    by Greater e h ih = ih (rw e at h)

-- a group that a map has
pub kept-few : (g : ℕ) (some : List Item) (rows : List Row) (own : Key) (es : List (Vec (Option Cell) × Vec Tally)) (ts : Vec Tally) → entries_seen es ≡ grouped g some rows → length rows < 2 ^ 63
    → lookup (λ l. is_eq (slice_cmp order own l.items)) es ≡ Some ts → All IsFew ts.items
kept-few g some rows own es ts is few found =
    found-few g some rows own (group_keys g rows) ts.items few
    (ap (lookup (at own)) (sym is) ∙ (sym (lookup-seen own es) ∙ ap (option_map (λ (v : Vec Tally). v.items)) found))
