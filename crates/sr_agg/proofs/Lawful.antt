-- The laws of aggregates.
use Rattle.std.proofs.Common.{◌≡◌, ℕ, ◌<◌, ◌^◌, List, [], ◌∷◌, ◌++◌, length, map, refl, sym, ap, subst, ◌∙◌, append_assoc, arith}
use Rattle.std.specs.Global.{Vec}
use Rattle.std.specs.Prelude.{IsPermutation, Option, Some, None, Result, Ok, Err}
use Rattle.std.specs.Ordering.{is_eq}
use Rattle.std.specs.BTreeSet.{insert_key}
use Rattle.sr_cell.specs.declared.cell.Cell.{Cell}
use Rattle.sr_cell.specs.declared.fault.Fault.{Fault}
use Rattle.sr_cell.specs.Cells.{Row}
use Rattle.sr_grammar.specs.Says.{Says}
use Rattle.sr_grammar.specs.Trees.{Statement}
use Rattle.sr_grammar_laws.proofs.OneSaying.{each_says_one}
use Rattle.sr_model.specs.Queries.{Query, rows_of}
use Rattle.sr_query.specs.Binding.{bound_query}
use Rattle.sr_agg.specs.declared.statement.Aggregate.{Aggregate}
use Rattle.sr_agg.specs.declared.item.Item.{Item}
use Rattle.sr_agg.specs.declared.tally.Tally.{Tally}
use Rattle.sr_agg.specs.declared.agg.AggFault.TheVariants.{Sql}
use Rattle.sr_agg.specs.Statement.{outer}
use Rattle.sr_agg.specs.Inner.{group_count, inner_text}
use Rattle.sr_agg.specs.Groups.{Key, aggregates, first_keys, group_keys, group_of, key_order, rows_with}
use Rattle.sr_agg.specs.Starting.{Plan, Starts, asked_by, behind_query, item_of, judged, not_grouped, scope_of, sum_of_text}
use Rattle.sr_agg.specs.Tallies.{first_tally, grouped, tally_of, told_by, with_row}
use Rattle.sr_agg.specs.Kept.{entries_seen}
use Rattle.sr_agg.specs.Laws.{OrderIsNothing, PlansTell, Tells, agg_of}
use Rattle.sr_agg.proofs.Order.{key-total, key-exact, row-total, row-exact}
use Rattle.sr_agg.proofs.Inserting.{either-first}
use Rattle.sr_agg.proofs.Bags.{gathered, fold-filter, either-passes, if_passes}
use Rattle.sr_agg.proofs.Fewness.{few-of}
use Rattle.sr_agg.proofs.Tallying.{few-exact, row-either, tally-few, tally-tells, told_exactly}

map-same : {A B : Type 0} (f h : A → B) → ((a : A) → f a ≡ h a) → (xs : List A) → map f xs ≡ map h xs
map-same f h same [] = refl
map-same f h same (x ∷ xs) = let e = same x in let ih = map-same f h same xs in rw (e, ih) refl

map-twice : {A B C : Type 0} (f : B → C) (h : A → B) (xs : List A) → map f (map h xs) ≡ map (λ a. f (h a)) xs
map-twice f h [] = refl
map-twice f h (x ∷ xs) = ap (λ ys. f (h x) ∷ ys) (map-twice f h xs)

abbrev tell : Key × List Tally → List (Option Cell)
tell e = map (told_exactly e.0) e.1

-- what tallies tell of groups is what is told of them
tells : (g : ℕ) (items : List Item) (rows : List Row) → map tell (grouped g items rows) ≡ aggregates g items rows
tells g items rows =
    map-twice tell (λ key. (key, map (tally_of (rows_with g key rows)) items)) (group_keys g rows)
    ∙ map-same _ _ (λ key. map-twice (told_exactly key) (tally_of (rows_with g key rows)) items ∙ map-same _ _ (tally-tells key (rows_with g key rows)) items) (group_keys g rows)

-- so many rows as a list in memory may have
pub few_tell : (g : ℕ) (items : List Item) (rows : List Row) → length rows < 2 ^ 63 → map (λ e. map (told_by e.0) e.1) (grouped g items rows) ≡ aggregates g items rows
few_tell g items rows few =
    map-twice (λ e. map (told_by e.0) e.1) (λ key. (key, map (tally_of (rows_with g key rows)) items)) (group_keys g rows)
    ∙ (map-same _ _ (λ key. map-twice (told_by key) (tally_of (rows_with g key rows)) items ∙ (map-same _ _ (one key) items ∙ sym (map-twice (told_exactly key) (tally_of (rows_with g key rows)) items))) (group_keys g rows)
    ∙ (sym (map-twice tell (λ key. (key, map (tally_of (rows_with g key rows)) items)) (group_keys g rows)) ∙ tells g items rows))
  where
    one : (key : Key) (item : Item) → told_by key (tally_of (rows_with g key rows) item) ≡ told_exactly key (tally_of (rows_with g key rows) item)
    one key item =
        let a = tally-few (rows_with g key rows) item in
        let b = few-of (λ (row : Row). is_eq (key_order key (group_of g row))) rows in
        few-exact key (tally_of (rows_with g key rows) item) (omega (arith, a, b, few))

tally-same : (g : ℕ) (key : Key) (rows others : List Row) → IsPermutation rows others → (item : Item) → tally_of (rows_with g key rows) item ≡ tally_of (rows_with g key others) item
tally-same g key rows others p item =
    let test = λ (row : Row). is_eq (key_order key (group_of g row)) in
    fold-filter test with_row (first_tally item) rows
    ∙ (gathered row-total row-exact (if_passes test with_row) (either-passes test with_row row-either) rows others p (first_tally item)
    ∙ sym (fold-filter test with_row (first_tally item) others))

keys-same : (g : ℕ) (rows others : List Row) → IsPermutation rows others → group_keys g rows ≡ group_keys g others
keys-same g rows others p =
    gathered row-total row-exact (λ (keys : List Key) (row : Row). insert_key key_order keys (group_of g row)) (λ z a b. either-first key-total key-exact z (group_of g a) (group_of g b)) rows others p (first_keys g)

grouped-same : (g : ℕ) (items : List Item) (rows others : List Row) → IsPermutation rows others → grouped g items rows ≡ grouped g items others
grouped-same g items rows others p =
    map-same _ _ (λ key. ap (λ ts. (key, ts)) (map-same _ _ (tally-same g key rows others p) items)) (group_keys g rows)
    ∙ ap (map (λ key. (key, map (tally_of (rows_with g key others)) items))) (keys-same g rows others p)

pub order-is-nothing : OrderIsNothing
order-is-nothing g items rows others p = sym (tells g items rows) ∙ (ap (map tell) (grouped-same g items rows others p) ∙ tells g items others)

-- ---- the plan of a text

plan-of : (n m : Option ℕ) (plan made : Plan) → Ok plan ≡ judged n m made → plan ≡ made
plan-of None None plan made e = cc
plan-of None (Some place) plan made e = absurd cc
plan-of (Some place) m plan made e = absurd cc

pub plans-tell : PlansTell
plans-tell schema text plan s q tables starts says asks = by (outer text) refl starts
  where
    with : (a : Aggregate) → outer text ≡ Ok a → (inner : Result Statement Fault) → Says (inner_text schema text a) inner → Ok plan ≡ behind_query schema text a (asked_by schema inner)
        → Tells schema text tables (aggregates plan.groups plan.items (rows_of q tables))
    with a is (Err fault) says-inner e = absurd cc
    with a is (Ok t) says-inner e = on (bound_query schema t) refl e
      where
        on : (asked : Result Query Fault) → bound_query schema t ≡ asked → Ok plan ≡ behind_query schema text a asked → Tells schema text tables (aggregates plan.groups plan.items (rows_of q tables))
        on (Err fault) k e = absurd cc
        on (Ok p) k e =
            let made : Plan = record { inner = inner_text schema text a; groups = group_count a; items = map (item_of (scope_of a p)) a.items } in
            let plan-is : plan ≡ made = plan-of (not_grouped (scope_of a p) a.items) (sum_of_text schema (scope_of a p) a.items) plan made e in
            let says-plan : Says (inner_text schema text a) (Ok s) = subst (λ (z : Plan). Says z.inner (Ok s)) plan-is says in
            let one : Ok s ≡ Ok t = each_says_one (inner_text schema text a) (Ok s) (Ok t) says-plan says-inner in
            let same : s ≡ t = cc in
            let two : Ok q ≡ Ok p = sym asks ∙ (ap (bound_query schema) same ∙ k) in
            let query : q ≡ p = cc in
            let told : aggregates plan.groups plan.items (rows_of q tables) ≡ agg_of a q tables =
            ap (λ (z : Plan). aggregates z.groups z.items (rows_of q tables)) plan-is
            ∙ ap (λ (z : Query). aggregates (group_count a) (map (item_of (scope_of a z)) a.items) (rows_of q tables)) (sym query) in
            (a, s, q, is, says-plan, asks, told)

    by : (o : Result Aggregate Fault) → outer text ≡ o → Starts schema text (Ok plan) → Tells schema text tables (aggregates plan.groups plan.items (rows_of q tables))
    by (Err fault) is starts = let e : Ok plan ≡ Err (Sql fault) = rw is at starts in absurd cc
    by (Ok a) is starts = let e = rw is at starts in with a is e.0 e.1 e.2

abbrev tell_seen : List (Vec (Option Cell) × Vec Tally) → List (List (Option Cell))
tell_seen es = map (λ e. map (told_by e.0) e.1) (entries_seen es)

-- one group more is told
pub told-more : (told : List (List (Option Cell))) (row : List (Option Cell)) (k : Vec (Option Cell)) (v : Vec Tally) (es rest : List (Vec (Option Cell) × Vec Tally)) (all : List (List (Option Cell))) → es ≡ (k, v) ∷ rest
    → row ≡ map (told_by k.items) v.items → told ++ tell_seen es ≡ all → (told ++ row ∷ []) ++ tell_seen rest ≡ all
told-more told row k v es rest all e r so_far =
    append_assoc told (row ∷ []) (tell_seen rest) ∙ (ap (λ z. told ++ z ∷ tell_seen rest) r ∙ (ap (λ zs. told ++ tell_seen zs) (sym e) ∙ so_far))
