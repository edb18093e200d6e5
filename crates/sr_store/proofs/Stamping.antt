-- The stamps after an answer are the restamped ones.
use Rattle.std.proofs.Common.{◌≡◌, ℕ, ◌+◌, ◌-◌, zero, suc, true, false, List, [], ◌∷◌, ◌++◌, length, max, refl, sym, ap, subst, ◌∙◌, arith}
use Rattle.std.specs.Prelude.{Bool, ◌&&◌, ◌==◌, if◌then◌else◌, slice_set}
use Rattle.std.specs.List.{AllZip}
use Rattle.std.proofs.lemmas.Bool.Decides.{nat_tests}
use Rattle.sr_cell.specs.declared.table.Table.{Table}
use Rattle.sr_cell.specs.Cells.{Row}
use Rattle.sr_cell.specs.Columns.{table_at, is_point}
use Rattle.sr_cell.specs.Attrs.{includes}
use Rattle.sr_box.specs.Points.{in_any}
use Rattle.sr_model.specs.Queries as model
use Rattle.sr_query.specs.declared.query.Part.{Part}
use Rattle.sr_query.specs.Bound.{IsPart}
use Rattle.sr_history.specs.Classes.{Numbered, touches as touched, stamp_from, stamp}
use Rattle.sr_store.specs.Classes.{touches, restamped}

stamp_from-more : (n : ℕ) (queries : List Numbered) (q : model.Query) (t a : ℕ) (p : Row)
    → stamp_from n (queries ++ record { query = q; answered = true } ∷ []) t a p ≡ (if touched q.parts t a p then n + length queries else stamp_from n queries t a p)
stamp_from-more n [] q t a p = go (touched q.parts t a p)
  where
    go : (b : Bool) → max (if b then n else 0) 0 ≡ (if b then n + 0 else 0)
    go true = omega arith
    go false = refl
stamp_from-more n (r ∷ queries) q t a p = go (r.answered && touched r.query.parts t a p) (touched q.parts t a p) (stamp_from-more (n + 1) queries q t a p)
  where
    go : (b c : Bool) → stamp_from (n + 1) (queries ++ record { query = q; answered = true } ∷ []) t a p ≡ (if c then n + 1 + length queries else stamp_from (n + 1) queries t a p)
        → max (if b then n else 0) (stamp_from (n + 1) (queries ++ record { query = q; answered = true } ∷ []) t a p)
        ≡ (if c then n + suc (length queries) else max (if b then n else 0) (stamp_from (n + 1) queries t a p))
    go true true ih = omega (arith, ih)
    go false true ih = omega (arith, ih)
    go b false ih = rw ih refl

stamp_from-none : (n : ℕ) (queries : List Numbered) (q : model.Query) (t a : ℕ) (p : Row) → stamp_from n (queries ++ record { query = q; answered = false } ∷ []) t a p ≡ stamp_from n queries t a p
stamp_from-none n [] q t a p = refl
stamp_from-none n (r ∷ queries) q t a p = ap (max (if r.answered && touched r.query.parts t a p then n else 0)) (stamp_from-none (n + 1) queries q t a p)

-- a query that is not answered stamps nothing
pub stamp_none : (queries : List Numbered) (q : model.Query) (t a : ℕ) (p : Row) → stamp (queries ++ record { query = q; answered = false } ∷ []) t a p ≡ stamp queries t a p
stamp_none queries q t a p = stamp_from-none 1 queries q t a p

-- the parts have the points that they stand for
part-touch : (schema : List Table) (part : Part) (meant : model.Part) → IsPart schema part meant → (t a : ℕ) (p : Row) → is_point (table_at schema t).columns p ≡ true
    → (part.table == t && includes a part.need && in_any part.rects p) ≡ (meant.table == t && includes a meant.need && model.points_of meant p)
part-touch schema part meant h t a p point = rw (h.table, h.need) (go (meant.table == t) (includes a meant.need) refl)
  where
    go : (b c : Bool) → (meant.table == t) ≡ b → (b && c && in_any part.rects p) ≡ (b && c && model.points_of meant p)
    go true true e = let same : meant.table ≡ t = grind (arith, nat_tests) in h.rects.points p (subst (λ u. is_point (table_at schema u).columns p ≡ true) (sym same) point)
    go true false e = refl
    go false c e = refl

pub parts_touch : (schema : List Table) (parts : List Part) (meant : List model.Part) → AllZip (IsPart schema) parts meant → (t a : ℕ) (p : Row) → is_point (table_at schema t).columns p ≡ true
    → touches parts t a p ≡ touched meant t a p
parts_touch schema [] [] h t a p point = refl
parts_touch schema [] (m ∷ meant) h t a p point = absurd h
parts_touch schema (part ∷ parts) [] h t a p point = absurd h
parts_touch schema (part ∷ parts) (m ∷ meant) h t a p point = rw (part-touch schema part m h.0 t a p point, parts_touch schema parts meant h.1 t a p point) refl

-- a query more, numbered last and answered at once
pub stamp_more : (schema : List Table) (number : ℕ) (parts : List Part) (queries : List Numbered) (q : model.Query) → AllZip (IsPart schema) parts q.parts → number ≡ length queries + 1
    → (t a : ℕ) (p : Row) → is_point (table_at schema t).columns p ≡ true
    → restamped number parts (stamp queries) t a p ≡ stamp (queries ++ record { query = q; answered = true } ∷ []) t a p
stamp_more schema number parts queries q h e t a p point =
    let last : number ≡ 1 + length queries = omega (arith, e) in
    ap (λ b. if b then number else stamp queries t a p) (parts_touch schema parts q.parts h t a p point)
    ∙ ap (λ n. if touched q.parts t a p then n else stamp queries t a p) last ∙ sym (stamp_from-more 1 queries q t a p)

set-last : (front : List Numbered) (x y : Numbered) (n : ℕ) → n ≡ length (front ++ x ∷ []) → slice_set (front ++ x ∷ []) (n - 1) y ≡ front ++ y ∷ []
set-last front x y n e = go front (n - 1) (let l = long front in omega (arith, e, l))
  where
    long : (front : List Numbered) → length (front ++ x ∷ []) ≡ length front + 1
    long [] = refl
    long (f ∷ front) = let ih = long front in omega (arith, ih)

    go : (front : List Numbered) (m : ℕ) → m ≡ length front → slice_set (front ++ x ∷ []) m y ≡ front ++ y ∷ []
    go [] zero e = refl
    go [] (suc m) e = absurd (omega (arith, e))
    go (f ∷ front) zero e = absurd (omega (arith, e))
    go (f ∷ front) (suc m) e = ap (λ rest. f ∷ rest) (go front m (omega (arith, e)))

-- the last query is answered later
pub stamp_answered : (schema : List Table) (number : ℕ) (parts : List Part) (front : List Numbered) (q : model.Query) → AllZip (IsPart schema) parts q.parts
    → number ≡ length (front ++ record { query = q; answered = false } ∷ [])
    → (t a : ℕ) (p : Row) → is_point (table_at schema t).columns p ≡ true
    → restamped number parts (stamp (front ++ record { query = q; answered = false } ∷ [])) t a p
    ≡ stamp (slice_set (front ++ record { query = q; answered = false } ∷ []) (number - 1) (record { query = q; answered = true })) t a p
stamp_answered schema number parts front q h e t a p point =
    ap (λ n. if touches parts t a p then number else n) (stamp_none front q t a p)
    ∙ stamp_more schema number parts front q h (e ∙ long front) t a p point
    ∙ ap (λ queries. stamp queries t a p) (sym (set-last front (record { query = q; answered = false }) (record { query = q; answered = true }) number e))
  where
    long : (front : List Numbered) → length (front ++ record { query = q; answered = false } ∷ []) ≡ length front + 1
    long [] = refl
    long (f ∷ front) = let ih = long front in omega (arith, ih)
