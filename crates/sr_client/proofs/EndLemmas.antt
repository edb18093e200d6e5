-- Rects that begin and end only where tests of some queries do.
use Rattle.std.proofs.Common.{◌≡◌, ℕ, ◌+◌, Bool, true, false, cond, List, [], ◌∷◌, ◌++◌, refl, sym, ◌∙◌, ap, subst, arith, append-nil, append_assoc}
use Rattle.std.specs.Prelude.{◌==◌, filter, flat_map}
use Rattle.std.specs.List.{All, AllZip, AllByRecursion}
use Rattle.std.proofs.lemmas.Bool.Decides.{nat_tests}
use Rattle.std.proofs.lemmas.Grind.{flat_map-append}
use Rattle.std.proofs.lemmas.List.Elements.{All-nil, All-cons, All-head, All-tail, All-weaker, filter-append}
use Rattle.std.specs.Cmp.{first_so}
use Rattle.std.proofs.lemmas.Bool.{eqb-true}
use Rattle.sr_cell.specs.declared.table.Column.{Column}
use Rattle.sr_cell.specs.declared.table.Table.{Table}
use Rattle.sr_cell.specs.Attrs.{includes}
use Rattle.sr_cell.specs.Columns.{table_at}
use Rattle.sr_box.specs.Points.{Rect}
use Rattle.sr_model.specs.Conditions.{Cond}
use Rattle.sr_model.specs.Queries.{Query}
use Rattle.sr_model.specs.Queries as model
use Rattle.sr_query.specs.Bound.{IsPart, EndsWithTests}
use Rattle.sr_query.specs.declared.query.Part.{Part}
use Rattle.sr_history.specs.Load.{parts_on}
use Rattle.sr_history.specs.Ends.{EndsWith, AllEndAmong}
use Rattle.sr_history.proofs.Ends.{more_parts_keep_ends, parts_have_their_ends}
use Rattle.sr_region.specs.declared.region.Region.{Region}
use Rattle.sr_store.specs.declared.store.Arrival.{Arrival}
use Rattle.sr_store.specs.Stores.{serves, cover_of}
use Rattle.sr_store.specs.Answered.{rects_on}
use Rattle.sr_client.specs.Cutting.{EndWith, RegionsEnd, PartsEnd}

all-append : (P : Rect → Type 0) (xs ys : List Rect) → AllByRecursion P xs → AllByRecursion P ys → AllByRecursion P (xs ++ ys)
all-append P [] ys a b = b
all-append P (x ∷ xs) ys a b = (a.0, all-append P xs ys a.1 b)

pub end-append : (schema : List Table) (queries : List Query) (t : ℕ) (xs ys : List Rect) → EndWith schema queries t xs → EndWith schema queries t ys → EndWith schema queries t (xs ++ ys)
end-append schema queries t xs ys a b = all-append _ xs ys a b

-- ---- of a table

module _ {X : Type 0} (schema : List Table) (queries : List Query) (table : X → ℕ) (rects : X → List Rect) where
  abbrev Ends : X → Type 0
  Ends x = EndWith schema queries (table x) (rects x)

  -- the rects of chosen ones of a table
  chosen-end : (test : X → Bool) (t : ℕ) → ((x : X) → test x ≡ true → table x ≡ t) → (xs : List X) → All Ends xs → EndWith schema queries t (flat_map rects (filter test xs))
  chosen-end test t same [] all = tt
  chosen-end test t same (y ∷ xs) all = go (test y) refl (chosen-end test t same xs (All-tail Ends y xs all)) (All-head Ends y xs all)
    where
      go : (b : Bool) → test y ≡ b → EndWith schema queries t (flat_map rects (filter test xs)) → EndWith schema queries (table y) (rects y)
          → EndWith schema queries t (flat_map rects (cond b (y ∷ filter test xs) (filter test xs)))
      go true is ih one = end-append schema queries t (rects y) (flat_map rects (filter test xs)) (subst (λ u. EndWith schema queries u (rects y)) (same y is) one) ih
      go false is ih one = ih

pub cover-end : (schema : List Table) (queries : List Query) (part : Part) (regions : List Region) → RegionsEnd schema queries regions → EndWith schema queries part.table (cover_of part regions)
cover-end schema queries part regions ends =
    chosen-end schema queries (λ (g : Region). g.table) (λ (g : Region). g.rects) (serves part) part.table
    (λ g is. eqb-true g.table part.table (first_so (g.table == part.table) (includes g.attrs part.need) is)) regions ends

-- of all rects of the table
pub rects_on-end : (schema : List Table) (queries : List Query) (regions : List Region) (parts : List Part) (arrivals : List Arrival) (t : ℕ) → RegionsEnd schema queries regions → PartsEnd schema queries parts
    → All (λ (r : Arrival). EndWith schema queries r.table r.rects) arrivals → EndWith schema queries t (rects_on regions parts arrivals t)
rects_on-end schema queries regions parts arrivals t a b c =
    end-append schema queries t (flat_map (λ g. g.rects) (filter (λ g. g.table == t) regions))
    (flat_map (λ part. part.rects) (filter (λ part. part.table == t) parts) ++ flat_map (λ r. r.rects) (filter (λ r. r.table == t) arrivals))
    (chosen-end schema queries (λ (g : Region). g.table) (λ (g : Region). g.rects) (λ g. g.table == t) t (λ g is. eqb-true g.table t is) regions a)
    (end-append schema queries t (flat_map (λ part. part.rects) (filter (λ part. part.table == t) parts)) (flat_map (λ r. r.rects) (filter (λ r. r.table == t) arrivals))
    (chosen-end schema queries (λ (part : Part). part.table) (λ (part : Part). part.rects) (λ part. part.table == t) t (λ part is. eqb-true part.table t is) parts b)
    (chosen-end schema queries (λ (r : Arrival). r.table) (λ (r : Arrival). r.rects) (λ r. r.table == t) t (λ r is. eqb-true r.table t is) arrivals c))

-- ---- more queries

pub parts_on-append : (t : ℕ) (a b : List Query) → parts_on t (a ++ b) ≡ parts_on t a ++ parts_on t b
parts_on-append t a b =
    ap (filter (λ part. part.table == t)) (flat_map-append (λ (q : Query). q.parts) a b)
    ∙ filter-append (λ (part : model.Part). part.table == t) (flat_map (λ (q : Query). q.parts) a) (flat_map (λ (q : Query). q.parts) b)

end-more : (schema : List Table) (a b : List Query) (t : ℕ) (rects : List Rect) → EndWith schema a t rects → EndWith schema (a ++ b) t rects
end-more schema a b t rects e =
    subst (λ parts. AllEndAmong (table_at schema t).columns parts rects) (sym (parts_on-append t a b))
    (more_parts_keep_ends (table_at schema t).columns [] (parts_on t a) (parts_on t b) rects e)

end-last : (schema : List Table) (a b : List Query) (t : ℕ) (rects : List Rect) → EndWith schema b t rects → EndWith schema (a ++ b) t rects
end-last schema a b t rects e =
    subst (λ parts. AllEndAmong (table_at schema t).columns parts rects) (ap (λ ps. parts_on t a ++ ps) (append-nil (parts_on t b)) ∙ sym (parts_on-append t a b))
    (more_parts_keep_ends (table_at schema t).columns (parts_on t a) (parts_on t b) [] rects e)

pub regions-more : (schema : List Table) (a b : List Query) (regions : List Region) → RegionsEnd schema a regions → RegionsEnd schema (a ++ b) regions
regions-more schema a b regions ends =
    All-weaker (λ (g : Region). EndWith schema a g.table g.rects) (λ (g : Region). EndWith schema (a ++ b) g.table g.rects) (λ g e. end-more schema a b g.table g.rects e) regions ends

-- ---- the query's own parts

end-with : (c : ℕ) (columns : List Column) (condition : Cond) (r : Rect) → EndsWithTests c columns condition r → EndsWith c columns condition r
end-with c [] condition r h = tt
end-with c (column ∷ columns) condition [] h = tt
end-with c (column ∷ columns) condition (s ∷ r) h = (h.0, end-with (c + 1) columns condition r h.1)

all-end-with : (columns : List Column) (condition : Cond) (rects : List Rect) → AllByRecursion (EndsWithTests 0 columns condition) rects → AllByRecursion (EndsWith 0 columns condition) rects
all-end-with columns condition [] a = tt
all-end-with columns condition (r ∷ rects) a = (end-with 0 columns condition r a.0, all-end-with columns condition rects a.1)

abbrev is_of : ℕ → model.Part → Bool
is_of t part = part.table == t

own-parts : (q : Query) (before after : List model.Part) (m : model.Part) → q.parts ≡ before ++ m ∷ after → parts_on m.table (q ∷ []) ≡ filter (is_of m.table) before ++ m ∷ filter (is_of m.table) after
own-parts q before after m own =
    let one : flat_map (λ (x : Query). x.parts) (q ∷ []) ≡ before ++ m ∷ after = append-nil q.parts ∙ own in
    let same : (m.table == m.table) ≡ true = grind (arith, nat_tests) in
    ap (filter (λ part. part.table == m.table)) one
    ∙ (filter-append (λ (part : model.Part). part.table == m.table) before (m ∷ after)
    ∙ ap (λ b. filter (is_of m.table) before ++ cond b (m ∷ filter (is_of m.table) after) (filter (is_of m.table) after)) same)

own-end : (schema : List Table) (q : Query) (before after : List model.Part) (part : Part) (m : model.Part) → q.parts ≡ before ++ m ∷ after → IsPart schema part m → EndWith schema (q ∷ []) part.table part.rects
own-end schema q before after part m own is =
    subst (λ t. EndWith schema (q ∷ []) t part.rects) (sym is.table)
    (subst (λ parts. AllEndAmong (table_at schema m.table).columns parts part.rects) (sym (own-parts q before after m own))
    (more_parts_keep_ends (table_at schema m.table).columns (filter (is_of m.table) before) (m ∷ []) (filter (is_of m.table) after) part.rects
    (parts_have_their_ends (table_at schema m.table).columns (m ∷ []) m part.rects (0, omega arith, refl)
    (all-end-with (table_at schema m.table).columns m.condition part.rects is.rects.ends))))

-- the parts of the last query end where tests of the queries do; these stand before them
pub parts-end : (schema : List Table) (queries : List Query) (q : Query) (before : List model.Part) (parts : List Part) (meant : List model.Part) → q.parts ≡ before ++ meant → AllZip (IsPart schema) parts meant
    → PartsEnd schema (queries ++ q ∷ []) parts
parts-end schema queries q before [] meant own zip = All-nil (λ (part : Part). EndWith schema (queries ++ q ∷ []) part.table part.rects)
parts-end schema queries q before (p ∷ parts) [] own zip = absurd zip
parts-end schema queries q before (p ∷ parts) (m ∷ meant) own zip =
    All-cons (λ (part : Part). EndWith schema (queries ++ q ∷ []) part.table part.rects) p parts
    (end-last schema queries (q ∷ []) p.table p.rects (own-end schema q before meant p m own zip.0))
    (parts-end schema queries q (before ++ m ∷ []) parts meant (own ∙ sym (append_assoc before (m ∷ []) meant)) zip.1)
