-- How a query would be answered from the regions of a client is what the rules say of its past.
use Rattle.std.proofs.Common.{◌≡◌, ℕ, zero, suc, ◌+◌, ◌*◌, ◌<◌, Bool, true, false, List, [], ◌∷◌, ◌++◌, map, length, take, get_or, refl, sym, ◌∙◌, ap, subst, arith, inl, inr, Option, Some, None}
use Rattle.std.specs.Prelude.{not, ◌&&◌, ◌==◌, nat_eq}
use Rattle.std.specs.List.{list_all, All, AllZip}
use Rattle.std.proofs.lemmas.Bool.Decides.{nat_tests}
use Rattle.std.proofs.lemmas.List.Elements.{All-nil, All-head, All-tail}
use Rattle.std.specs.Cmp.{first_so}
use Rattle.std.proofs.lemmas.Bool.{eqb-true}
use Rattle.sr_cell.specs.declared.table.Table.{Table}
use Rattle.sr_cell.specs.Attrs.{includes}
use Rattle.sr_cell.specs.Cells.{Row}
use Rattle.sr_cell.specs.Columns.{table_at, is_point}
use Rattle.sr_box.specs.Points.{Rect, in_any, times, rect_fits, HasNoPoint}
use Rattle.sr_union.proofs.Low.{has_point}
use Rattle.sr_union.proofs.Times.{in_any-times}
use Rattle.sr_message.specs.declared.message.AskPart.{AskPart}
use Rattle.sr_model.specs.Queries as model
use Rattle.sr_model.specs.Queries.{points_of}
use Rattle.sr_query.specs.Bound.{IsPart}
use Rattle.sr_query.specs.declared.query.Part.{Part}
use Rattle.sr_query.specs.declared.query.Query.{Query}
use Rattle.sr_history.specs.declared.mark.Mark.{Mark}
use Rattle.sr_history.specs.Marks.{is_held, HoldsNothing}
use Rattle.sr_history.specs.Classes.{Numbered, stamp, in_class}
use Rattle.sr_history.specs.Rests.{IsRest, Asks, asked}
use Rattle.sr_history.specs.Rests as rests
use Rattle.sr_region.specs.declared.region.Region.{Region}
use Rattle.sr_store.specs.Classes.{ascends, Keeps}
use Rattle.sr_store.specs.Past.{class_of}
use Rattle.sr_store.specs.Stores.{IsOfSchema, serves}
use Rattle.sr_store.proofs.Classing.{IsSolid, all_solid, HasClass, have_classes, are_classes}
use Rattle.sr_explain.specs.declared.explanation.ProbeView.{ProbeView}
use Rattle.sr_explain.specs.declared.explanation.ExplainPart.{ExplainPart}
use Rattle.sr_explain.specs.declared.explanation.Explanation.{Explanation}
use Rattle.sr_explain.specs.Explained.{served_by, IsProbe, ProbesOf, ExplainsPart, marks_then, count_in}
use Rattle.sr_explain.specs.Explained as explain
use Rattle.sr_session.specs.Sessions.{Database, tables_of}
use Rattle.sr_session.specs.Bases.{basis_of}
use Rattle.sr_client.specs.Asking.{AsksRest, LeavesRest, whole_asks}
use Rattle.sr_client.specs.Bound.{IsMeaning}
use Rattle.sr_client.specs.Cutting.{IsOver}
use Rattle.sr_client.specs.Explaining.{IsAway, IsProbeOf, AreProbes, nothing, away, probed, entry_for, IsRestIn, IsExplained, Fall, Explains}
use Rattle.sr_client.specs.declared.client.Client.{Client}
use Rattle.sr_client.specs.Stands.{Hidden, past_of, Facts}
use Rattle.sr_client.proofs.AskLemmas.{asks-whole}
use Rattle.sr_client.proofs.Items.{take-item}
use Rattle.sr_client.proofs.EntryLemmas.{IsFound, all-found}
use Rattle.sr_client.proofs.MeantLemmas.{are-sound, tables-differ}
use Rattle.sr_client.proofs.OverLemmas.{on, IsHere, over}
use Rattle.sr_client.proofs.QueryLemmas.{left-here}
use Rattle.sr_client.proofs.Renewal.{HaveFirst}
use Rattle.sr_client.proofs.SendLemmas.{load-heavy}
use Rattle.sr_client.proofs.TableLemmas.{have-first}
use Rattle.sr_client.proofs.FallLemmas.{are-victims}

-- ---- probes

probes-append : (part : Part) (gs hs : List Region) (own more : List ProbeView) → AreProbes part gs own → AreProbes part hs more → AreProbes part (gs ++ hs) (own ++ more)
probes-append part gs hs own more nothing b = b
probes-append part gs hs own more (away g others made is a) b = away g (others ++ hs) (made ++ more) is (probes-append part others hs made more a b)
probes-append part gs hs own more (probed g others probe made is a) b = probed g (others ++ hs) probe (made ++ more) is (probes-append part others hs made more a b)

-- one region more
pub probes-more : (part : Part) (gs : List Region) (i : ℕ) (g : Region) (probes own next : List ProbeView) → i < length gs → g ≡ get_or gs i g → AreProbes part (take i gs) probes → AreProbes part (g ∷ []) own
    → next ≡ probes ++ own → AreProbes part (take (i + 1) gs) next
probes-more part gs i g probes own next within is before here all =
    subst (λ ps. AreProbes part (take (i + 1) gs) ps) (sym all)
    (subst (λ gs. AreProbes part gs (probes ++ own)) (sym (take-item gs i g within is)) (probes-append part (take i gs) (g ∷ []) probes own before here))

both-some : (a b : ℕ) → not (nat_eq (a * b) 0) ≡ (not (nat_eq a 0) && not (nat_eq b 0))
both-some zero b = let e : zero * b ≡ 0 = omega arith in ap (λ n. not (nat_eq n 0)) e
both-some (suc a) zero = let e : suc a * zero ≡ 0 = omega arith in grind (arith, nat_tests, e)
both-some (suc a) (suc b) = let e : suc a * suc b ≡ suc (b + a * suc b) = omega arith in grind (arith, nat_tests, e)

meet-in : (xs ys both : List Rect) (p : Row) → times both p ≡ times xs p * times ys p → in_any both p ≡ (in_any xs p && in_any ys p)
meet-in xs ys both p e = in_any-times both p ∙ (ap (λ n. not (nat_eq n 0)) e ∙ (both-some (times xs p) (times ys p) ∙ sym (rw (in_any-times xs p, in_any-times ys p) refl)))

module _ (schema : List Table) (marks : List Mark) (queries : List Numbered) (part : Part) (m : model.Part) (is : IsPart schema part m) (first : HaveFirst schema) where
  serves-same : (g : Region) → serves part g ≡ (g.table == m.table && includes g.attrs m.need)
  serves-same g = ap (λ t. g.table == t && includes g.attrs part.need) is.table ∙ ap (λ n. g.table == m.table && includes g.attrs n) is.need

  -- what the class of a region serves is what the region has in common with the part, if it serves it
  served-is : (g : Region) → HasClass schema marks queries g → (p : Row) → is_point (table_at schema m.table).columns p ≡ true
      → served_by marks queries m (class_of g) p ≡ (serves part g && (in_any part.rects p && in_any g.rects p))
  served-is g has p point = go (g.table == m.table && includes g.attrs m.need) refl ∙ ap (λ b. b && (in_any part.rects p && in_any g.rects p)) (sym (serves-same g))
    where
      go : (b : Bool) → (g.table == m.table && includes g.attrs m.need) ≡ b → (b && (points_of m p && in_class marks queries (class_of g) p)) ≡ (b && (in_any part.rects p && in_any g.rects p))
      go false e = refl
      go true e =
          let table : g.table ≡ m.table = eqb-true g.table m.table (first_so (g.table == m.table) (includes g.attrs m.need) e) in
          let here : is_point (table_at schema g.table).columns p ≡ true = subst (λ t. is_point (table_at schema t).columns p ≡ true) (sym table) point in
          ap (λ b. b && in_class marks queries (class_of g) p) (sym (is.rects.points p point)) ∙ ap (λ b. in_any part.rects p && b) (sym (has p here))

  away-serves-none : (g : Region) → HasClass schema marks queries g → IsAway part g → HasNoPoint (table_at schema m.table).columns (served_by marks queries m (class_of g))
  away-serves-none g has (inl serves_none) p point = served-is g has p point ∙ ap (λ b. b && (in_any part.rects p && in_any g.rects p)) serves_none
  away-serves-none g has (inr common) p point =
      served-is g has p point
      ∙ (ap (λ b. serves part g && b) (sym (meet-in part.rects g.rects [] p (common (table_at schema m.table).columns p point))) ∙ by (serves part g))
    where
      by : (b : Bool) → (b && false) ≡ false
      by true = refl
      by false = refl

  probe-is : (g : Region) (probe : ProbeView) → IsOfSchema schema g → HasClass schema marks queries g → IsProbeOf part g probe → IsProbe schema marks queries m (class_of g) probe
  probe-is g probe of has h =
      let served : (g.table == m.table && includes g.attrs m.need) ≡ true = sym (serves-same g) ∙ h.serves in
      let table : g.table ≡ m.table = eqb-true g.table m.table (first_so (g.table == m.table) (includes g.attrs m.need) served) in
      let own_fits = subst (λ t. list_all (rect_fits (table_at schema t).columns) g.rects ≡ true) table of.1.area.fit in
      let fits = h.fits (table_at schema m.table).columns is.rects.fits own_fits in
      let some = has_point (table_at schema m.table).columns probe.rects h.some fits (first m.table) in
      record {
        attrs = h.attrs;
        stamp = h.stamp;
        some = (some.0, some.1, sym (same some.0 some.1) ∙ some.2);
        fits = fits;
        same = same;
      }
    where
      same : (p : Row) → is_point (table_at schema m.table).columns p ≡ true → in_any probe.rects p ≡ served_by marks queries m (class_of g) p
      same p point =
          meet-in part.rects g.rects probe.rects p (h.common (table_at schema m.table).columns p point)
          ∙ sym (served-is g has p point ∙ ap (λ b. b && (in_any part.rects p && in_any g.rects p)) h.serves)

  probes-of : (gs : List Region) (probes : List ProbeView) → All (IsOfSchema schema) gs → All (HasClass schema marks queries) gs → AreProbes part gs probes
      → ProbesOf schema marks queries m (map class_of gs) probes
  probes-of gs probes each has nothing = explain.nothing
  probes-of gs probes each has (away g others more is_away rest) =
      explain.passed_by (class_of g) (map class_of others) more (away-serves-none g (All-head (HasClass schema marks queries) g others has) is_away)
      (probes-of others more (All-tail (IsOfSchema schema) g others each) (All-tail (HasClass schema marks queries) g others has) rest)
  probes-of gs probes each has (probed g others probe more own rest) =
      explain.probed (class_of g) (map class_of others) probe more (probe-is g probe (All-head (IsOfSchema schema) g others each) (All-head (HasClass schema marks queries) g others has) own)
      (probes-of others more (All-tail (IsOfSchema schema) g others each) (All-tail (HasClass schema marks queries) g others has) rest)

-- ---- the rest

abbrev ask_from : ℕ → ℕ → List Rect → AskPart
ask_from t a rects = record { table = t; attrs = a; rects = rects }

-- an entry with no rects is no rest
entry-asks : (schema : List Table) (marks : List Mark) (m : model.Part) (t a : ℕ) (rects : List Rect) → IsRest schema marks m (ask_from t a rects) → Asks schema marks (m ∷ []) (explain.entry_of t a rects)
entry-asks schema marks m t a [] rest = absurd (let s = rest.some in let e = rest.same s.0 s.1 ∙ s.2 in cc)
entry-asks schema marks m t a (r ∷ rects) rest = asked m [] (ask_from t a (r ∷ rects)) [] rest rests.nothing

rest-asked : (schema : List Table) (marks : List Mark) (part : Part) (m : model.Part) (o : Option AskPart) (e : ExplainPart) → part.table ≡ m.table → e.table ≡ part.table
    → IsFound schema marks m o → IsRestIn o e.attrs e.rest → Asks schema marks (m ∷ []) (explain.asked_of e)
rest-asked schema marks part m None e table own free is = subst (λ rects. Asks schema marks (m ∷ []) (explain.entry_of e.table e.attrs rects)) (sym is) (rests.covered m [] [] free rests.nothing)
rest-asked schema marks part m (Some a) e table own rest is =
    let t : a.table ≡ e.table = rest.table ∙ (sym table ∙ sym own) in
    let path : a ≡ ask_from e.table e.attrs e.rest = ap (λ t. ask_from t a.attrs a.rects) t ∙ (ap (λ n. ask_from e.table n a.rects) (sym is.0) ∙ ap (ask_from e.table e.attrs) (sym is.1)) in
    entry-asks schema marks m e.table e.attrs e.rest (subst (IsRest schema marks m) path rest)

-- ---- a part

module _ (schema : List Table) (marks : List Mark) (queries : List Numbered) (regions : List Region) (asks : List AskPart) (first : HaveFirst schema) (each : All (IsOfSchema schema) regions)
    (order : ascends regions ≡ true) (keeps : Keeps schema (is_held marks) (stamp queries) regions) where
  explains-part : (part : Part) (m : model.Part) (e : ExplainPart) → IsPart schema part m → IsFound schema marks m (entry_for m.table asks) → IsExplained regions asks part e → ExplainsPart schema marks queries m e
  explains-part part m e is found h = record {
    table = h.table ∙ is.table;
    need = h.need ∙ is.need;
    probes = (
      map class_of regions,
      are_classes schema marks queries regions first each order keeps,
      probes-of schema marks queries part m is first regions e.probes each (have_classes schema marks queries regions order keeps) h.probes,
    );
    rest = rest-asked schema marks part m (entry_for m.table asks) e is.table h.table found (subst (λ t. IsRestIn (entry_for t asks) e.attrs e.rest) is.table h.rest);
  }

  -- and so each
  explains-parts : (parts : List Part) (meant : List model.Part) (es : List ExplainPart) → AllZip (IsPart schema) parts meant → All (λ m. IsFound schema marks m (entry_for m.table asks)) meant
      → AllZip (IsExplained regions asks) parts es → AllZip (ExplainsPart schema marks queries) meant es
  explains-parts [] [] [] zip found h = tt
  explains-parts [] [] (e ∷ es) zip found h = absurd h
  explains-parts [] (m ∷ meant) es zip found h = absurd zip
  explains-parts (p ∷ parts) [] es zip found h = absurd zip
  explains-parts (p ∷ parts) (m ∷ meant) [] zip found h = absurd h
  explains-parts (p ∷ parts) (m ∷ meant) (e ∷ es) zip found h =
      (explains-part p m e zip.0 (All-head (λ m. IsFound schema marks m (entry_for m.table asks)) m meant found) h.0, explains-parts parts meant es zip.1 (All-tail (λ m. IsFound schema marks m (entry_for m.table asks)) m meant found) h.1)

nothing-keeps : (schema : List Table) (queries : List Numbered) → Keeps schema (is_held []) (stamp queries) []
nothing-keeps schema queries = record { points = λ t a p point. refl; stamped = All-nil _ }

-- ---- a query

-- where regions have points something is held
some-held : (schema : List Table) (marks : List Mark) (queries : List Numbered) (gs : List Region) → All (IsSolid schema) gs → All (HasClass schema marks queries) gs → (gs ≡ [] → ⊥) → HoldsNothing schema marks → ⊥
some-held schema marks queries [] solid has some none = some refl
some-held schema marks queries (g ∷ gs) solid has some none =
    let p = All-head (IsSolid schema) g gs solid in
    let own = All-head (HasClass schema marks queries) g gs has in
    let free : is_held marks g.table g.attrs p.0 ≡ false = none g.table g.attrs p.0 p.1 in
    let inside : in_class marks queries (class_of g) p.0 ≡ true = sym (own p.0 p.1) ∙ p.2 in
    absurd (grind (arith, free, inside))

module _ (c : Client) (q : Query) (m : model.Query) (e : Explanation) (means : IsMeaning c.schema q m) (version : e.version ≡ c.version)
    (fall : Fall c.schema c.store.limits.policy c.store.last c.store.regions e.victims) where
  -- the parts by themselves
  each-part : (marks : List Mark) (queries : List Numbered) (regions : List Region) (asks : List AskPart) → HaveFirst c.schema → All (IsOfSchema c.schema) regions → ascends regions ≡ true
      → Keeps c.schema (is_held marks) (stamp queries) regions → AsksRest c.schema regions q.parts asks → AllZip (IsExplained regions asks) q.parts e.parts
      → AllZip (ExplainsPart c.schema marks queries) m.parts e.parts
  each-part marks queries regions asks first each order keeps rest h =
      let all : Asks c.schema marks m.parts asks = rest marks (stamp queries) m.parts keeps means.query.parts (are-sound c.schema q m means) in
      explains-parts c.schema marks queries regions asks first each order keeps q.parts m.parts e.parts means.query.parts (all-found c.schema marks m.parts asks all (tables-differ c.schema q m means)) h

  victims-are : (h : Hidden) → Facts c h → (db : Database) → IsHere db c
      → explain.AreVictims c.store.limits.policy c.schema (count_in (tables_of db c.version) h.marks h.queries) h.queries h.marks e.victims
  victims-are h f db here =
      are-victims c.schema (tables_of db c.version) c.store.limits.policy h.marks h.queries c.store.last c.store.regions e.victims f.tables (here.sound.tables c.version here.within) f.store f.keeps
      here.are_true f.last fall

  module _ (asks : List AskPart) (light : e.pieces ≡ false) (rest : AsksRest c.schema c.store.regions q.parts asks) (parts : AllZip (IsExplained c.store.regions asks) q.parts e.parts) where
    trimmed-here : (h : Hidden) → Facts c h → (db : Database) → IsHere db c
        → explain.Explains (basis_of (on c db) c.store.limits) (count_in (tables_of db c.version) h.marks h.queries) (past_of c h) m e
    trimmed-here h f db here = record {
      version = version;
      pieces = λ heavy. absurd (let wrong : true ≡ false = sym heavy ∙ light in cc);
      parts = subst (λ b. AllZip (ExplainsPart c.schema (marks_then b h.marks) h.queries) m.parts e.parts) (sym light)
          (each-part h.marks h.queries c.store.regions asks (have-first c.schema f.tables) f.store.each f.store.order f.keeps rest parts);
      victims = victims-are h f db here;
    }

    pub explains-trimmed : Explains c m e
    explains-trimmed =
        over c (λ db past. explain.Explains (basis_of db c.store.limits) (count_in (tables_of db past.version) past.marks past.queries) past m e) trimmed-here

  module _ (large : IsOver c.schema c.store.regions q.parts) (left : LeavesRest c.schema c.store.regions q.parts) (parts : AllZip (IsExplained [] (whole_asks q.parts)) q.parts e.parts)
      (some : e.pieces ≡ true → c.store.regions ≡ [] → ⊥) (none : e.pieces ≡ false → c.store.regions ≡ []) where
    from-nothing : (marks : List Mark) (queries : List Numbered) → HaveFirst c.schema → Keeps c.schema (is_held marks) (stamp queries) [] → AllZip (ExplainsPart c.schema marks queries) m.parts e.parts
    from-nothing marks queries first keeps = each-part marks queries [] (whole_asks q.parts) first (All-nil (IsOfSchema c.schema)) refl keeps (asks-whole c.schema q.parts first) parts

    whole-here : (h : Hidden) → Facts c h → (db : Database) → IsHere db c
        → explain.Explains (basis_of (on c db) c.store.limits) (count_in (tables_of db c.version) h.marks h.queries) (past_of c h) m e
    whole-here h f db here = record {
      version = version;
      pieces = λ heavy. record {
        some = some-held c.schema h.marks h.queries c.store.regions (all_solid c.schema c.store.regions (have-first c.schema f.tables) f.store.each)
            (have_classes c.schema h.marks h.queries c.store.regions f.store.order f.keeps) (some heavy);
        left = left-here c q m h means f left;
        heavy = load-heavy c h q m means f large;
      };
      parts = by e.pieces refl;
      victims = victims-are h f db here;
    }
      where
        by : (b : Bool) → e.pieces ≡ b → AllZip (ExplainsPart c.schema (marks_then e.pieces h.marks) h.queries) m.parts e.parts
        by true is = subst (λ b. AllZip (ExplainsPart c.schema (marks_then b h.marks) h.queries) m.parts e.parts) (sym is)
            (from-nothing [] h.queries (have-first c.schema f.tables) (nothing-keeps c.schema h.queries))
        by false is = subst (λ b. AllZip (ExplainsPart c.schema (marks_then b h.marks) h.queries) m.parts e.parts) (sym is)
            (from-nothing h.marks h.queries (have-first c.schema f.tables) (subst (Keeps c.schema (is_held h.marks) (stamp h.queries)) (none is) f.keeps))

    pub explains-whole : Explains c m e
    explains-whole =
        over c (λ db past. explain.Explains (basis_of db c.store.limits) (count_in (tables_of db past.version) past.marks past.queries) past m e) whole-here
