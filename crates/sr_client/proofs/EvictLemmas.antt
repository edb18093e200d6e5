-- What an eviction does.
use Rattle.std.proofs.Common.{◌≡◌, ℕ, zero, suc, ◌≤◌, List, [], ◌∷◌, length, map, refl, sym, ◌∙◌, ap, subst, arith, Some, None}
use Rattle.std.specs.Prelude.{slice_get}
use Rattle.std.proofs.lemmas.List.{length-map}
use Rattle.sr_cell.specs.declared.cause.Cause.TheVariants.{Asked}
use Rattle.sr_model.specs.Queries.{Query}
use Rattle.sr_history.specs.Marks.{with_marks}
use Rattle.sr_history.specs.Classes.{Class, stamp}
use Rattle.sr_region.specs.declared.region.Region.{Region}
use Rattle.sr_store.specs.Fitted.{without}
use Rattle.sr_store.specs.Past.{class_of}
use Rattle.sr_store.specs.Stores.{drop_of}
use Rattle.sr_store.specs.Told.{told_of, IsTrueOf}
use Rattle.sr_store.proofs.Absorbing.{drop_at}
use Rattle.sr_store.proofs.Classing.{are_classes, have_classes}
use Rattle.sr_store.proofs.Dropping.{evicted_all, evicted_store, evicted_settled}
use Rattle.sr_store.proofs.Stepping.{evicted_marks}
use Rattle.sr_store.proofs.Fewer.{fewer_rows}
use Rattle.sr_session.specs.Sessions.{tables_of}
use Rattle.sr_session.specs.Rules.{Evicted, NoSuchClass, number_of, evict_busy, evicts, evicts_none, counted}
use Rattle.sr_session.specs.Rules as rules
use Rattle.sr_session.specs.Tidy.{IsTidyWith}
use Rattle.sr_session.specs.Bases.{basis_of}
use Rattle.sr_session.specs.Brought.{told_basis}
use Rattle.sr_client.specs.Cutting.{EndWith}
use Rattle.sr_client.specs.declared.client.Client.{Client}
use Rattle.sr_client.specs.declared.client.Request as code
use Rattle.sr_client.specs.declared.steps.EvictStep.TheVariants.{Dropped, Busy, NoSuch}
use Rattle.sr_client.specs.Stands.{Hidden, Facts, Stands, past_of, out_of, request_of, IsMeant}
use Rattle.sr_client.specs.Steps.{Evicts}
use Rattle.sr_client.proofs.FitLemmas.{fewer-regions}
use Rattle.sr_client.proofs.MoveLemmas.{evicts-by}
use Rattle.sr_client.proofs.OverLemmas.{on, with_regions, stands-over}
use Rattle.sr_client.proofs.TableLemmas.{have-first}

-- ---- what is left as it was

pub busy_evicts : (c : Client) (place number : ℕ) (request : code.Request) → Stands c → c.out ≡ Some request → ((meaning : Query) → number ≡ number_of (request_of meaning request))
    → Evicts c place c (Busy number)
busy_evicts c place number request stands out number_is = evicts-by c c place (Busy number) (λ h f. record {
  outcome = rules.Busy number;
  next = past_of c h;
  is = refl;
  link = refl;
  draws = omega arith;
  stands = (h, f, refl);
  over = λ db here it. (
    subst (λ k. rules.EvictStep (basis_of (on c db) c.store.limits) place (past_of c h) (rules.Busy k) (past_of c h)) (sym (number_is h.meaning))
        (evict_busy (request_of h.meaning request) (ap (out_of h.meaning) out)),
    stands-over c h db f here,
  );
}) (λ h f told is. (
  is,
  subst (λ k. rules.EvictStep (told_basis c.schema c.store.limits told) place (past_of c h) (rules.Busy k) (past_of c h)) (sym (number_is h.meaning))
      (evict_busy (request_of h.meaning request) (ap (out_of h.meaning) out)),
)) stands

pub none_evicts : (c : Client) (place count : ℕ) → Stands c → c.out ≡ None → count ≡ length c.store.regions → length c.store.regions ≤ place → Evicts c place c (NoSuch count)
none_evicts c place count stands out is few = evicts-by c c place (NoSuch count) (λ h f. record {
  outcome = rules.NoSuchClass count;
  next = past_of c h;
  is = refl;
  link = refl;
  draws = omega arith;
  stands = (h, f, refl);
  over = λ db here it.
      let gs = c.store.regions in
      let classes : List Class = map class_of gs in
      let len : length (map class_of c.store.regions) ≡ length c.store.regions = length-map c.store.regions class_of in
      let are = are_classes c.schema h.marks h.queries gs (have-first c.schema f.tables) f.store.each f.store.order f.keeps in (
        subst (λ k. rules.EvictStep (basis_of (on c db) c.store.limits) place (past_of c h) (rules.NoSuchClass k) (past_of c h)) (len ∙ sym is)
            (evicts_none classes (ap (out_of h.meaning) out) are (omega (arith, len, few))),
        stands-over c h db f here,
      );
}) (λ h f told own.
    let gs = c.store.regions in
    let len : length (map class_of c.store.regions) ≡ length c.store.regions = length-map c.store.regions class_of in
    let are = are_classes c.schema h.marks h.queries gs (have-first c.schema f.tables) f.store.each f.store.order f.keeps in (
      own,
      subst (λ k. rules.EvictStep (told_basis c.schema c.store.limits told) place (past_of c h) (rules.NoSuchClass k) (past_of c h)) (len ∙ sym is)
          (evicts_none (map class_of gs) (ap (out_of h.meaning) out) are (omega (arith, len, few))),
    )) stands

-- ---- a region is dropped

abbrev dropped : Hidden → Region → Hidden
dropped h g = record h { marks = with_marks h.marks (drop_of Asked g ∷ []) }

facts-without : (c : Client) (h : Hidden) (place : ℕ) (g : Region) → Facts c h → c.out ≡ None → slice_get c.store.regions place ≡ Some g
    → Facts (with_regions c (without place c.store.regions)) (dropped h g)
facts-without c h place g f out there = record {
  tables = f.tables;
  tidy = subst (λ o. IsTidyWith c.schema (past_of (with_regions c (without place c.store.regions)) (dropped h g)) (out_of h.meaning o)) (sym out)
      (subst (λ o. IsTidyWith c.schema (past_of c h) (out_of h.meaning o)) out f.tidy);
  down = f.down;
  meant = subst (IsMeant c.schema (counted h.counted_from h.queries) h.meaning) (sym out) tt;
  fit = f.fit;
  store = evicted_store c.schema place c.store.regions f.store;
  settled = λ is. evicted_settled c.schema place c.store.regions (f.settled is);
  keeps = evicted_marks c.schema Asked h.marks (stamp h.queries) place c.store.regions g there f.keeps;
  queries = f.queries;
  last = f.last;
  rows = let less = fewer_rows place c.store.regions in let at = f.rows in omega (arith, less, at);
  few = let less = fewer-regions place c.store.regions in let at = f.few in omega (arith, less, at);
  from = f.from;
  short = f.short;
  ends = evicted_all (λ (r : Region). EndWith c.schema (counted h.counted_from h.queries) r.table r.rects) place c.store.regions f.ends;
}

at-place : (gs : List Region) (n : ℕ) (g : Region) → slice_get gs n ≡ Some g → slice_get (map class_of gs) n ≡ Some (class_of g)
at-place [] n g there = absurd (cc)
at-place (h ∷ gs) zero g there = let same : h ≡ g = cc in ap (λ x. Some (class_of x)) same
at-place (h ∷ gs) (suc n) g there = at-place gs n g there

pub one_evicts : (c : Client) (place : ℕ) (g : Region) → Stands c → c.out ≡ None → slice_get c.store.regions place ≡ Some g
    → Evicts c place (with_regions c (without place c.store.regions)) (Dropped g)
one_evicts c place g stands out there = evicts-by c (with_regions c (without place c.store.regions)) place (Dropped g) (λ h f. record {
  outcome = Evicted (drop_of Asked g);
  next = past_of (with_regions c (without place c.store.regions)) (dropped h g);
  is = refl;
  link = refl;
  draws = omega arith;
  stands = (dropped h g, facts-without c h place g f out there, refl);
  over = λ db here it.
      let gs = c.store.regions in
      let classes : List Class = map class_of gs in
      let are = are_classes c.schema h.marks h.queries gs (have-first c.schema f.tables) f.store.each f.store.order f.keeps in
      let own = have_classes c.schema h.marks h.queries gs f.store.order f.keeps in (
        evicts classes (class_of g) (drop_of Asked g) (ap (out_of h.meaning) out) are (at-place gs place g there) (drop_at c.schema h.marks h.queries Asked gs place g there f.store.each own),
        stands-over (with_regions c (without place c.store.regions)) (dropped h g) db (facts-without c h place g f out there) (record {
          sound = here.sound;
          within = here.within;
          are_true = evicted_all (IsTrueOf (told_of (tables_of db c.version))) place gs here.are_true;
        }),
      );
}) (λ h f told is.
    let gs = c.store.regions in
    let are = are_classes c.schema h.marks h.queries gs (have-first c.schema f.tables) f.store.each f.store.order f.keeps in
    let own = have_classes c.schema h.marks h.queries gs f.store.order f.keeps in (
      (is.0, evicted_all (IsTrueOf told) place gs is.1),
      evicts (map class_of gs) (class_of g) (drop_of Asked g) (ap (out_of h.meaning) out) are (at-place gs place g there) (drop_at c.schema h.marks h.queries Asked gs place g there f.store.each own),
    )) stands
