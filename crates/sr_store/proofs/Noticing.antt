-- What notices of the changes of a version do to regions.
use Rattle.std.proofs.Common.{◌≡◌, ℕ, ◌+◌, Bool, true, false, cond, List, [], ◌∷◌, map, refl, sym, ap, subst, ◌∙◌, arith}
use Rattle.std.specs.Prelude.{filter}
use Rattle.std.specs.List.{list_all, All}
use Rattle.std.proofs.lemmas.List.Elements.{All-nil, All-cons, All-head, All-tail, All-filter, All-weaker, All-map}
use Rattle.sr_cell.specs.declared.change.Change.{Change}
use Rattle.sr_cell.specs.declared.table.Column.{Column}
use Rattle.sr_cell.specs.declared.table.Table.{Table}
use Rattle.sr_cell.specs.Attrs.{project}
use Rattle.sr_cell.specs.Cells.{Row}
use Rattle.sr_cell.specs.Columns.{table_at, is_point}
use Rattle.sr_message.specs.declared.message.Tell.{Tell}
use Rattle.sr_message.specs.Tells.{tell_of}
use Rattle.sr_model.specs.Changes.{changes}
use Rattle.sr_model.specs.Queries.{rows_at}
use Rattle.sr_model.specs.Statements.{Tables}
use Rattle.sr_box.specs.Points.{Rect, in_any, rect_fits, constrains_only}
use Rattle.sr_region.specs.declared.region.Region.{Region}
use Rattle.sr_region.specs.Regions.{is_in}
use Rattle.sr_region.specs.Applied.{applied_all, IsNew, has_points, concerns, HasItsRows, AreTables}
use Rattle.sr_region.proofs.Parts.{is_in-point}
use Rattle.sr_region.proofs.Changed.{IsChangeOf, all-changes, is-new}
use Rattle.sr_region.proofs.Kept.{keeps}
use Rattle.sr_store.specs.Classes.{IsStamped}
use Rattle.sr_store.specs.Told.{told_of, IsTrueOf, AreTrueOf}
use Rattle.sr_store.specs.Stores.{IsOfSchema}
use Rattle.sr_store.specs.Noticed.{told_to, IsTellOf}
use Rattle.sr_store.specs.Laws.{NoticesKeepTrue, ChangesAreTells, NoticesKeepClasses}
use Rattle.sr_store.proofs.Telling.{only-rows, occurs-told}

-- ---- points and stamps stay

pub notices-classes : NoticesKeepClasses
notices-classes schema held stamps told regions h =
    record { points = λ t a p point. occurs-told told regions t a p ∙ h.points t a p point; stamped = All-map (IsStamped schema stamps) (told_to told) regions stamped }
  where
    stamped : All (λ g. IsStamped schema stamps (told_to told g)) regions
    stamped = All-weaker (IsStamped schema stamps) (λ g. IsStamped schema stamps (told_to told g)) (λ g is. subst (IsStamped schema stamps) (sym (only-rows told g)) is) regions h.stamped

-- ---- what is told of changes

pub changes-tell : ChangesAreTells
unfolding changes
changes-tell schema old new test was is =
    All-map (IsTellOf schema) tell_of (filter test (changes schema old new))
    (All-filter test (λ c. IsTellOf schema (tell_of c)) (changes schema old new)
    (All-weaker (IsChangeOf 0 schema old new) (λ c. IsTellOf schema (tell_of c)) one (changes schema old new) (all-changes 0 schema old new)))
  where
    one : (c : Change) → IsChangeOf 0 schema old new c → IsTellOf schema (tell_of c)
    one c h =
        let k = h.0 in
        let below = h.1 in
        let number : k ≡ c.table = let at = h.2.number in omega (arith, at) in (
          omega (arith, below, number),
          subst (λ n. IsNew (table_at schema n) c.key c.after) number (is-new (table_at schema k) (0 + k) (rows_at old k) (rows_at new k) c h.2 (is.points k)),
        )

pub told-changes : (cs : List Change) (g : Region) → told_to (map tell_of cs) g ≡ applied_all cs g
told-changes [] g = refl
told-changes (c ∷ cs) g = told-changes cs _

-- ---- regions with the rows of the tables

-- of points, the cells of some columns lie in rects where the points do
pub told-in : (cs : List Column) (a : ℕ) (rects : List Rect) (rows : List Row) → list_all (rect_fits cs) rects ≡ true → list_all (constrains_only a 0) rects ≡ true → list_all (is_point cs) rows ≡ true
    → filter (is_in a rects) (map (project a) rows) ≡ map (project a) (filter (in_any rects) rows)
told-in cs a rects [] fit only points = refl
told-in cs a rects (p ∷ rows) fit only points =
    rw (is_in-point cs a rects p fit only (grind arith)) (go (in_any rects p) (told-in cs a rects rows fit only (grind arith)))
  where
    go : (b : Bool) → filter (is_in a rects) (map (project a) rows) ≡ map (project a) (filter (in_any rects) rows)
        → cond b (project a p ∷ filter (is_in a rects) (map (project a) rows)) (filter (is_in a rects) (map (project a) rows)) ≡ map (project a) (cond b (p ∷ filter (in_any rects) rows) (filter (in_any rects) rows))
    go true ih = ap (λ xs. project a p ∷ xs) ih
    go false ih = ih

module _ (schema : List Table) (old new : Tables) (test : Change → Bool) (was : AreTables schema old) (is : AreTables schema new) where
  abbrev told : List Tell
  told = map tell_of (filter test (changes schema old new))

  true-one : (g : Region) → IsOfSchema schema g → ((c : Change) → has_points (table_at schema g.table).columns c ≡ true → concerns g c ≡ true → test c ≡ true)
      → IsTrueOf (told_of old) g → IsTrueOf (told_of new) (told_to told g)
  true-one g h passes own = subst (IsTrueOf (told_of new)) (sym (only-rows told g)) (rows ∙ sym (in_new (rows_at new g.table) (is.points g.table)))
    where
      in_new : (all : List Row) → list_all (is_point (table_at schema g.table).columns) all ≡ true
          → filter (is_in g.attrs g.rects) (map (project g.attrs) all) ≡ map (project g.attrs) (filter (in_any g.rects) all)
      in_new all points = told-in (table_at schema g.table).columns g.attrs g.rects all h.1.area.fit h.1.area.only points

      has : HasItsRows new (applied_all (filter test (changes schema old new)) g)
      has = keeps schema old new test g was is h.0 h.1 passes (own ∙ in_new (rows_at old g.table) (was.points g.table))

      rows : (told_to told g).rows ≡ map (project g.attrs) (filter (in_any g.rects) (rows_at new g.table))
      rows = subst (HasItsRows new) (sym (told-changes (filter test (changes schema old new)) g) ∙ only-rows told g) has

  true-regions : (regions : List Region) → All (IsOfSchema schema) regions
      → All (λ g. (c : Change) → has_points (table_at schema g.table).columns c ≡ true → concerns g c ≡ true → test c ≡ true) regions
      → AreTrueOf (told_of old) regions → AreTrueOf (told_of new) (map (told_to told) regions)
  true-regions [] each passes own = All-nil (IsTrueOf (told_of new))
  true-regions (g ∷ regions) each passes own =
      All-cons (IsTrueOf (told_of new)) (told_to told g) (map (told_to told) regions)
      (true-one g (All-head (IsOfSchema schema) g regions each)
      (All-head (λ g. (c : Change) → has_points (table_at schema g.table).columns c ≡ true → concerns g c ≡ true → test c ≡ true) g regions passes) (All-head (IsTrueOf (told_of old)) g regions own))
      (true-regions regions (All-tail (IsOfSchema schema) g regions each)
      (All-tail (λ g. (c : Change) → has_points (table_at schema g.table).columns c ≡ true → concerns g c ≡ true → test c ≡ true) g regions passes) (All-tail (IsTrueOf (told_of old)) g regions own))

pub notices-true : NoticesKeepTrue
notices-true schema old new test regions was is store passes own = true-regions schema old new test was is regions store.each passes own
