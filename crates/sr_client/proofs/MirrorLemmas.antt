-- The regions of a client are as its mirror says.
use Rattle.std.proofs.Common.{◌≡◌, ℕ, ◌+◌, Bool, true, false, List, [], ◌∷◌, refl, subst, arith}
use Rattle.std.specs.Prelude.{if◌then◌else◌}
use Rattle.std.proofs.lemmas.Bool.Decides.{nat_tests}
use Rattle.std.proofs.lemmas.List.Elements.{All-nil, All-cons}
use Rattle.sr_cell.specs.declared.table.Table.{Table}
use Rattle.sr_cell.specs.Cells.{Row}
use Rattle.sr_cell.specs.Columns.{table_at, is_point}
use Rattle.sr_box.specs.Points.{in_any, times}
use Rattle.sr_union.proofs.Times.{in_any-times}
use Rattle.sr_history.specs.declared.mark.Mark.{Mark}
use Rattle.sr_history.specs.Marks.{is_held}
use Rattle.sr_history.specs.Classes.{stamp}
use Rattle.sr_region.specs.declared.region.Region.{Region}
use Rattle.sr_store.specs.Classes.{Stamps, Keeps, occurs, is_of}
use Rattle.sr_session.specs.Sessions.{Database}
use Rattle.sr_session.specs.Places.{Places, held}
use Rattle.sr_session.specs.Clients.{mirror_of}
use Rattle.sr_session.specs.Regions.{AreAt, LieIn}
use Rattle.sr_client.specs.declared.client.Client.{Client}
use Rattle.sr_client.specs.Stands.{Hidden, Facts, past_of}
use Rattle.sr_client.proofs.OverLemmas.{on, IsHere}

-- the points of a region are among these
abbrev Lies : List Table → Places → Region → Type 0
Lies schema places region = (p : Row) → is_point (table_at schema region.table).columns p ≡ true → in_any region.rects p ≡ true → places region.table region.attrs p ≡ true

-- a point in the rects of the first region occurs
first-occurs : (g : Region) (gs : List Region) (p : Row) → in_any g.rects p ≡ true → occurs (g ∷ gs) g.table g.attrs p ≡ 0 → ⊥
first-occurs g gs p inside none = by (times g.rects p) (occurs gs g.table g.attrs p) some (subst (λ b. (if b then times g.rects p else 0) + occurs gs g.table g.attrs p ≡ 0) own none)
  where
    own : is_of g g.table g.attrs ≡ true
    own = grind (arith, nat_tests)

    some : times g.rects p ≡ 0 → ⊥
    some zero_is = let x = in_any-times g.rects p in absurd (grind (arith, nat_tests, x, inside, zero_is))

    by : (n m : ℕ) → (n ≡ 0 → ⊥) → n + m ≡ 0 → ⊥
    by n m some none = some (omega (arith, none))

-- each point of the regions is held, where they are among regions that keep what is held
lies-of : (schema : List Table) (marks : List Mark) (gs : List Region) → ((t a : ℕ) (p : Row) → is_point (table_at schema t).columns p ≡ true → (occurs gs t a p ≡ 0 → ⊥) → is_held marks t a p ≡ true) → LieIn schema (held marks) gs
lies-of schema marks [] each = All-nil (Lies schema (held marks))
lies-of schema marks (g ∷ gs) each =
    All-cons (Lies schema (held marks)) g gs
    (λ p point inside. each g.table g.attrs p point (first-occurs g gs p inside))
    (lies-of schema marks gs (λ t a p point some. each t a p point (λ none. some (less (if is_of g t a then times g.rects p else 0) (occurs gs t a p) none))))
  where
    less : (n m : ℕ) → n + m ≡ 0 → m ≡ 0
    less n m e = omega (arith, e)

pub lie-in : (schema : List Table) (marks : List Mark) (stamps : Stamps) (gs : List Region) → Keeps schema (is_held marks) stamps gs → LieIn schema (held marks) gs
lie-in schema marks stamps gs keeps = lies-of schema marks gs (λ t a p point some. by (is_held marks t a p) (occurs gs t a p) (keeps.points t a p point) some)
  where
    by : (b : Bool) (n : ℕ) → n ≡ (if b then 1 else 0) → (n ≡ 0 → ⊥) → b ≡ true
    by true n e some = refl
    by false n e some = absurd (some e)

pub at-mirror : (c : Client) (h : Hidden) (db : Database) → Facts c h → IsHere db c → AreAt (on c db) (mirror_of (past_of c h)) c.store.regions
at-mirror c h db f here = record { store = f.store; lie = lie-in c.schema h.marks (stamp h.queries) c.store.regions f.keeps; are_true = here.are_true }
