-- The centres of a query's rects are those of what its parts mean.
use Rattle.std.proofs.Common.{◌≡◌, true, List, [], ◌∷◌, ◌++◌, refl, sym, subst, inl, inr}
use Rattle.std.specs.List.{list_all}
use Rattle.sr_cell.specs.declared.table.Table.{Table}
use Rattle.sr_cell.specs.Columns.{table_at}
use Rattle.sr_box.specs.Points.{Rect, in_any, rect_fits, AreSame}
use Rattle.sr_union.specs.Centre.{centre_of, centre_from}
use Rattle.sr_model.specs.Queries.{points_of}
use Rattle.sr_model.specs.Queries as model
use Rattle.sr_query.specs.Bound.{IsPart}
use Rattle.sr_policy.specs.declared.policy.Last.{Last}
use Rattle.sr_history.specs.Victims.{AreLast}
use Rattle.sr_store.specs.Fitted.{last_of, lasts_of}
use Rattle.sr_store.specs.Laws.{LastsAreLast}

-- one part more, in front
last-first : (schema : List Table) (m : model.Part) (meant : List model.Part) (rects : List Rect) (others : List Last)
    → list_all (rect_fits (table_at schema m.table).columns) rects ≡ true → AreSame (table_at schema m.table).columns (in_any rects) (points_of m) → AreLast schema meant others
    → AreLast schema (m ∷ meant) (last_of m.table (centre_of (table_at schema m.table).columns rects) ++ others)
last-first schema m meant [] others fits same rest = inl ((λ p point. sym (same p point)), rest)
last-first schema m meant (r ∷ rects) others fits same rest =
    inr (centre_from (table_at schema m.table).columns r rects, others, (r ∷ rects, fits, same, refl), refl, rest)

pub lasts_are_last : LastsAreLast
lasts_are_last schema [] [] tables are = refl
lasts_are_last schema [] (m ∷ meant) tables are = absurd are
lasts_are_last schema (part ∷ parts) [] tables are = absurd are
lasts_are_last schema (part ∷ parts) (m ∷ meant) tables are =
    let is : IsPart schema part m = are.0 in
    subst (λ t. AreLast schema (m ∷ meant) (last_of t (centre_of (table_at schema t).columns part.rects) ++ lasts_of schema parts)) (sym is.table)
    (last-first schema m meant part.rects (lasts_of schema parts) is.rects.fits is.rects.points (lasts_are_last schema parts meant tables are.1))
