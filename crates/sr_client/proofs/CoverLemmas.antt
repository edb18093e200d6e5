-- What regions cover of a part.
use Rattle.std.proofs.Common.{◌≡◌, Bool, true, false, List, [], ◌∙◌, ap, subst, arith, ℕ, ◌∷◌}
use Rattle.std.specs.Prelude.{not, ◌&&◌, ◌||◌}
use Rattle.std.proofs.lemmas.List.Elements.{All-nil}
use Rattle.std.specs.List.{AllZip, list_all}
use Rattle.std.proofs.lemmas.Bool.{and_parts}
use Rattle.sr_lines.specs.Sound.{is_sound_part}
use Rattle.sr_message.specs.declared.message.AskPart.{AskPart}
use Rattle.sr_cell.specs.declared.table.Table.{Table}
use Rattle.sr_cell.specs.Cells.{Row}
use Rattle.sr_cell.specs.Columns.{table_at, is_point}
use Rattle.sr_box.specs.Points.{in_any, HasNoPoint}
use Rattle.sr_model.specs.Queries as model
use Rattle.sr_model.specs.Queries.{points_of, rows_at}
use Rattle.sr_model.specs.Statements.{Tables}
use Rattle.sr_query.specs.Bound.{IsPart}
use Rattle.sr_query.specs.declared.query.Part.{Part}
use Rattle.sr_history.specs.declared.mark.Mark.{Mark}
use Rattle.sr_history.specs.Marks.{is_held, is_covered}
use Rattle.sr_history.specs.Rests.{rest_of, covered, Asks, nothing, asked}
use Rattle.sr_region.specs.declared.region.Region.{Region}
use Rattle.sr_store.specs.Classes.{Stamps, Keeps}
use Rattle.sr_store.specs.Stores.{cover_of}
use Rattle.sr_store.proofs.Covering.{cover_is}
use Rattle.sr_store.specs.Told.{told_of}
use Rattle.sr_client.specs.Answering.{is_kept, is_new, IsThere, Suits}
use Rattle.sr_client.proofs.MeantLemmas.{part-points, part-over}
use Rattle.sr_client.proofs.Calls.{none-arrived}

-- what is covered, as the regions say it
pub covered-of : (schema : List Table) (marks : List Mark) (stamps : Stamps) (regions : List Region) (part : Part) (m : model.Part) (p : Row) → Keeps schema (is_held marks) stamps regions → IsPart schema part m
    → is_point (table_at schema part.table).columns p ≡ true → in_any (cover_of part regions) p ≡ is_covered marks m.table m.need p
covered-of schema marks stamps regions part m p keeps is point =
    cover_is schema marks stamps regions part p keeps point ∙ (ap (λ t. is_covered marks t part.need p) is.table ∙ ap (λ n. is_covered marks m.table n p) is.need)

-- where nothing is left of a part, its points are kept
pub kept-all : (schema : List Table) (marks : List Mark) (stamps : Stamps) (regions : List Region) (part : Part) (m : model.Part) → Keeps schema (is_held marks) stamps regions → IsPart schema part m
    → HasNoPoint (table_at schema m.table).columns (rest_of marks m) → (p : Row) → is_point (table_at schema part.table).columns p ≡ true
    → (is_kept part regions p || is_new part [] p) ≡ points_of m p
kept-all schema marks stamps regions part m keeps is none p point =
    let inside = part-points schema part m is p point in
    let covered = covered-of schema marks stamps regions part m p keeps is point in
    let free : (points_of m p && not (is_covered marks m.table m.need p)) ≡ false = none p (subst (λ t. is_point (table_at schema t).columns p ≡ true) is.table point) in
    rw (inside, covered) (by (points_of m p) (is_covered marks m.table m.need p) free)
  where
    by : (i c : Bool) → (i && not c) ≡ false → ((i && c) || (i && false)) ≡ i
    by i c h = grind (arith, h)

-- where nothing is left to ask of parts, all their points are held
pub all-held : (schema : List Table) (tables : Tables) (marks : List Mark) (stamps : Stamps) (regions : List Region) (parts : List Part) (meant : List model.Part) (asks : List AskPart) → Asks schema marks meant asks → asks ≡ []
    → ((t : ℕ) → list_all (is_point (table_at schema t).columns) (rows_at tables t) ≡ true) → Keeps schema (is_held marks) stamps regions → AllZip (IsPart schema) parts meant
    → list_all (is_sound_part schema) meant ≡ true → AllZip (IsThere schema tables regions []) parts meant
all-held schema tables marks stamps regions [] meant asks nothing none points keeps zip sound = tt
all-held schema tables marks stamps regions (p ∷ parts) meant asks nothing none points keeps zip sound = absurd zip
all-held schema tables marks stamps regions [] meant asks (covered m others more free rest) none points keeps zip sound = absurd zip
all-held schema tables marks stamps regions (p ∷ parts) meant asks (covered m others more free rest) none points keeps zip sound =
    let s = and_parts (is_sound_part schema m) (list_all (is_sound_part schema) others) sound in (
      record {
        over = part-over schema tables p m zip.0 s.0 points;
        brings = record { suit = All-nil (Suits schema p); arrived = none-arrived (told_of tables) };
        points = kept-all schema marks stamps regions p m keeps zip.0 free;
      },
      all-held schema tables marks stamps regions parts others more rest none points keeps zip.1 s.1,
    )
all-held schema tables marks stamps regions parts meant asks (asked m others ask more is rest) none points keeps zip sound = absurd (cc)
