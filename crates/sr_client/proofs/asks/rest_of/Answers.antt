use Rattle.std.proofs.Common.{◌≡◌, ◌<◌, ◌≤◌, ◌∷◌, [], ◌++◌, ◌∙◌, sym, subst, ap, true, arith}
use Rattle.std.specs.List.{list_all}
use Rattle.sr_box.specs.Points.{rect_fits, times, HasNoPoint}
use Rattle.sr_cell.specs.declared.table.Table.{Table}
use Rattle.sr_cell.specs.Cells.{Row}
use Rattle.sr_cell.specs.Columns.{table_at, is_point}
use Rattle.sr_message.specs.Sizes.{count_asked}
use Rattle.sr_union.specs.Grid.{AreCutFrom, grid}
use Rattle.sr_union.proofs.Once.{err_same}
use Rattle.sr_union.specs.Pieces.{near}
use Rattle.sr_union.proofs.Meets.{near-fits}
use Rattle.sr_trim.specs.Left.{left_over}
use Rattle.sr_store.specs.Stores.{cover_of}
use Rattle.sr_client.specs.Asking.{AsksRest}
use Rattle.sr_client.specs.Cutting.{AreCutAlong, grid_of_part}
use Rattle.sr_client.proofs.Covers.{cover-fits}
use Rattle.sr_client.proofs.AskLemmas.{IsTrimmed, trimmed-same, asks-rest, rest-along, entry-count, sound-one, leaves-one}
use Rattle.sr_client.proofs.Nearing.{near-left, near-cuts, rest-within, over-within}
use Rattle.sr_client.proofs.TableLemmas.{have-first}
use Rattle.sr_client.proofs.asks.rest_of.Goals as goal

pub table_at-table-requires-clause-within : goal.table_at-table-requires-clause-within
table_at-table-requires-clause-within c = (sound-one c.args.schema.now c.args.part.now c.requires.meant).within

pub trim-trimmed-requires-clause-part_fits : goal.trim-trimmed-requires-clause-part_fits
trim-trimmed-requires-clause-part_fits c =
    let sound = sound-one c.args.schema.now c.args.part.now c.requires.meant in
    subst (λ (t : Table). list_all (rect_fits t.columns) c.args.part.now.rects ≡ true) (sym c.table_at-table.ensures.found) sound.fits

pub trim-trimmed-requires-clause-cover_fits : goal.trim-trimmed-requires-clause-cover_fits
trim-trimmed-requires-clause-cover_fits c =
    let table = c.table_at-table.ensures.found in
    let fits = cover-fits c.args.schema.now c.args.part.now c.args.store.now.regions c.requires.store.each in
    let close = near-fits (table_at c.args.schema.now c.args.part.now.table).columns c.args.part.now.rects (cover_of c.args.part.now c.args.store.now.regions) fits in
    subst (λ rects. list_all (rect_fits c.table_at-table.result.now.columns) rects ≡ true) (sym c.in_ok-cover.ensures)
    (subst (λ (t : Table). list_all (rect_fits t.columns) (near c.args.part.now.rects (cover_of c.args.part.now c.args.store.now.regions)) ≡ true) (sym table) close)

pub returns-in_ok-entry_of-in-Ok-clause-asks : goal.returns-in_ok-entry_of-in-Ok-clause-asks
returns-in_ok-entry_of-in-Ok-clause-asks c =
    let table = c.table_at-table.ensures.found in
    let trimmed : IsTrimmed c.table_at-table.result.now.columns c.args.part.now.need (left_over c.args.part.now.rects c.in_ok-cover.cover) c.in-Ok.trimmed.attrs c.in-Ok.trimmed.rest =
    record { fits = c.in-Ok.ensures.fits; points = c.in-Ok.ensures.points; bound = c.in-Ok.ensures.bound; shipped = c.in-Ok.ensures.columns; empty = c.in-Ok.ensures.empty; some = c.in-Ok.ensures.some } in
    let of_table = subst (λ (t : Table). IsTrimmed t.columns c.args.part.now.need (left_over c.args.part.now.rects c.in_ok-cover.cover) c.in-Ok.trimmed.attrs c.in-Ok.trimmed.rest) table trimmed in
    let of_cover = subst (λ rects. IsTrimmed (table_at c.args.schema.now c.args.part.now.table).columns c.args.part.now.need (left_over c.args.part.now.rects rects) c.in-Ok.trimmed.attrs c.in-Ok.trimmed.rest)
    c.in_ok-cover.ensures of_table in
    let all = cover_of c.args.part.now c.args.store.now.regions in
    let of_all = trimmed-same (table_at c.args.schema.now c.args.part.now.table).columns c.args.part.now.need (left_over c.args.part.now.rects (near c.args.part.now.rects all))
    (left_over c.args.part.now.rects all) c.in-Ok.trimmed.attrs c.in-Ok.trimmed.rest (λ p point. near-left c.args.part.now.rects all p) of_cover in
    subst (AsksRest c.args.schema.now c.args.store.now.regions (c.args.part.now ∷ [])) (sym c.in_ok-entry_of-in-Ok.ensures)
    (asks-rest c.args.schema.now c.args.store.now.regions c.args.part.now c.in-Ok.trimmed.attrs c.in-Ok.trimmed.rest of_all)

pub returns-in_ok-entry_of-in-Ok-clause-cuts : goal.returns-in_ok-entry_of-in-Ok-clause-cuts
returns-in_ok-entry_of-in-Ok-clause-cuts c =
    let s = c.args.schema.now in
    let gs = c.args.store.now.regions in
    let part = c.args.part.now in
    let sound = sound-one s part c.requires.meant in
    let table = c.table_at-table.ensures.found in
    let cut = subst (λ (t : Table). AreCutFrom t.columns (part.rects ++ c.in_ok-cover.cover) c.in-Ok.trimmed.rest) table c.in-Ok.ensures.cuts in
    let of_cover = subst (λ rects. AreCutFrom (table_at s part.table).columns (part.rects ++ rects) c.in-Ok.trimmed.rest) c.in_ok-cover.ensures cut in
    let fits = cover-fits s part gs c.requires.store.each in
    let of_all = near-cuts (table_at s part.table).columns part.rects (cover_of part gs) c.in-Ok.trimmed.rest sound.fits fits of_cover in
    subst (AreCutAlong s gs (part ∷ [])) (sym c.in_ok-entry_of-in-Ok.ensures) (rest-along s gs part c.in-Ok.trimmed.attrs c.in-Ok.trimmed.rest of_all)

pub returns-in_ok-entry_of-in-Ok-clause-rects : goal.returns-in_ok-entry_of-in-Ok-clause-rects
returns-in_ok-entry_of-in-Ok-clause-rects c =
    let count = entry-count c.args.part.now.table c.in-Ok.trimmed.attrs c.in-Ok.trimmed.rest in
    subst (λ asks. count_asked asks ≤ c.args.room) (sym c.in_ok-entry_of-in-Ok.ensures) (omega (arith, count, c.in-Ok.ensures.few))

pub returns-in_ok-entry_of-in-Ok-clause-grid : goal.returns-in_ok-entry_of-in-Ok-clause-grid
returns-in_ok-entry_of-in-Ok-clause-grid c =
    let s = c.args.schema.now in
    let gs = c.args.store.now.regions in
    let part = c.args.part.now in
    let rest = c.in-Ok.trimmed.rest in
    let sound = sound-one s part c.requires.meant in
    let table = c.table_at-table.ensures.found in
    let cut = subst (λ (t : Table). AreCutFrom t.columns (part.rects ++ c.in_ok-cover.cover) rest) table c.in-Ok.ensures.cuts in
    let of_cover = subst (λ rects. AreCutFrom (table_at s part.table).columns (part.rects ++ rects) rest) c.in_ok-cover.ensures cut in
    let once = subst (λ (t : Table). (p : Row) → is_point t.columns p ≡ true → times rest p ≤ 1) table c.in-Ok.ensures.once in
    let none : part.rects ≡ [] → rest ≡ [] = λ none. c.in-Ok.ensures.empty.1 (λ p point. ap (λ rects. left_over rects c.in_ok-cover.cover p) none) in
    let few = rest-within (table_at s part.table).columns part.rects (cover_of part gs) rest (have-first s c.requires.tables part.table) sound.fits (cover-fits s part gs c.requires.store.each) of_cover once none in
    let count = entry-count part.table c.in-Ok.trimmed.attrs rest in
    subst (λ asks. count_asked asks ≤ grid_of_part s gs part) (sym c.in_ok-entry_of-in-Ok.ensures) (omega (arith, count, few))

pub returns-in-Err-clause-over : goal.returns-in-Err-clause-over
returns-in-Err-clause-over c = λ e.
    let s = c.args.schema.now in
    let gs = c.args.store.now.regions in
    let part = c.args.part.now in
    let sound = sound-one s part c.requires.meant in
    let table = c.table_at-table.ensures.found in
    let refused = err_same c.in-Err.no _ e in
    let of_table = subst (λ (t : Table). c.args.room < grid t.columns (part.rects ++ c.in_ok-cover.cover)) table (c.in-Err.ensures.over refused) in
    let of_cover = subst (λ rects. c.args.room < grid (table_at s part.table).columns (part.rects ++ rects)) c.in_ok-cover.ensures of_table in
    over-within (table_at s part.table).columns part.rects (cover_of part gs) c.args.room sound.fits (cover-fits s part gs c.requires.store.each)
    (λ none. c.in-Err.ensures.over_left refused (λ p point. ap (λ rects. left_over rects c.in_ok-cover.cover p) none)) of_cover

pub returns-in-Err-clause-over_left : goal.returns-in-Err-clause-over_left
returns-in-Err-clause-over_left c = λ e.
    let s = c.args.schema.now in
    let gs = c.args.store.now.regions in
    let part = c.args.part.now in
    let table = c.table_at-table.ensures.found in
    let of_table = subst (λ (t : Table). HasNoPoint t.columns (left_over part.rects c.in_ok-cover.cover) → ⊥) table (c.in-Err.ensures.over_left (err_same c.in-Err.no _ e)) in
    let of_cover = subst (λ rects. HasNoPoint (table_at s part.table).columns (left_over part.rects rects) → ⊥) c.in_ok-cover.ensures of_table in
    leaves-one s gs part (λ none. of_cover (λ p point. near-left part.rects (cover_of part gs) p ∙ none p point))
