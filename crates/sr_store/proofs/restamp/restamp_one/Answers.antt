use Rattle.std.proofs.Common.{◌≡◌, ◌<◌, ◌++◌, true, sym, subst}
use Rattle.std.specs.List.{list_all}
use Rattle.std.proofs.lemmas.Result.{on_ok_weaker}
use Rattle.sr_cell.specs.Columns.{table_at}
use Rattle.sr_box.specs.Points.{rect_fits, constrains_only}
use Rattle.sr_union.specs.Grid.{grid}
use Rattle.sr_store.specs.Renewing.{pieces_of}
use Rattle.sr_store.specs.Making.{AddsHalves}
use Rattle.sr_store.proofs.Touching.{touching_fits, touching_only}
use Rattle.sr_store.proofs.Restamping.{restamped_one}
use Rattle.sr_store.proofs.restamp.restamp_one.Goals as goal

pub push_split-requires-clause-fit : goal.push_split-requires-clause-fit
push_split-requires-clause-fit c =
    let region = c.args.region in
    let fit = touching_fits c.args.schema.now c.args.parts.now region.table region.attrs c.requires.fit in
    subst (λ t. list_all (rect_fits t.columns) c.in_ok-rects.rects ≡ true) (sym c.table_at-table.ensures.found)
    (subst (λ rects. list_all (rect_fits (table_at c.args.schema.now region.table).columns) rects ≡ true) (sym c.in_ok-rects.ensures) fit)

pub push_split-requires-clause-only : goal.push_split-requires-clause-only
push_split-requires-clause-only c =
    let region = c.args.region in
    subst (λ rects. list_all (constrains_only region.attrs 0) rects ≡ true) (sym c.in_ok-rects.ensures) (touching_only c.args.parts.now region.table region.attrs c.requires.only)

pub returns-clause-restamped : goal.returns-clause-restamped
returns-clause-restamped c =
    let schema = c.args.schema.now in
    let parts = c.args.parts.now in
    let region = c.args.region in
    let t = table_at schema region.table in
    let fit = touching_fits schema parts region.table region.attrs c.requires.fit in
    let only = touching_only parts region.table region.attrs c.requires.only in
    on_ok_weaker c.push_split.result
    (λ adds.
    let there = subst (λ t. AddsHalves t c.args.number region c.in_ok-rects.rects c.args.pieces.now c.push_split.new.pieces) c.table_at-table.ensures.found adds in
    let halves = subst (λ rects. AddsHalves t c.args.number region rects c.args.pieces.now c.push_split.new.pieces) c.in_ok-rects.ensures there in
    (pieces_of c.args.number halves.1 halves.0, halves.4, restamped_one schema c.args.number parts region halves.0 halves.1 c.requires.region fit only halves.2 halves.3))
    c.push_split.ensures.halves

pub returns-clause-over : goal.returns-clause-over
returns-clause-over c = λ e.
    let schema = c.args.schema.now in
    let region = c.args.region in
    let large = subst (λ t. 16384 < grid t.columns (region.rects ++ c.in_ok-rects.rects)) c.table_at-table.ensures.found (c.push_split.ensures.over e) in
    subst (λ rects. 16384 < grid (table_at schema region.table).columns (region.rects ++ rects)) c.in_ok-rects.ensures large
