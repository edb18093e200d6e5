use Rattle.std.proofs.Common.{rules, ◌≡◌, ℕ, ◌+◌, ◌≤◌, true, List, [], ◌++◌, take, length, map, sym, subst, arith}
use Rattle.std.specs.Prelude.{Some, None}
use Rattle.std.proofs.lemmas.List.{map-append, take_all}
use Rattle.sr_cell.specs.Cells.{Row, cell_at, cell_le}
use Rattle.sr_box.specs.Points.{Rect, in_rect}
use Rattle.sr_tables.proofs.InTurn.{IsFound, found-all, found-more, found-none}
use Rattle.sr_tables.proofs.turns.near_in_turn.Goals as goal

pub loop-i-init : goal.loop-i-init
loop-i-init c =
    let rows = c.args.rows.now in
    subst (λ (found : _). IsFound rows.key rows.rows (map (λ r. r.now) found) [] None) (sym c.new-near.ensures.items) (found-none rows.key rows.rows)

pub loop-i-preserved : goal.loop-i-preserved
loop-i-preserved c =
    let rows = c.args.rows.now in
    let rects : List Rect = c.args.rects.now in
    let i : ℕ = c.loop-i.i in
    let ends = c.in-Some.ends in
    let found : List Row = map (λ r. r.now) c.loop-i.near.items in
    let more : List Row = map (λ r. r.now) c.in_ok-more-in-Some.more.items in
    let lows : (row : Row) → in_rect c.index-rects-i.result row ≡ true → cell_le ends.low (cell_at row rows.key) ≡ true =
    λ row own. subst (λ (k : ℕ). cell_le ends.low (cell_at row k) ≡ true) c.key-key.ensures (c.in-Some.ensures.low row own) in
    let highs : (row : Row) → in_rect c.index-rects-i.result row ≡ true → cell_le (cell_at row rows.key) ends.high ≡ true =
    λ row own. subst (λ (k : ℕ). cell_le (cell_at row k) ends.high ≡ true) c.key-key.ensures (c.in-Some.ensures.high row own) in
    let all : IsFound rows.key rows.rows (found ++ more) (take (i + 1) rects) (Some ends.high) =
    found-more rows.key rows.rows found more rects i c.index-rects-i.result c.loop-i.last ends.low ends.high (search rules) c.index-rects-i.is c.know_ascending.ensures c.loop-i.invariant
    lows highs c.in-Some.ensures.above c.in-Some.ensures.further c.in_ok-more-in-Some.ensures in
    let items : c.append.new.self.items ≡ c.loop-i.near.items ++ c.in_ok-more-in-Some.more.items = c.in_ok-append-in-Some.ensures.items in
    subst (λ (xs : _). IsFound rows.key rows.rows (map (λ r. r.now) xs) (take (i + 1) rects) (Some ends.high)) (sym items)
    (subst (λ (xs : List Row). IsFound rows.key rows.rows xs (take (i + 1) rects) (Some ends.high)) (sym (map-append (λ r. r.now) c.loop-i.near.items c.in_ok-more-in-Some.more.items)) all)

pub returns : goal.returns
returns c =
    let rows = c.args.rows.now in
    let rects : List Rect = c.args.rects.now in
    let past : length rects ≤ c.loop-i.i = (let h = c.loop-i-test.false in omega (arith, h)) in
    found-all rows.key rows.rows (map (λ r. r.now) c.loop-i.near.items) rects c.loop-i.last
    (subst (λ (rs : List Rect). IsFound rows.key rows.rows (map (λ r. r.now) c.loop-i.near.items) rs c.loop-i.last) (take_all c.loop-i.i rects past) c.loop-i.invariant)
