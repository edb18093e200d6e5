use Rattle.std.proofs.Common.{◌≡◌, ◌+◌, [], ◌∷◌, ◌++◌, length, refl, sym, ◌∙◌, ap}
use Rattle.sr_box.specs.Points.{rect_fits}
use Rattle.sr_union.specs.Pieces.{rect_minus}
use Rattle.sr_union.proofs.Searching.{ends, fits_at, goes_on, goes_on_wide, popped_wide, smaller, start_same, start_wide}
use Rattle.sr_union.proofs.search.covers.Goals as goal

pub returns-in-None : goal.returns-in-None
returns-in-None c =
    sym (ends c.args.columns.now c.args.others.now c.loop-next.todo c.pop.new.self c.in-Some.next c.in-Some.ensures.taken c.in-None.ensures.none) ∙ c.loop-next.invariant.same

pub loop-next-init : goal.loop-next-init
loop-next-init c =
    let todo : c.push.new.self ≡ record { rect = c.in_ok-copy.copy; from = 0 } ∷ [] = c.in_ok-push.ensures.pushed ∙ ap (λ l. l ++ record { rect = c.in_ok-copy.copy; from = 0 } ∷ []) c.new-todo.ensures in
    record {
      same = start_same c.args.columns.now c.args.others.now c.args.rect.now c.in_ok-copy.copy c.push.new.self c.in_ok-copy.ensures todo;
      wide = start_wide c.args.columns.now c.args.rect.now c.in_ok-copy.copy c.push.new.self c.requires.fits c.in_ok-copy.ensures todo;
    }

pub push_pieces-requires-clause-width : goal.push_pieces-requires-clause-width
push_pieces-requires-clause-width c = (popped_wide (length c.args.columns.now) c.loop-next.todo c.pop.new.self c.in-Some.next c.in-Some.ensures.taken c.loop-next.invariant.wide).1

pub push_pieces-requires-clause-fits : goal.push_pieces-requires-clause-fits
push_pieces-requires-clause-fits c =
    ap (rect_fits c.args.columns.now) c.index-others-at.is ∙ fits_at c.args.columns.now c.args.others.now c.in-Some-first_met.at c.index-others-at.result c.requires.others_fit c.in-Some-first_met.ensures.within

pub loop-next-smaller : goal.loop-next-smaller
loop-next-smaller c =
    let q = c.index-others-at.result in
    smaller c.args.columns.now c.args.others.now c.loop-next.todo c.pop.new.self c.push_pieces.new.todo c.in-Some.next c.in-Some-first_met.at q (rect_minus c.args.columns.now c.in-Some.next.rect q)
    c.in-Some.ensures.taken c.in-Some-first_met.ensures.within c.in-Some-first_met.ensures.met c.index-others-at.is refl c.in_ok-push_pieces-in-Some-first_met.ensures

pub loop-next-preserved : goal.loop-next-preserved
loop-next-preserved c =
    let q = c.index-others-at.result in
    let pieces = rect_minus c.args.columns.now c.in-Some.next.rect q in
    let next = c.in_ok-push_pieces-in-Some-first_met.ensures in
    record {
      same = goes_on c.args.columns.now c.args.others.now c.loop-next.todo c.pop.new.self c.push_pieces.new.todo c.in-Some.next c.in-Some-first_met.at q pieces
          c.in-Some.ensures.taken c.in-Some-first_met.ensures.within c.in-Some-first_met.ensures.met c.index-others-at.is refl next ∙ c.loop-next.invariant.same;
      wide = goes_on_wide c.args.columns.now (length c.args.columns.now) c.loop-next.todo c.pop.new.self c.push_pieces.new.todo c.in-Some.next (c.in-Some-first_met.at + 1) q
          c.in-Some.ensures.taken c.loop-next.invariant.wide next;
    }
