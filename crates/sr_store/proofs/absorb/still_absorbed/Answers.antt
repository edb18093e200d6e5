use Rattle.std.proofs.Common.{◌≡◌, drop, false, ◌∷◌, [], ◌+◌, ◌∙◌, sym, ap, subst, arith, slice_index_or}
use Rattle.std.proofs.lemmas.List.{drop_more, drop_all}
use Rattle.std.proofs.lemmas.Slice.Zip.{AllZip-long}
use Rattle.sr_store.specs.Answered.{AreFlags}
use Rattle.sr_store.specs.Making.{IsAbsorbedBy, IsKeptOr}
use Rattle.sr_store.proofs.Making.{completes_more, completes_all}
use Rattle.sr_store.proofs.Partings.{zip_at}
use Rattle.sr_store.proofs.absorb.still_absorbed.Goals as goal

pub bounds-met-i : goal.bounds-met-i
bounds-met-i c =
    let long = AllZip-long (IsKeptOr c.args.schema.now c.args.still.now c.args.news.now) c.args.met.now c.args.still.now c.requires.others in
    let below = c.loop-i-test.true in
    omega (arith, long, below)

pub push_absorbed-requires-clause-other : goal.push_absorbed-requires-clause-other
push_absorbed-requires-clause-other c =
    let Kept = IsKeptOr c.args.schema.now c.args.still.now c.args.news.now in
    let long = AllZip-long Kept c.args.met.now c.args.still.now c.requires.others in
    let below = c.loop-i-test.true in
    subst (λ g. IsKeptOr c.args.schema.now c.args.still.now c.args.news.now (slice_index_or c.args.met.now c.loop-i.i false) g) (sym c.index-still-i.is)
    (zip_at Kept c.args.met.now c.args.still.now c.loop-i.i false c.index-still-i.result c.requires.others (omega (arith, long, below)))

pub loop-i-preserved : goal.loop-i-preserved
loop-i-preserved c =
    let gs = c.args.still.now in
    let i = c.loop-i.i in
    let g = c.index-still-i.result in
    let first : drop i gs ≡ g ∷ drop (i + 1) gs = drop_more gs i g c.loop-i-test.true ∙ ap (λ g. g ∷ drop (i + 1) gs) (sym c.index-still-i.is) in
    let flag = c.in_ok-push_absorbed.ensures in
    completes_more (λ gs fs. AreFlags (IsAbsorbedBy c.args.schema.now c.args.still.now c.args.news.now) fs gs) gs c.loop-i.flags (flag.0 ∷ []) c.push_absorbed.new.flags
    g (drop i gs) (drop (i + 1) gs) first flag.2 (λ more h. (flag.1, h)) c.loop-i.invariant

pub returns : goal.returns
returns c =
    let none = drop_all c.loop-i.i c.args.still.now c.loop-i-test.false in
    record {
      flags = completes_all (λ gs fs. AreFlags (IsAbsorbedBy c.args.schema.now c.args.still.now c.args.news.now) fs gs) c.args.still.now c.loop-i.flags (drop c.loop-i.i c.args.still.now) none tt c.loop-i.invariant;
    }
