use Rattle.std.proofs.Common.{◌≡◌, ◌∷◌, [], ◌++◌, true, false, refl, sym, ◌∙◌, ap, subst, arith, inl, inr}
use Rattle.sr_union.specs.Pieces.{IsMeet}
use Rattle.sr_union.proofs.Among.{AreCutFrom-fits}
use Rattle.sr_explain.specs.declared.explanation.ProbeView.{ProbeView}
use Rattle.sr_client.specs.Explaining.{AreProbes, nothing, away, probed}
use Rattle.sr_client.proofs.explain.probe_of.Goals as goal

pub returns-then-not-serves : goal.returns-then-not-serves
returns-then-not-serves c =
    let region = c.args.region.now in
    let test = c.if-not-serves.true in
    let other : c.serves.result ≡ false = grind (arith, test) in
    subst (AreProbes c.args.part.now (c.args.region.now ∷ [])) (sym c.new-probes.ensures) (away region [] [] (inl (sym c.serves.ensures ∙ other)) nothing)

pub returns-then-is_empty : goal.returns-then-is_empty
returns-then-is_empty c =
    let region = c.args.region.now in
    let part = c.args.part.now in
    let none : c.in_ok-rects.rects ≡ [] = c.is_empty.ensures.0 c.if-is_empty.true in
    subst (AreProbes c.args.part.now (c.args.region.now ∷ [])) (sym c.new-probes.ensures)
    (away region [] [] (inr (λ columns. subst (IsMeet columns c.args.part.now.rects c.args.region.now.rects) none (c.in_ok-rects.ensures.points columns))) nothing)

pub returns : goal.returns
returns c =
    let region = c.args.region.now in
    let part = c.args.part.now in
    let rects = c.in_ok-rects.rects in
    let probe : ProbeView = record { attrs = region.attrs; stamp = region.stamp; rects = rects } in
    let test = c.if-not-serves.false in
    let own : c.serves.result ≡ true = grind (arith, test) in
    let all = c.in_ok-push.ensures.pushed ∙ ap (λ probes. probes ++ probe ∷ []) c.new-probes.ensures in
    subst (AreProbes c.args.part.now (c.args.region.now ∷ [])) (sym all)
    (probed region [] probe [] (record {
      serves = sym c.serves.ensures ∙ own;
      attrs = refl;
      stamp = refl;
      some = λ none. absurd (let wrong : true ≡ false = sym (c.is_empty.ensures.1 none) ∙ c.if-is_empty.false in cc);
      common = c.in_ok-rects.ensures.points;
      fits = λ columns one other. AreCutFrom-fits columns (part.rects ++ region.rects) rects (c.in_ok-rects.ensures.cuts columns one other);
    }) nothing)
