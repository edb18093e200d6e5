use Rattle.std.proofs.Common.{◌≡◌, ◌+◌, [], ◌∷◌, drop, map, sym, subst, ap, ◌∙◌, arith}
use Rattle.std.specs.List.{All}
use Rattle.std.proofs.lemmas.List.Elements.{All-nil, All-cons, All-head, All-tail}
use Rattle.sr_regions.specs.Touched.{told_one, told_all, count_touched, count_all, IsOfSchema, IsTellOf}
use Rattle.sr_regions.proofs.Places.{next-left}
use Rattle.sr_regions.proofs.Telling.{all-of-schema}
use Rattle.sr_regions.proofs.regions.Regions.apply_counted.Goals as goal

pub tell-requires : goal.tell-requires
tell-requires g c =
    let told = c.args.told.now in
    let i = c.loop-tell.tell-index in
    let tell = c.tell-item.result in
    let schema = c.loop-tell.invariant.tellable.0 in
    let next : drop i told ≡ tell ∷ drop (i + 1) told = next-left told i tell c.loop-tell-test.true c.tell-item.is in
    let tells : All (IsTellOf schema) (tell ∷ drop (i + 1) told) = subst (All (IsTellOf schema)) next c.loop-tell.invariant.tellable.1.1 in
    (schema, (c.loop-tell.invariant.tellable.1.0, All-cons (IsTellOf schema) tell [] (All-head (IsTellOf schema) tell (drop (i + 1) told) tells) (All-nil (IsTellOf schema))))

pub loop-tell-preserved : goal.loop-tell-preserved
loop-tell-preserved g c =
    let told = c.args.told.now in
    let i = c.loop-tell.tell-index in
    let tell = c.tell-item.result in
    let rest = drop (i + 1) told in
    let old = c.loop-tell.self in
    let schema = c.loop-tell.invariant.tellable.0 in
    let next : drop i told ≡ tell ∷ rest = next-left told i tell c.loop-tell-test.true c.tell-item.is in
    let tells : All (IsTellOf schema) (tell ∷ rest) = subst (All (IsTellOf schema)) next c.loop-tell.invariant.tellable.1.1 in
    let is : c.tell.new.self ≡ map (told_one tell) old = c.in_ok-tell.ensures.told in
    let steps = c.in_ok-tell.ensures.counted in
    let so_far = c.loop-tell.invariant.counted in
    let left : count_all rest c.tell.new.self ≡ count_all rest (map (told_one tell) old) = ap (count_all rest) is in
    let all : count_all (drop i told) old ≡ count_touched tell old + count_all rest (map (told_one tell) old) = ap (λ ts. count_all ts old) next in
    record {
      told = ap (told_all rest) is ∙ ap (λ ts. told_all ts old) (sym next) ∙ c.loop-tell.invariant.told;
      counted = omega (arith, steps, so_far, left, all);
      tellable = (
        schema,
        (
          subst (All (IsOfSchema schema)) (sym is) (all-of-schema schema tell old (All-head (IsTellOf schema) tell rest tells) c.loop-tell.invariant.tellable.1.0),
          All-tail (IsTellOf schema) tell rest tells,
        ),
      );
    }

pub returns-in_err-tell-clause-bound : goal.returns-in_err-tell-clause-bound
returns-in_err-tell-clause-bound g c =
    let told = c.args.told.now in
    let i = c.loop-tell.tell-index in
    let tell = c.tell-item.result in
    let rest = drop (i + 1) told in
    let old = c.loop-tell.self in
    let next : drop i told ≡ tell ∷ rest = next-left told i tell c.loop-tell-test.true c.tell-item.is in
    let steps = c.tell.ensures.bound in
    let so_far = c.loop-tell.invariant.counted in
    let all : count_all (drop i told) old ≡ count_touched tell old + count_all rest (map (told_one tell) old) = ap (λ ts. count_all ts old) next in
    omega (arith, steps, so_far, all)
