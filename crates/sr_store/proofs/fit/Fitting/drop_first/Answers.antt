use Rattle.std.proofs.Common.{◌≡◌, ◌∷◌, ◌++◌, ◌+◌, [], ◌∙◌, ◌<◌, length, take, drop, refl, sym, ap, subst, arith}
use Rattle.std.specs.List.{AllZip}
use Rattle.std.proofs.lemmas.Result.{on_ok_weaker}
use Rattle.std.proofs.lemmas.Slice.Zip.{AllZip-long}
use Rattle.sr_policy.specs.Order.{IsVictim}
use Rattle.sr_store.specs.Fitted.{IsViewOf}
use Rattle.sr_store.proofs.Views.{zip_none, zip_without, victim_within}
use Rattle.sr_store.proofs.fit.Fitting.drop_first.Goals as goal

pub remove-region-requires : goal.remove-region-requires
remove-region-requires c =
    let gs = c.args.self.now.regions in
    let views = c.args.self.now.views in
    let within : c.in-Some.number < length views = victim_within c.args.policy c.args.last.now views c.as_slice.result.now c.in-Some.number c.as_slice.ensures c.in-Some.ensures.first in
    let long : length views ≡ length gs = AllZip-long (IsViewOf c.requires.seen.0) gs views c.requires.seen.1 in
    omega (arith, within, long)

pub unreachable-requires : goal.unreachable-requires
unreachable-requires c =
    let none : c.as_slice.result.now ≡ [] = c.in-None.ensures.none.0 refl in
    c.requires.some (zip_none (IsViewOf c.requires.seen.0) c.args.self.now.regions c.args.self.now.views c.requires.seen.1 (sym c.as_slice.ensures ∙ none))

pub returns : goal.returns
returns c = λ schema seen.
    let gs = c.args.self.now.regions in
    let views = c.args.self.now.views in
    let number = c.in-Some.number in
    on_ok_weaker c.push.result
    (λ pushed. record {
      number = number;
      region = c.remove-region.result;
      first = record {
        there = c.remove-region.ensures.taken;
        views = views;
        seen = seen;
        victim = subst (λ vs. IsVictim c.args.policy c.args.last.now vs number) c.as_slice.ensures c.in-Some.ensures.first;
      };
      left = c.remove-region.ensures.removed;
      marks = pushed ∙ ap (λ d. c.args.self.now.marks ++ d ∷ []) c.drop_mark.ensures;
      seen = subst (λ vs. AllZip (IsViewOf schema) c.remove-region.new.self vs) (sym c.remove.ensures.removed)
          (subst (λ gs. AllZip (IsViewOf schema) gs (take number views ++ drop (number + 1) views)) (sym c.remove-region.ensures.removed) (zip_without (IsViewOf schema) gs views number seen));
    })
    c.push.ensures.pushed
