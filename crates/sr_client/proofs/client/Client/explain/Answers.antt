use Rattle.std.proofs.Common.{◌≡◌, [], true, refl, sym, ap, subst, arith, Err}
use Rattle.std.specs.List.{AllZip}
use Rattle.sr_client.specs.Asking.{AreMeant, AsksRest, LeavesRest, whole_asks}
use Rattle.sr_client.specs.Cutting.{IsOver}
use Rattle.sr_client.specs.Explaining.{IsExplained}
use Rattle.sr_client.proofs.ExplainLemmas.{explains-trimmed, explains-whole}
use Rattle.sr_client.proofs.FallLemmas.{fall-length}
use Rattle.sr_client.proofs.MeantLemmas.{are-meant}
use Rattle.sr_client.proofs.client.Client.explain.Goals as goal

pub asks_of-requires-clause-meant : goal.asks_of-requires-clause-meant
asks_of-requires-clause-meant c =
    subst (AreMeant c.args.self.now.schema) (sym c.as_slice-parts.ensures) (are-meant c.args.self.now.schema c.args.query.now c.requires.meant.0 c.requires.meant.1)

pub returns-in_ok-explained-in-Ok-clause-explains : goal.returns-in_ok-explained-in-Ok-clause-explains
returns-in_ok-explained-in-Ok-clause-explains c = λ meaning is.
    let old = c.args.self.now in
    let q = c.args.query.now in
    let asks = c.in-Ok.asks in
    let parts = c.in_ok-explained-in-Ok.field-0 in
    let rest = subst (λ ps. AsksRest old.schema old.store.regions ps asks) c.as_slice-parts.ensures c.in-Ok.ensures.asks in
    let of_asks = subst (λ xs. AllZip (IsExplained c.as_slice.result.now xs) c.as_slice-parts.result.now parts) c.as_slice-in-Ok.ensures c.in_ok-explained-in-Ok.ensures in
    let of_regions = subst (λ gs. AllZip (IsExplained gs asks) c.as_slice-parts.result.now parts) c.as_slice.ensures of_asks in
    explains-trimmed old q meaning _ is refl c.in_ok-victims.ensures asks refl rest (subst (λ ps. AllZip (IsExplained old.store.regions asks) ps parts) c.as_slice-parts.ensures of_regions)

pub returns-in_ok-explained-in-Ok-clause-victims : goal.returns-in_ok-explained-in-Ok-clause-victims
returns-in_ok-explained-in-Ok-clause-victims c =
    let old = c.args.self.now in
    fall-length old.schema old.store.limits.policy old.store.last old.store.regions c.in_ok-victims.victims c.in_ok-victims.ensures

pub returns-in_ok-explained_whole-in-Err-Refused-clause-explains : goal.returns-in_ok-explained_whole-in-Err-Refused-clause-explains
returns-in_ok-explained_whole-in-Err-Refused-clause-explains c = λ meaning is.
    let old = c.args.self.now in
    let q = c.args.query.now in
    let large = subst (IsOver old.schema old.store.regions) c.as_slice-parts.ensures (c.in-Err-Refused.ensures.over (ap Err c.in-Err-Refused.field-0-is)) in
    let left = subst (LeavesRest old.schema old.store.regions) c.as_slice-parts.ensures (c.in-Err-Refused.ensures.over_left (ap Err c.in-Err-Refused.field-0-is)) in
    let parts = subst (λ ps. AllZip (IsExplained [] (whole_asks ps)) ps c.in_ok-explained_whole-in-Err-Refused.field-0) c.as_slice-parts.ensures c.in_ok-explained_whole-in-Err-Refused.ensures in
    explains-whole old q meaning _ is refl c.in_ok-victims.ensures large left parts
    (λ heavy none. let e : c.is_empty.result ≡ true = c.is_empty.ensures.1 none in absurd (grind (arith, heavy, e)))
    (λ light. c.is_empty.ensures.0 (grind (arith, light)))

pub returns-in_ok-explained_whole-in-Err-Refused-clause-victims : goal.returns-in_ok-explained_whole-in-Err-Refused-clause-victims
returns-in_ok-explained_whole-in-Err-Refused-clause-victims c =
    let old = c.args.self.now in
    fall-length old.schema old.store.limits.policy old.store.last old.store.regions c.in_ok-victims.victims c.in_ok-victims.ensures
