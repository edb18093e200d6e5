-- What calls leave of a store.
use Rattle.std.proofs.Common.{◌≡◌, List, ◌∙◌, ap, subst}
use Rattle.sr_cell.specs.declared.table.Table.{Table}
use Rattle.sr_policy.specs.declared.policy.Limits.{Limits}
use Rattle.sr_history.specs.declared.mark.Mark.{Mark}
use Rattle.sr_region.specs.declared.region.Region.{Region}
use Rattle.sr_store.specs.declared.store.Store.{Store}
use Rattle.sr_store.specs.Fitted.{IsFitted}

-- a store with the same limits, last parts and flag is the same but for its regions
pub store-is : (s t : Store) → t.limits ≡ s.limits → t.last ≡ s.last → t.settled ≡ s.settled → t ≡ record s { regions = t.regions }
store-is s t limits last flag =
    ap (λ l. record t { limits = l }) limits ∙ (ap (λ l. record { regions = t.regions; limits = s.limits; last = l; settled = t.settled }) last
    ∙ ap (λ b. record { regions = t.regions; limits = s.limits; last = s.last; settled = b }) flag)

-- of two calls
pub store-then : (s t u : Store) → t.limits ≡ s.limits → t.last ≡ s.last → t.settled ≡ s.settled → u.limits ≡ t.limits → u.last ≡ t.last → u.settled ≡ t.settled → u ≡ record s { regions = u.regions }
store-then s t u limits last flag limits2 last2 flag2 = store-is s u (limits2 ∙ limits) (last2 ∙ last) (flag2 ∙ flag)

-- what is made to fit, of a store as a call left it
pub fitted-of : (schema : List Table) (s t : Store) (gs new : List Region) (drops : List Mark) → t.limits ≡ s.limits → t.last ≡ s.last → t.regions ≡ gs
    → IsFitted schema t.limits t.last t.regions new drops → IsFitted schema s.limits s.last gs new drops
fitted-of schema s t gs new drops limits last regions fitted =
    subst (λ (l : Limits). IsFitted schema l s.last gs new drops) limits
    (subst (λ la. IsFitted schema t.limits la gs new drops) last (subst (λ rs. IsFitted schema t.limits t.last rs new drops) regions fitted))
