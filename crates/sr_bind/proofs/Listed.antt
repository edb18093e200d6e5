-- The condition that all of a list hold.
use Rattle.std.proofs.Common.{◌≡◌, List, [], ◌∷◌, map, refl, ap, ◌∙◌, Vec, Global}
use Rattle.sr_query.specs.declared.condition.Condition.{Condition}
use Rattle.sr_query.specs.declared.condition.Condition.TheViews.{And, roll-Condition}
use Rattle.sr_query.specs.declared.condition.Condition.TheOpen as open_layer
use Rattle.sr_query.specs.declared.condition.Condition.TheFolds.{fold-roll-Condition}
use Rattle.sr_query.specs.Binding.{Bound, Conjunction, cond_of, conds_of, list_conds}
use Rattle.sr_query.specs.Meant.{meant, layer, bounds_of}
use Rattle.sr_model.specs.Conditions as model

meant_and : (all : Vec Condition Global) → meant (And all) ≡ Conjunction (bounds_of (map meant all.items))
unfolding roll-Condition denote.Hole.Carrier.roll
meant_and all = fold-roll-Condition Bound layer (open_layer.And all)

listed : (bs : List Bound) → conds_of (bounds_of bs) ≡ list_conds bs
listed [] = refl
listed (b ∷ bs) = ap (model.more (cond_of b)) (listed bs)

pub all_together : (all : Vec Condition Global) (members : List Condition) → all.items ≡ members → cond_of (meant (And all)) ≡ model.And (list_conds (map meant members))
all_together all members e = ap cond_of (meant_and all) ∙ ap model.And (listed (map meant all.items)) ∙ ap (λ cs. model.And (list_conds (map meant cs))) e
