use Rattle.std.proofs.Common.{◌≡◌, drop, fold}
use Rattle.sr_agg.specs.Inner.{spellings, with_text}
use Rattle.sr_agg.proofs.inner.push_items.Given as goal

abbrev pub invariant-loop-item : goal.invariant-loop-item
invariant-loop-item l = fold with_text l.texts (spellings (drop l.item-index l.items)) ≡ fold with_text l.fn.texts (spellings l.items)
