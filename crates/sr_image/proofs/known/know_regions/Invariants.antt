use Rattle.std.proofs.Common.{◌≡◌, true, take}
use Rattle.std.specs.List.{list_all}
use Rattle.sr_image.specs.Laws.{is_spellable}
use Rattle.sr_image.proofs.known.know_regions.Given as goal

abbrev pub invariant-loop-region : goal.invariant-loop-region
invariant-loop-region l = list_all is_spellable (take l.region-index l.regions) ≡ true
