-- Which region an eviction hands out.
use Rattle.std.specs.Prelude.{ℕ, ◌≡◌, List, Some, slice_get}
use Rattle.sr_region.specs.declared.region.Region.{Region}
use Rattle.sr_store.specs.Fitted.{without}
use Rattle.sr_client.specs.declared.steps.EvictStep.{EvictStep}
use Rattle.sr_client.specs.declared.steps.EvictStep.TheVariants.{Dropped, Busy, NoSuch}

-- The region of that number is handed out and the others are left, or all are.
abbrev pub HandsOut : List Region → ℕ → List Region → EvictStep → Type 0
HandsOut old number new (Dropped region) = (slice_get old number ≡ Some region) × (new ≡ without number old)
HandsOut old number new (Busy request) = new ≡ old
HandsOut old number new (NoSuch count) = new ≡ old
