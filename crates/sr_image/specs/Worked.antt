-- The image of nothing, over a schema without tables.
use Rattle.std.specs.Prelude.{ℕ, ◌<◌, List, [], ◌∷◌, ◌++◌, take, Ok, Err, ◌≡◌}
use Rattle.sr_image.specs.declared.image.Image.{Image}
use Rattle.sr_image.specs.declared.image.ImageFault.TheVariants.{Short, Left}
use Rattle.sr_image.specs.Reading.{image_in}
use Rattle.sr_image.specs.Spelling.{image_bytes}

abbrev pub nothing : Image
nothing = record { version = 0; kept = [] }

-- how it begins, its length, no texts, its version, no parts
abbrev pub nothing_bytes : List ℕ
nothing_bytes = 83 ∷ 82 ∷ 73 ∷ 77 ∷ 65 ∷ 71 ∷ 69 ∷ 49 ∷ 0 ∷ 0 ∷ 0 ∷ 0 ∷ 0 ∷ 0 ∷ 0 ∷ 29 ∷ 0 ∷ 0 ∷ 0 ∷ 0 ∷ 0 ∷ 0 ∷ 0 ∷ 0 ∷ 0 ∷ 0 ∷ 0 ∷ 0 ∷ 0 ∷ []

pub record Worked : Type 0 where
  pub spelled : image_bytes [] nothing ≡ nothing_bytes
  pub is_read : image_in [] nothing_bytes ≡ Ok nothing
  pub longer : image_in [] (nothing_bytes ++ 0 ∷ []) ≡ Err Left
