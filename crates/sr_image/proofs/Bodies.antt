-- What is behind the texts of an image.
use Rattle.std.proofs.Common.{◌≡◌, ℕ, true, List, refl, subst, sym}
use Rattle.std.specs.Prelude.{Result}
use Rattle.sr_cell.specs.declared.table.Table.{Table}
use Rattle.sr_cell.specs.declared.list.No.{No}
use Rattle.sr_bytes.specs.Reading.{Reading, Got}
use Rattle.sr_image.specs.declared.image.Image.{Image}
use Rattle.sr_image.specs.declared.image.ImageFault.{ImageFault}
use Rattle.sr_image.specs.Found.{Answers}
use Rattle.sr_image.specs.Reading.{an_image, behind_texts, finished, same_texts}

pub behind-texts : (result : Result Image (No ImageFault)) (schema : List Table) (texts found : List (List ℕ)) (size : ℕ) (rest : List ℕ) (reading : Reading (List (List ℕ)))
    → reading ≡ Got found rest → same_texts found texts ≡ true → Answers result (finished size (an_image schema rest)) → Answers result (behind_texts schema texts size reading)
behind-texts result schema texts found size rest reading read same h = rw (read, same) h
