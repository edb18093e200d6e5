-- A handle's pointer owns what a box of the handle owns.
use mir.Syntax.{impl, tnil, dnil}
use mathlib.Core.List.{[]}
use denote.Signature.{Slot, plain}
use Rattle.std_alloc.proofs.BoxSteps.Form.{Bx}
use Rattle.std_heap.specs.contracts.Global as Heap
use Rattle.std_heap.specs.contracts.GlobalAllocator.TheImpl.{ghosts, dict}
use Rattle.std_heap.proofs.Global.TheLaws as heap
use Rattle.sr_handle.specs.contracts.handle.Handle as Handle
use Rattle.sr_handle.proofs.handle.Handle.TheLaws as handle
use Rattle.sr_c.specs.contracts.held.Held as Held

abbrev pub E : Bx
E = record { row = Handle.the_row; laws = handle.the_row_laws; al = record { row = Heap.the_row; laws = heap.the_row_laws; g = ghosts; d = dict; drops = impl [] tnil dnil } }

abbrev pub FromHeld : Slot 0
FromHeld = plain (λ _. Held.the_row)
