-- What the pointer of a handle owns: the same as a `Box` of the handle.
use base.Fml.{Fml}
use base.Stored.{Coded}
use denote.RawPtr.{Ptr}
use Rattle.std.specs.Global.{Global}
use Rattle.std_alloc.specs.Box.Ownership.{box_owns}
use Rattle.std_heap.specs.contracts.GlobalAllocator.TheImpl.{ghosts}
use Rattle.sr_handle.specs.contracts.handle.Handle.{the_row}

abbrev pub held_owns : Global → Ptr → the_row.Denot → Fml
held_owns alloc = box_owns (ghosts.dealloc_token alloc) the_row

abbrev pub handle_coded : Coded the_row.Denot
handle_coded = the_row.coded
