-- What becomes of a handle that is lent.
use base.Fml.{Fml}
use denote.Follow.{follows}
use denote.Ref.{MutBor}
use Rattle.sr_handle.specs.declared.handle.Handle.{Handle}
use Rattle.sr_c.specs.declared.held.Held.{Held}
use Rattle.sr_handle.specs.contracts.handle.Handle.{the_row as inner}
use Rattle.sr_c.specs.contracts.held.Held.{the_row as outer}

-- the same pointer, of another handle
abbrev pub with_value : Held → Handle → Held
with_value h x = record h { value = x }

-- once the loan ends, the pointer's handle is the last value behind the reference
abbrev pub held_follows : MutBor Held → MutBor Handle → Fml
held_follows h r = follows outer inner h.ghost_name r.ghost_name (with_value h.now)
