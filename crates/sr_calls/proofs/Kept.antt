-- What calls of a client keep.
use Rattle.std.proofs.Common.{◌≡◌, ◌+◌, ◌≤◌, Bool, Option, refl, sym, subst, arith}
use Rattle.sr_policy.specs.declared.policy.Limits.{Limits}
use Rattle.sr_client.specs.Sends.{IsOfFormat}
use Rattle.sr_client.specs.Stands.{Stays, drawn}
use Rattle.sr_client.specs.declared.client.Client.{Client}
use Rattle.sr_dial.specs.declared.parts.Answer.{Answer}
use Rattle.sr_calls.specs.ClientEnds.{end_with, room_of, setting_of}

-- its number and its limits stay those of the format
pub format_stays : (old new : Client) → Stays old new → IsOfFormat old → IsOfFormat new
format_stays old new stays is = record {
  first = subst (λ n. 1 ≤ n) (sym stays.id) is.first;
  last = subst (λ n. n ≤ 64) (sym stays.id) is.last;
  regions = subst (λ (l : Limits). l.regions ≤ 1024) (sym stays.limits) is.regions;
}

pub setting_stays : (keeps says : Bool) (old new : Client) (lent lends : Option Answer) → Stays old new → setting_of (end_with keeps says new lends) ≡ setting_of (end_with keeps says old lent)
setting_stays keeps says old new lent lends stays = rw (stays.id, stays.schema, stays.limits) refl

-- a call draws two numbers at most, and cuts the link once at most
pub room_falls : (old new : Client) → drawn new ≤ drawn old + 2 → new.cuts ≤ old.cuts + 1 → room_of old ≤ room_of new + 2
room_falls old new draws cuts = omega arith
