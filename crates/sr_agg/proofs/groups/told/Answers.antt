use Rattle.std.proofs.Common.{rules, ◌≡◌, ◌∷◌, map}
use Rattle.std.specs.Map.Iter.{deref_pair}
use Rattle.std.proofs.lemmas.Map.Iter.{rest_more}
use Rattle.sr_agg.specs.Kept.{entries_seen}
use Rattle.sr_agg.specs.Tallies.{told_by}
use Rattle.sr_agg.proofs.Lawful.{told-more}
use Rattle.sr_agg.proofs.groups.told.Goals as goal

pub loop-key-preserved : goal.loop-key-preserved
loop-key-preserved c =
    let next : c.loop-key.key-iterator ≡ (c.in-Some.key.now, c.in-Some.tallies.now) ∷ c.next.new.self =
    rest_more deref_pair c.loop-key.key-iterator c.next.new.self c.next.result (c.in-Some.key, c.in-Some.tallies) c.in-Some.is c.next.ensures.steps in
    let row : c.in_ok-told_of.field-0 ≡ map (told_by c.in-Some.key.now.items) c.in-Some.tallies.now.items = search rules in
    rw c.in_ok-push.ensures.pushed
    (told-more c.loop-key.told c.in_ok-told_of.field-0 c.in-Some.key.now c.in-Some.tallies.now c.loop-key.key-iterator c.next.new.self (map (λ e. map (told_by e.0) e.1) (entries_seen c.args.groups.now.entries)) next row
    c.loop-key.invariant)
