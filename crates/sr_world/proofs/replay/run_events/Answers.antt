use Rattle.std.proofs.Common.{◌≡◌, ◌∙◌, ◌+◌, ◌*◌, ◌≤◌, [], ◌∷◌, length, ap, refl, sym, subst, IsTrue, rules, arith}
use Rattle.std.proofs.lemmas.Grind.{common_steps}
use Rattle.std.specs.List.{list_all}
use Rattle.std.specs.Vec.Iter.{into_iter_items}
use Rattle.sr_io.specs.Causes.{Rose}
use Rattle.sr_reader.specs.Read.{event_fits}
use Rattle.sr_world.specs.Worlds.{drawn, most_drawn}
use Rattle.sr_world.proofs.ReplayLemmas.{RanSome-none, RanSome-all, RanSome-part, RanSome-more, RanSome-next, next-said, next-fits, rest-fits, room-now, room-then, ran-there, fits-there}
use Rattle.sr_world.proofs.replay.run_events.Goals as goal

pub loop-line-init : goal.loop-line-init
loop-line-init g c =
    let all : into_iter_items c.into_iter-line-iterator.result ≡ c.args.lines = search rules in
    record {
      ran = λ events zip. RanSome-none _ _ _ _ events _ _ all zip;
      world = c.requires.world;
      setting = record { eager = refl; count = refl; schema = refl };
      fits = subst (λ lines. IsTrue (list_all (λ line. event_fits (length c.args.world.now.seats.items) c.args.world.now.server.tables.schema line.event) lines)) (sym all) c.requires.fits;
      room = subst (λ lines. drawn c.args.world.now + length lines * most_drawn ≤ drawn c.args.world.now + length c.args.lines * most_drawn) (sym all) (omega arith);
      same_faults = refl;
      stays = record { stays_steady = λ s. s; reading_stays = refl; linking_stays = refl; held_stays = refl; complaints_stay = refl };
    }

pub event_text-requires-clause-fits : goal.event_text-requires-clause-fits
event_text-requires-clause-fits g c =
    let turn : into_iter_items c.loop-line.line-iterator ≡ c.in-Some.line ∷ into_iter_items c.next.new.self = grind (arith, common_steps) in
    let before = c.loop-line.invariant in
    let fits = next-fits (λ line. event_fits (length c.args.world.now.seats.items) c.args.world.now.server.tables.schema line.event) _ _ _ before.fits turn in
    fits-there _ _ _ _ c.in-Some.line.event before.setting.count before.setting.schema fits

pub event_text-requires-clause-means : goal.event_text-requires-clause-means
event_text-requires-clause-means g c =
    let turn : into_iter_items c.loop-line.line-iterator ≡ c.in-Some.line ∷ into_iter_items c.next.new.self = grind (arith, common_steps) in
    let before = c.loop-line.invariant in
    next-said _ _ _ _ _ _ _ _ _ _ _ before.setting.schema turn c.requires.events before.ran

pub event_text-requires-clause-room : goal.event_text-requires-clause-room
event_text-requires-clause-room g c =
    let turn : into_iter_items c.loop-line.line-iterator ≡ c.in-Some.line ∷ into_iter_items c.next.new.self = grind (arith, common_steps) in
    room-now _ _ _ _ _ (ap length turn) c.loop-line.invariant.room c.requires.room

pub returns-in-Err-clause-part : goal.returns-in-Err-clause-part
returns-in-Err-clause-part g c = λ events zip. RanSome-part _ _ _ events _ _ _ _ (c.loop-line.invariant.ran events zip)

pub returns-in-Err-write_all-clause-part : goal.returns-in-Err-write_all-clause-part
returns-in-Err-write_all-clause-part g c = λ events zip.
    let turn : into_iter_items c.loop-line.line-iterator ≡ c.in-Some.line ∷ into_iter_items c.next.new.self = grind (arith, common_steps) in
    let before = c.loop-line.invariant in
    let prefix = rw c.as_bytes.ensures.value at c.in-Err-write_all.ensures.prefix in
    RanSome-more _ _ _ _ _ events _ _ _ _ _ _ _ turn (before.ran events zip)
    (ran-there _ _ _ _ _ _ _ _ before.setting.eager before.setting.schema c.in-Ok.ensures.ran) prefix

pub returns-in-Err-write_all-clause-failed_is_counted : goal.returns-in-Err-write_all-clause-failed_is_counted
returns-in-Err-write_all-clause-failed_is_counted g c is =
    subst (λ n. Rose n (g.K.Outside.writing c.write_all.new.sink).faults) c.loop-line.invariant.same_faults (c.in-Err-write_all.ensures.failed_is_counted is)

pub returns-in-Err-write_all-clause-want_keeps_faults : goal.returns-in-Err-write_all-clause-want_keeps_faults
returns-in-Err-write_all-clause-want_keeps_faults g c is = c.in-Err-write_all.ensures.want_keeps_faults is ∙ c.loop-line.invariant.same_faults

pub returns-in-Err-write_all-clause-steady_never_fails : goal.returns-in-Err-write_all-clause-steady_never_fails
returns-in-Err-write_all-clause-steady_never_fails g c steady is = c.in-Err-write_all.ensures.steady_never_fails (c.loop-line.invariant.stays.stays_steady steady) is

pub loop-line-preserved : goal.loop-line-preserved
loop-line-preserved g c =
    let turn : into_iter_items c.loop-line.line-iterator ≡ c.in-Some.line ∷ into_iter_items c.next.new.self = grind (arith, common_steps) in
    let before = c.loop-line.invariant in
    let same = c.in-Ok.ensures.setting in
    let wrote = c.in-Ok-write_all.ensures in
    let whole = rw c.as_bytes.ensures.value at wrote.whole in
    record {
      ran = λ events zip. RanSome-next _ _ _ _ _ events _ _ _ _ _ _ _ turn (before.ran events zip)
          (ran-there _ _ _ _ _ _ _ _ before.setting.eager before.setting.schema c.in-Ok.ensures.ran) whole;
      world = c.in-Ok.ensures.world;
      setting = record { eager = same.eager ∙ before.setting.eager; count = same.count ∙ before.setting.count; schema = same.schema ∙ before.setting.schema };
      fits = rest-fits _ _ _ _ before.fits turn;
      room = room-then _ _ _ _ _ _ (ap length turn) before.room c.in-Ok.ensures.drawn;
      same_faults = wrote.ok_keeps_faults ∙ before.same_faults;
      stays = record {
        stays_steady = λ s. wrote.stays_steady (before.stays.stays_steady s);
        reading_stays = wrote.reading_stays ∙ before.stays.reading_stays;
        linking_stays = wrote.linking_stays ∙ before.stays.linking_stays;
        held_stays = wrote.held_stays ∙ before.stays.held_stays;
        complaints_stay = wrote.complaints_stay ∙ before.stays.complaints_stay;
      };
    }

pub returns-clause-whole : goal.returns-clause-whole
returns-clause-whole g c = λ events zip.
    let none : into_iter_items c.loop-line.line-iterator ≡ [] = grind (arith, common_steps) in
    RanSome-all _ _ _ events _ _ _ _ none (c.loop-line.invariant.ran events zip)
