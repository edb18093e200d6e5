use Rattle.std.proofs.Common.{arith, refl, ◌+◌, subst}
use Rattle.std.proofs.Common.{◌≡◌, length}
use Rattle.sr_runs.specs.Runs.{AllSettle, Settles}
use Rattle.sr_world.specs.Worlds.{Goes}
use Rattle.sr_world.proofs.EventLemmas.{goes-on, leaves-all, leaves-more, leaves-none, setting-twice}
use Rattle.sr_world.proofs.world.World.settle_all.Goals as goal

pub clients-init : goal.clients-init
clients-init c = record {
  goes = rw c.new-lines.ensures (leaves-none c.args.self.now);
  some = c.requires.world;
  lighter = omega arith;
  stays = record { eager = refl; count = refl; schema = refl };
}

pub clients-preserved : goal.clients-preserved
clients-preserved c =
    let before = c.clients.invariant in
    let light = c.in_ok-done.ensures.lightens in
    let lighter = before.lighter in
    record {
      goes = rw c.in_ok-append.ensures.appended
          (leaves-more c.clients.place c.in_ok-done.done.frames c.args.self.now c.clients.self c.deliver.new.self c.clients.lines c.in_ok-done.done.lines before.goes c.in_ok-done.ensures.settles);
      some = goes-on (λ s. Settles (c.clients.place + 1) s c.in_ok-done.done.frames) c.clients.self c.deliver.new.self c.in_ok-done.done.lines before.some c.in_ok-done.ensures.settles;
      lighter = omega (arith, light, lighter);
      stays = setting-twice c.args.self.now c.clients.self c.deliver.new.self before.stays c.deliver.ensures.stays;
    }

pub returns-clause-settles : goal.returns-clause-settles
returns-clause-settles c =
    let ended = c.clients-test.false in
    let within = c.clients.auto.place-end in
    let end = c.len-place-end.ensures in
    let size = c.args.self.now.seats.ok in
    let all : c.clients.place ≡ length c.args.self.now.seats.items = omega (arith, ended, within, end, size) in
    subst (λ k. Goes (AllSettle 1 k) c.args.self.now c.clients.self c.clients.lines) all (leaves-all c.clients.place c.args.self.now c.clients.self c.clients.lines c.clients.invariant.goes)
