use Rattle.std.proofs.Common.{arith, refl, sym, ◌∙◌, ◌≡◌, ◌+◌, subst}
use Rattle.sr_server.specs.Servers.{first_database}
use Rattle.sr_world.proofs.NewLemmas.{IsBegun, begun-closed, begun-drawn, begun-more, begun-none, begun-tables, begun-version, begun-world}
use Rattle.sr_world.proofs.world.seats_of.Goals as goal

pub clients-init : goal.clients-init
clients-init c = λ schema tables is. rw c.new-seats.ensures.items (begun-none c.args.options.limits schema c.args.options.log tables c.args.server.now is c.requires.sessions)

pub open-requires : goal.open-requires
open-requires c =
    let some = c.requires.stands in
    let begun = c.clients.invariant some.0 some.1 some.2 in
    let version = begun-version some.0 c.args.options.log some.1 c.clients.server begun.database in
    record {
      client = (omega arith, omega (arith, c.clients-test.true, c.requires.clients.1));
      stands = (first_database some.0 c.args.options.log some.1, begun.database);
      closed = begun-closed c.args.options.limits some.0 c.args.options.log some.1 c.clients.place c.clients.server c.clients.seats.items begun;
      room = omega (arith, version);
    }

pub new-requires : goal.new-requires
new-requires c =
    let some = c.requires.stands in
    let begun = c.clients.invariant some.0 some.1 some.2 in
    record {
      regions = c.requires.regions;
      tables = rw (c.in_ok-schema.ensures, c.schema.ensures)
          (begun-tables some.0 c.args.options.log some.1 c.open.new.server (c.in_ok-open.ensures.stands (first_database some.0 c.args.options.log some.1) begun.database));
    }

pub clients-preserved : goal.clients-preserved
clients-preserved c = λ schema tables first.
    let db = first_database schema c.args.options.log tables in
    let begun = c.clients.invariant schema tables first in
    let is = c.in_ok-open.ensures.stands db begun.database in
    rw c.in_ok-push.ensures.items
    (begun-more c.args.options.limits schema c.args.options.log tables c.clients.place (c.clients.place + 1) c.clients.server c.open.new.server c.clients.seats.items c.new.result
    begun refl (omega arith, omega (arith, c.clients-test.true, c.requires.clients.1)) is (c.in_ok-open.ensures.session db begun.database)
    (λ d sound same. c.new.ensures.stands d sound (same ∙ sym (c.in_ok-schema.ensures ∙ (c.schema.ensures ∙ is.knows.schema))))
    c.new.ensures.drawn)

pub returns-clause-stands : goal.returns-clause-stands
returns-clause-stands c = λ schema tables first world server seats ready.
    let all : c.clients.place ≡ c.args.options.clients = omega (arith, c.clients-test.false, c.clients.auto.place-end) in
    begun-world c.args.options.limits schema c.args.options.log tables c.args.options.clients world
    (subst (λ s. IsBegun c.args.options.limits schema c.args.options.log tables c.args.options.clients s world.seats.items) (sym server)
    (subst (λ v. IsBegun c.args.options.limits schema c.args.options.log tables c.args.options.clients c.clients.server v.items) (sym seats)
    (subst (λ n. IsBegun c.args.options.limits schema c.args.options.log tables n c.clients.server c.clients.seats.items) all (c.clients.invariant schema tables first)))) c.requires.clients.1 ready

pub returns-clause-drawn : goal.returns-clause-drawn
returns-clause-drawn c =
    let some = c.requires.stands in
    let all : c.clients.place ≡ c.args.options.clients = omega (arith, c.clients-test.false, c.clients.auto.place-end) in
    begun-drawn c.args.options.limits some.0 c.args.options.log some.1 c.args.options.clients c.clients.server c.clients.seats.items
    (subst (λ n. IsBegun c.args.options.limits some.0 c.args.options.log some.1 n c.clients.server c.clients.seats.items) all (c.clients.invariant some.0 some.1 some.2))
