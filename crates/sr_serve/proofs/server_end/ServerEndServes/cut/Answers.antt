use Rattle.std.proofs.Common.{◌≡◌, refl, ap, ◌∙◌, rules}
use Rattle.sr_server.specs.declared.server.Server.{Server}
use Rattle.sr_serve.proofs.EndLemmas.{end-closed}
use Rattle.sr_serve.proofs.server_end.ServerEndServes.cut.Goals as goal

pub returns-then-self-ne0-clause-closed : goal.returns-then-self-ne0-clause-closed
returns-then-self-ne0-clause-closed c s is =
    let some : c.args.self.now.client ≡ 0 → ⊥ = search rules in
    record {
      server = c.cut.ensures.stands s.database is.server;
      session = (refl, ap (λ (server : Server). server.sessions) c.cut.ensures.closed ∙ end-closed c.args.self.now.client c.args.self.now.server.sessions s.session is.session some);
    }
