use Rattle.std.proofs.Common.{◌≡◌, length}
use Rattle.sr_links.specs.Honest.{Server}
use Rattle.sr_talk.specs.Moves.{OnlyLinks}
use Rattle.sr_talk.proofs.SendLemmas.{SentOf}
use Rattle.sr_talk.proofs.serve.send_left.Given as goal

abbrev pub invariant-messages : goal.invariant-messages
invariant-messages g l = record {
  so_far : SentOf (g.L.Outside.linking l.initial.link) (g.L.Outside.linking l.link) (g.S.Serves.left l.server l.initial.outbox) (g.S.Serves.left l.server l.outbox);
  becomes : (s : Server) → g.S.Serves.becomes l.server l.initial.outbox s → g.S.Serves.becomes l.server l.outbox s;
  stays : OnlyLinks _ g.L.Outside.reading g.L.Outside.writing g.L.Outside.linking g.L.Outside.held g.L.Outside.complaints g.L.Outside.IsSteady l.initial.link l.link;
  up : (g.L.Outside.linking l.link).is_up ≡ (g.L.Outside.linking l.initial.link).is_up;
}

abbrev pub decreases-messages : goal.decreases-messages
decreases-messages g l = length (g.S.Serves.left l.server l.outbox)
