use Rattle.std.proofs.Common.{subst}
use Rattle.sr_feed.specs.Fetching.{Fetches}
use Rattle.sr_talk.specs.Reading.{Pops}
use Rattle.sr_talk.proofs.ReadLemmas.{turn}
use Rattle.sr_talk.proofs.frames.next_frame.Goals as goal

pub loop-preserved : goal.loop-preserved
loop-preserved g c =
    turn _ g.L.Outside.reading g.L.Outside.writing g.L.Outside.linking g.L.Outside.held g.L.Outside.complaints g.L.Outside.IsSteady _ _ _ _ _ _ _ _ _ c.loop.invariant
    (subst (λ popped. Pops popped c.loop.feed c.pop.new.feed) c.in-Nothing.is c.in_ok-message.ensures.pops)
    (subst (λ fetched. Fetches fetched (g.L.Outside.linking c.loop.link) (g.L.Outside.linking c.fetch.new.link) c.pop.new.feed c.fetch.new.feed) c.in-More.is c.in_ok-fetch.ensures.fetched)
    (record {
      stays_steady = c.fetch.ensures.stays_steady;
      reading_stays = c.fetch.ensures.reading_stays;
      writing_stays = c.fetch.ensures.writing_stays;
      held_stays = c.fetch.ensures.held_stays;
      complaints_stay = c.fetch.ensures.complaints_stay;
      faults_never_fall = c.fetch.ensures.faults_never_fall;
    })
    c.fetch.ensures.stays_up
