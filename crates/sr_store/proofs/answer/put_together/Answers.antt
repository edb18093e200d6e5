use Rattle.std.proofs.Common.{true, false, ◌∙◌, sym, ap, subst}
use Rattle.sr_store.specs.Classes.{ascends}
use Rattle.sr_store.specs.Making.{CanJoin}
use Rattle.sr_store.proofs.Answering.{can_join_some}
use Rattle.sr_store.proofs.Dropping.{flagged_ascends}
use Rattle.sr_store.proofs.answer.put_together.Goals as goal

pub join_parted-requires-clause-plain_order : goal.join_parted-requires-clause-plain_order
join_parted-requires-clause-plain_order c = ap ascends c.in_ok-still.ensures.plain ∙ flagged_ascends false _ c.args.still c.requires.order

pub join_parted-requires-clause-plain_join : goal.join_parted-requires-clause-plain_join
join_parted-requires-clause-plain_join c =
    subst (λ gs. CanJoin gs c.in_ok-news.news.plain) (sym c.in_ok-still.ensures.plain)
    (subst (CanJoin _) (sym c.in_ok-news.ensures.plain) (can_join_some c.args.still c.args.news.regions false _ _ c.requires.join))

pub join_parted-requires-clause-flagged_order : goal.join_parted-requires-clause-flagged_order
join_parted-requires-clause-flagged_order c = ap ascends c.in_ok-still.ensures.flagged ∙ flagged_ascends true _ c.args.still c.requires.order

pub join_parted-requires-clause-flagged_join : goal.join_parted-requires-clause-flagged_join
join_parted-requires-clause-flagged_join c =
    subst (λ gs. CanJoin gs c.in_ok-news.news.flagged) (sym c.in_ok-still.ensures.flagged)
    (subst (CanJoin _) (sym c.in_ok-news.ensures.flagged) (can_join_some c.args.still c.args.news.regions true _ _ c.requires.join))
