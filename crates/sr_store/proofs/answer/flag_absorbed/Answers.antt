use Rattle.std.proofs.Common.{sym, subst}
use Rattle.std.specs.List.{All, AllZip}
use Rattle.sr_store.specs.Stores.{IsOfSchema}
use Rattle.sr_store.specs.Answered.{AreFlags}
use Rattle.sr_store.specs.Making.{IsKeptOr, IsAbsorbedBy}
use Rattle.sr_store.proofs.answer.flag_absorbed.Goals as goal

pub absorbed-requires-clause-news : goal.absorbed-requires-clause-news
absorbed-requires-clause-news c = subst (All (IsOfSchema c.args.schema.now)) (sym c.as_slice.ensures) c.requires.news

pub still_absorbed-requires-clause-news : goal.still_absorbed-requires-clause-news
still_absorbed-requires-clause-news c = subst (All (IsOfSchema c.args.schema.now)) (sym c.as_slice-2.ensures) c.requires.news

pub still_absorbed-requires-clause-others : goal.still_absorbed-requires-clause-others
still_absorbed-requires-clause-others c =
    subst (λ gs. AllZip (IsKeptOr c.args.schema.now c.args.still.now gs) c.args.met.now c.args.still.now) (sym c.as_slice-2.ensures) c.requires.others

pub returns-clause-absorbed : goal.returns-clause-absorbed
returns-clause-absorbed c =
    subst (λ gs. AreFlags (IsAbsorbedBy c.args.schema.now c.args.still.now gs) c.in_ok-absorbed.absorbed gs) c.as_slice.ensures c.in_ok-absorbed.ensures.flags

pub returns-clause-still_absorbed : goal.returns-clause-still_absorbed
returns-clause-still_absorbed c =
    subst (λ gs. AreFlags (IsAbsorbedBy c.args.schema.now c.args.still.now gs) c.in_ok-still_absorbed.still_absorbed c.args.still.now) c.as_slice-2.ensures c.in_ok-still_absorbed.ensures.flags
