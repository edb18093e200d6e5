use Rattle.std.proofs.Common.{◌∙◌, ◌++◌, true, map, rules, sym, ap, subst}
use Rattle.sr_cell.specs.declared.cause.Cause.TheVariants.{Absorbed, Pieces}
use Rattle.sr_store.specs.Stores.{IsOfSchema, drop_of}
use Rattle.sr_store.specs.Answered.{flagged}
use Rattle.sr_store.specs.Renewing.{with_regions}
use Rattle.sr_store.specs.Making.{AreParted, AreNews, CanJoin, IsAbsorbedBy}
use Rattle.sr_store.proofs.Answering.{can_join_both, can_join_bare, put_answer, drops_parted}
use Rattle.sr_store.proofs.Dropping.{AreFlags_length}
use Rattle.sr_store.proofs.Together.{still_all, changed_all, still_order}
use Rattle.sr_store.proofs.answer.outcome_of.Goals as goal

pub news_of-requires-clause-parted : goal.news_of-requires-clause-parted
news_of-requires-clause-parted c =
    (c.requires.parted.0, subst (λ gs. AreParted c.args.schema.now c.args.number c.args.parts.now c.args.arrivals c.requires.parted.0 gs c.args.both.flagged) (sym c.as_slice.ensures) c.requires.parted.1)

pub put_together-requires-clause-order : goal.put_together-requires-clause-order
put_together-requires-clause-order c =
    still_order c.args.schema.now c.args.number c.args.parts.now c.args.arrivals c.requires.parted.0 c.args.both.plain c.args.both.flagged c.requires.parted.1

pub put_together-requires-clause-join : goal.put_together-requires-clause-join
put_together-requires-clause-join c =
    let p = c.requires.parted.1 in
    let n = subst (λ gs. AreNews c.args.schema.now c.args.number c.args.parts.now c.args.arrivals gs c.args.both.flagged c.in-Ok.news) c.as_slice.ensures c.in-Ok.ensures.news in
    can_join_both c.args.schema.now c.args.both.plain c.in-Ok.news.regions
    (still_all c.args.schema.now c.args.number c.args.parts.now c.args.arrivals c.requires.parted.0 c.args.both.plain c.args.both.flagged p (IsOfSchema c.args.schema.now) p.each) n.renewal.each

pub put_together-requires-clause-still : goal.put_together-requires-clause-still
put_together-requires-clause-still c =
    let n = subst (λ gs. AreNews c.args.schema.now c.args.number c.args.parts.now c.args.arrivals gs c.args.both.flagged c.in-Ok.news) c.as_slice.ensures c.in-Ok.ensures.news in
    AreFlags_length (IsAbsorbedBy c.args.schema.now c.args.both.plain c.in-Ok.news.regions) c.in-Ok.news.still_absorbed c.args.both.plain n.still_absorbed

pub put_together-requires-clause-news : goal.put_together-requires-clause-news
put_together-requires-clause-news c =
    let n = subst (λ gs. AreNews c.args.schema.now c.args.number c.args.parts.now c.args.arrivals gs c.args.both.flagged c.in-Ok.news) c.as_slice.ensures c.in-Ok.ensures.news in
    AreFlags_length (IsAbsorbedBy c.args.schema.now c.args.both.plain c.in-Ok.news.regions) c.in-Ok.news.absorbed c.in-Ok.news.regions n.absorbed

pub returns-in_ok-put_together-in-Ok : goal.returns-in_ok-put_together-in-Ok
returns-in_ok-put_together-in-Ok c = λ old p.
    let n = subst (λ gs. AreNews c.args.schema.now c.args.number c.args.parts.now c.args.arrivals gs c.args.both.flagged c.in-Ok.news) c.as_slice.ensures c.in-Ok.ensures.news in
    let news = c.in-Ok.news in
    let dropped = with_regions (flagged true news.still_absorbed c.args.both.plain) (flagged true news.absorbed news.regions) in
    put_answer c.args.schema.now c.args.number c.args.parts.now c.args.arrivals old c.args.both.plain c.args.both.flagged
    c.requires.fit c.requires.arrivals p news n c.in_ok-put_together-in-Ok.field-0 c.in_ok-put_together-in-Ok.ensures.regions
    (c.in_ok-put_together-in-Ok.ensures.marks ∙ ap (λ ms. ms ++ map (drop_of Absorbed) dropped) c.requires.marks)

pub given_up-requires-clause-order : goal.given_up-requires-clause-order
given_up-requires-clause-order c =
    still_order c.args.schema.now c.args.number c.args.parts.now c.args.arrivals c.requires.parted.0 c.args.both.plain c.args.both.flagged c.requires.parted.1

pub given_up-requires-clause-join : goal.given_up-requires-clause-join
given_up-requires-clause-join c =
    let p = c.requires.parted.1 in
    let IsOf = IsOfSchema c.args.schema.now in
    subst (CanJoin c.args.both.plain) (sym c.requires.copies)
    (can_join_bare c.args.schema.now c.args.both.plain c.args.both.flagged
    (still_all c.args.schema.now c.args.number c.args.parts.now c.args.arrivals c.requires.parted.0 c.args.both.plain c.args.both.flagged p IsOf p.each)
    (changed_all c.args.schema.now c.args.number c.args.parts.now c.args.arrivals c.requires.parted.0 c.args.both.plain c.args.both.flagged p IsOf p.each))

pub returns-in_ok-given_up-in-Err-Refused : goal.returns-in_ok-given_up-in-Err-Refused
returns-in_ok-given_up-in-Err-Refused c = λ old p.
    let there = subst (λ gs. AreParted c.args.schema.now c.args.number c.args.parts.now c.args.arrivals old gs c.args.both.flagged) (sym c.as_slice.ensures) p in (
      c.in-Err-Refused.ensures.over old there (search rules),
      c.in_ok-given_up-in-Err-Refused.ensures ∙ ap (λ gs. map (drop_of Pieces) (with_regions c.args.both.plain gs)) c.requires.copies
          ∙ drops_parted c.args.schema.now c.args.number c.args.parts.now c.args.arrivals old c.args.both.plain c.args.both.flagged p,
    )
