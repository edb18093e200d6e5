use Rattle.std.proofs.Common.{sym, subst}
use Rattle.std.specs.List.{AllZip}
use Rattle.sr_union.proofs.Once.{err_same}
use Rattle.sr_store.specs.Told.{IsTrueOf}
use Rattle.sr_store.specs.Stores.{IsOfSchema}
use Rattle.sr_store.specs.Renewing.{IsRenewal}
use Rattle.sr_store.specs.Making.{ComesFrom, IsUnmetOr, IsKeptOr, IsAbsorbedBy}
use Rattle.sr_store.proofs.Answering.{news_heavy}
use Rattle.sr_store.proofs.Dropping.{AreFlags_length}
use Rattle.sr_store.proofs.Refusals.{old_come}
use Rattle.sr_store.proofs.Together.{still_all, changed_all, changed_apart, others_kept}
use Rattle.sr_store.proofs.answer.news_of.Goals as goal

pub renewed-requires-clause-each : goal.renewed-requires-clause-each
renewed-requires-clause-each c =
    let p = c.requires.parted.1 in
    changed_all c.args.schema.now c.args.number c.args.parts.now c.args.arrivals c.requires.parted.0 c.args.still.now c.args.changed p (IsOfSchema c.args.schema.now) p.each

pub renewed-requires-clause-apart : goal.renewed-requires-clause-apart
renewed-requires-clause-apart c =
    changed_apart c.args.schema.now c.args.number c.args.parts.now c.args.arrivals c.requires.parted.0 c.args.still.now c.args.changed c.requires.parted.1

pub renewed-requires-clause-told : goal.renewed-requires-clause-told
renewed-requires-clause-told c =
    let p = c.requires.parted.1 in (
      p.told,
      p.is_told,
      changed_all c.args.schema.now c.args.number c.args.parts.now c.args.arrivals c.requires.parted.0 c.args.still.now c.args.changed p (IsTrueOf p.told) p.old_true,
      p.rows,
    )

pub returns-in-Err-clause-over : goal.returns-in-Err-clause-over
returns-in-Err-clause-over c = λ old p e.
    let schema = c.args.schema.now in
    let number = c.args.number in
    let parts = c.args.parts.now in
    let arrivals = c.args.arrivals in
    let still = c.args.still.now in
    let changed = c.args.changed in
    c.in-Err.ensures.over old (changed_all schema number parts arrivals old still changed p (ComesFrom schema old parts arrivals) (old_come schema old parts arrivals p.each)) (err_same c.in-Err.no _ e)

pub flag_absorbed-requires-clause-still : goal.flag_absorbed-requires-clause-still
flag_absorbed-requires-clause-still c =
    let p = c.requires.parted.1 in
    still_all c.args.schema.now c.args.number c.args.parts.now c.args.arrivals c.requires.parted.0 c.args.still.now c.args.changed p (IsOfSchema c.args.schema.now) p.each

pub flag_absorbed-requires-clause-news : goal.flag_absorbed-requires-clause-news
flag_absorbed-requires-clause-news c = c.in-Ok.ensures.renewal.each

pub flag_absorbed-requires-clause-others : goal.flag_absorbed-requires-clause-others
flag_absorbed-requires-clause-others c =
    let schema = c.args.schema.now in
    let still = c.args.still.now in
    let unmet = subst (λ rs. AllZip (IsUnmetOr rs) c.in_ok-met.met still) c.as_slice.ensures c.in_ok-met.ensures in
    let kept = others_kept schema c.args.number c.args.parts.now c.args.arrivals c.requires.parted.0 still c.args.changed c.requires.parted.1 c.in-Ok.regions c.in-Ok.ensures.renewal c.in_ok-met.met unmet in
    subst (λ fs. AllZip (IsKeptOr schema still c.in-Ok.regions) fs still) (sym c.as_slice-2.ensures) kept

pub have_few-requires-clause-still : goal.have_few-requires-clause-still
have_few-requires-clause-still c =
    let news = c.in_ok-news.news in
    AreFlags_length (IsAbsorbedBy c.args.schema.now c.args.still.now news.regions) news.still_absorbed c.args.still.now c.in_ok-news.ensures.still_absorbed

pub have_few-requires-clause-news : goal.have_few-requires-clause-news
have_few-requires-clause-news c =
    let news = c.in_ok-news.news in
    AreFlags_length (IsAbsorbedBy c.args.schema.now c.args.still.now news.regions) news.absorbed news.regions c.in_ok-news.ensures.absorbed

pub returns-then-not-have_few-clause-over : goal.returns-then-not-have_few-clause-over
returns-then-not-have_few-clause-over c = λ old p e.
    let schema = c.args.schema.now in
    let number = c.args.number in
    let parts = c.args.parts.now in
    let arrivals = c.args.arrivals in
    let changed = c.args.changed in
    let news = c.in_ok-news.news in
    let renewal = subst (IsRenewal schema number parts arrivals changed) (sym c.in_ok-news.ensures.regions) c.in-Ok.ensures.renewal in
    news_heavy schema number parts arrivals old c.args.still.now changed news.regions news.still_absorbed news.absorbed c.requires.tables c.requires.fit c.requires.arrivals p
    renewal (λ few. absurd (cc (c.have_few.ensures.1 few, c.if-not-have_few.true)))

pub returns-clause-news : goal.returns-clause-news
returns-clause-news c =
    record {
      renewal = subst (IsRenewal c.args.schema.now c.args.number c.args.parts.now c.args.arrivals c.args.changed) (sym c.in_ok-news.ensures.regions) c.in-Ok.ensures.renewal;
      still_absorbed = c.in_ok-news.ensures.still_absorbed;
      absorbed = c.in_ok-news.ensures.absorbed;
      few = c.have_few.ensures.0 c.if-not-have_few.false;
    }
