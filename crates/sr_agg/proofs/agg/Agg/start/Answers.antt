use Rattle.std.proofs.Common.{rules, ◌≡◌, subst}
use Rattle.sr_agg.specs.Inner.{inner_text}
use Rattle.sr_agg.specs.Seen.{IsAsked}
use Rattle.sr_agg.proofs.Cuts.{cuts}
use Rattle.sr_agg.proofs.Beginning.{begun-by, ended-by, refused-by}
use Rattle.sr_agg.proofs.agg.Agg.start.Goals as goal

pub inner_text-requires-clause-from : goal.inner_text-requires-clause-from
inner_text-requires-clause-from c = (cuts c.args.sql.now c.in-Ok.aggregate c.in-Ok.ensures.spans c.in-Ok.ensures.found).0

pub inner_text-requires-clause-until : goal.inner_text-requires-clause-until
inner_text-requires-clause-until c = (cuts c.args.sql.now c.in-Ok.aggregate c.in-Ok.ensures.spans c.in-Ok.ensures.found).1

pub returns-in-Err-asked-clause-refused : goal.returns-in-Err-asked-clause-refused
returns-in-Err-asked-clause-refused c =
    let inner : c.as_str.result.now ≡ inner_text c.args.schema.now c.args.sql.now c.in-Ok.aggregate = search rules in
    refused-by c.args.schema.now c.args.sql.now c.in-Ok.aggregate c.as_str.result.now c.in-Err-asked.no c.refused-in-Err-asked.result c.in-Ok.ensures.found inner c.in-Err-asked.ensures.refused c.refused-in-Err-asked.ensures

pub returns-clause-begun : goal.returns-clause-begun
returns-clause-begun c =
    let q = c.in-Ok-asked.query in
    let asked = subst (λ text. IsAsked c.args.schema.now text q) c.as_str.ensures c.in-Ok-asked.ensures.found in
    begun-by c.args.schema.now c.args.sql.now c.in-Ok.aggregate c.in_ok-inner.inner q c.in_ok-listing.listing c.planned.result c.in-Ok.ensures.found c.in_ok-inner.ensures asked c.in_ok-listing.ensures.texts
    c.in_ok-listing.ensures.groups c.planned.ensures

pub returns-clause-refused : goal.returns-clause-refused
returns-clause-refused c =
    let q = c.in-Ok-asked.query in
    let asked = subst (λ text. IsAsked c.args.schema.now text q) c.as_str.ensures c.in-Ok-asked.ensures.found in
    ended-by c.args.schema.now c.args.sql.now c.in-Ok.aggregate c.in_ok-inner.inner q c.in_ok-listing.listing c.planned.result c.in-Ok.ensures.found c.in_ok-inner.ensures asked c.in_ok-listing.ensures.texts
    c.in_ok-listing.ensures.groups c.planned.ensures
