use Rattle.sr_keyset.specs.Follows.{HandsLine, HandsQuery}
use Rattle.sr_keyset.proofs.Owning.{hands-query, not-query}
use Rattle.sr_semi.proofs.Looking.{ok-weaker}
use Rattle.sr_keyset.proofs.jobs.begin.Goals as goal

pub other_line-requires : goal.other_line-requires
other_line-requires c = record { other = not-query c.args.line.words c.in_default.not-Query }

pub returns-in-Query-clause-hands : goal.returns-in-Query-clause-hands
returns-in-Query-clause-hands c =
    ok-weaker c.begin_query.result (HandsQuery c.args.tables.now c.args.line.number c.in-Query.client c.in-Query.sql.now) (HandsLine c.args.tables.now c.args.line)
    (λ h hands. hands-query c.args.tables.now c.args.line c.in-Query.client c.in-Query.sql h c.in-Query.is hands) c.begin_query.ensures.hands
