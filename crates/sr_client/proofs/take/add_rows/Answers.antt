use Rattle.std.proofs.Common.{rules, sym}
use Rattle.sr_client.proofs.ArriveLemmas.{more-set, more-past}
use Rattle.sr_client.proofs.take.add_rows.Goals as goal

pub returns-in_ok-append : goal.returns-in_ok-append
returns-in_ok-append c = more-set c.args.part c.args.rows c.append.new.self c.args.arrivals.now c.index-arrivals-part.result (search rules) c.in_ok-append.ensures.appended

pub returns-else-part-arrivals : goal.returns-else-part-arrivals
returns-else-part-arrivals c = sym (more-past c.args.part c.args.rows c.args.arrivals.now (search rules))
