use Rattle.sr_reader.proofs.Numbers.{split_some, split_none}
use Rattle.sr_setup.proofs.report_line.split.Goals as goal

pub returns-in-Some-clause-part : goal.returns-in-Some-clause-part
returns-in-Some-clause-part c = (split_some c.args.line.now c.split_once.result c.in-Some.parts c.split_once.ensures.cases c.in-Some.is).0

pub returns-in-Some-clause-behind : goal.returns-in-Some-clause-behind
returns-in-Some-clause-behind c = (split_some c.args.line.now c.split_once.result c.in-Some.parts c.split_once.ensures.cases c.in-Some.is).1

pub returns-in-None-clause-part : goal.returns-in-None-clause-part
returns-in-None-clause-part c = (split_none c.args.line.now c.split_once.result c.split_once.ensures.cases c.in-None.is).0

pub returns-in-None-clause-behind : goal.returns-in-None-clause-behind
returns-in-None-clause-behind c = (split_none c.args.line.now c.split_once.result c.split_once.ensures.cases c.in-None.is).1
