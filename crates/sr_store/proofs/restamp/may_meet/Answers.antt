use Rattle.sr_store.proofs.restamp.may_meet.Goals as goal

pub returns : goal.returns
returns c = λ columns no p point. c.meets.ensures.apart p no
