use Rattle.std.proofs.Common.{◌∙◌, false, inr, refl}
use Rattle.sr_links.specs.Steps.{Resumed}
use Rattle.sr_talk.proofs.MoveLemmas.{so-in-err}
use Rattle.sr_dial.proofs.run.first_line.Goals as goal

pub begin-requires-clause-asks : goal.begin-requires-clause-asks
begin-requires-clause-asks g c = (Resumed, refl)

pub returns-clause-ended : goal.returns-clause-ended
returns-clause-ended g c k first s steady ahead at same schema plan unbegun =
    c.finish.ensures.ended k first s (λ z. c.begin.ensures.stays.stays_steady (steady z)) ahead false (c.begin.ensures.setting ∙ same) schema (c.in_ok-handed.ensures.begun k first s steady (λ answer. s.plan) ahead 0 false at same schema (inr unbegun) refl plan)

pub returns-in_err-handed-clause-broken_off : goal.returns-in_err-handed-clause-broken_off
returns-in_err-handed-clause-broken_off g c k first s steady ahead at same schema plan unbegun =
    so-in-err c.from_residual.result (c.in_err-handed.ensures.broken_off k first s steady (λ answer. s.plan) ahead 0 false at same schema (inr unbegun) refl plan)

pub returns-clause-broken_off : goal.returns-clause-broken_off
returns-clause-broken_off g c k first s steady ahead at same schema plan unbegun =
    c.finish.ensures.broken_off k first s (λ z. c.begin.ensures.stays.stays_steady (steady z)) ahead false (c.begin.ensures.setting ∙ same) schema (c.in_ok-handed.ensures.begun k first s steady (λ answer. s.plan) ahead 0 false at same schema (inr unbegun) refl plan)
