use Rattle.std.proofs.Common.{◌≤◌, ◌+◌, None, sym, ap, subst, ◌∙◌}
use Rattle.sr_dial.specs.Known.{TakesAs}
use Rattle.sr_calls.specs.ClientEnds.{End, HasTold, IsEnd, Stands, end_with, lent_by, room_of, setting_of}
use Rattle.sr_calls.proofs.Kept.{setting_stays}
use Rattle.sr_calls.proofs.client_end.ClientEndAsks.take.Goals as goal

pub returns-clause-taken : goal.returns-clause-taken
returns-clause-taken c = λ past stands.
    let same = c.self.view_is in
    let inside = c.self.inside in
    let taken = c.in_ok-taken.taken in
    subst (λ (old : End). TakesAs taken.came Stands lent_by IsEnd HasTold (setting_of old) old (end_with inside.keeps inside.says c.take.new.client taken.answer) past c.args.message) same
    (c.in_ok-taken.ensures.taken past (subst (λ (x : End). Stands x past) (sym same) stands) inside.says inside.answer)

pub returns-clause-setting : goal.returns-clause-setting
returns-clause-setting c =
    setting_stays c.self.inside.keeps c.self.inside.says c.self.inside.client c.take.new.client None None c.take.ensures.stays ∙ ap setting_of c.self.view_is

pub returns-clause-draws : goal.returns-clause-draws
returns-clause-draws c = subst (λ (e : End). room_of e.client ≤ room_of c.take.new.client + 2) c.self.view_is c.take.ensures.draws

pub returns-in_err-taken-clause-setting : goal.returns-in_err-taken-clause-setting
returns-in_err-taken-clause-setting c =
    setting_stays c.self.inside.keeps c.self.inside.says c.self.inside.client c.take.new.client None None c.take.ensures.stays ∙ ap setting_of c.self.view_is

pub returns-in_err-taken-clause-draws : goal.returns-in_err-taken-clause-draws
returns-in_err-taken-clause-draws c = subst (λ (e : End). room_of e.client ≤ room_of c.take.new.client + 2) c.self.view_is c.take.ensures.draws
