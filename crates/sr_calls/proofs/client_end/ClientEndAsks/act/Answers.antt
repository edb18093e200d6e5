use Rattle.std.proofs.Common.{◌≤◌, ◌+◌, None, sym, ap, subst, ◌∙◌}
use Rattle.sr_dial.specs.Known.{IsDeed, Makes}
use Rattle.sr_calls.specs.ClientEnds.{End, HasTold, IsEnd, Stands, end_with, lent_by, room_of, setting_of}
use Rattle.sr_calls.proofs.Kept.{setting_stays}
use Rattle.sr_calls.proofs.client_end.ClientEndAsks.act.Goals as goal

pub returns-clause-made : goal.returns-clause-made
returns-clause-made c = λ past deed stands is.
    let same = c.self.view_is in
    let inside = c.self.inside in
    let done = c.in_ok-done.done in
    subst (λ (old : End). Makes Stands lent_by IsEnd HasTold (setting_of old) old (end_with inside.keeps inside.says c.act.new.client done.answer) past deed done.told.lines done.told.sent) same
    (c.in_ok-done.ensures.made past deed (subst (λ (x : End). Stands x past) (sym same) stands) (subst (λ (x : End). IsDeed x.client.schema c.args.event deed) (sym same) is) inside.says inside.answer)

pub returns-clause-setting : goal.returns-clause-setting
returns-clause-setting c =
    setting_stays c.self.inside.keeps c.self.inside.says c.self.inside.client c.act.new.client None None c.act.ensures.stays ∙ ap setting_of c.self.view_is

pub returns-clause-draws : goal.returns-clause-draws
returns-clause-draws c = subst (λ (e : End). room_of e.client ≤ room_of c.act.new.client + 2) c.self.view_is c.act.ensures.draws

pub returns-in_err-done-clause-setting : goal.returns-in_err-done-clause-setting
returns-in_err-done-clause-setting c =
    setting_stays c.self.inside.keeps c.self.inside.says c.self.inside.client c.act.new.client None None c.act.ensures.stays ∙ ap setting_of c.self.view_is

pub returns-in_err-done-clause-draws : goal.returns-in_err-done-clause-draws
returns-in_err-done-clause-draws c = subst (λ (e : End). room_of e.client ≤ room_of c.act.new.client + 2) c.self.view_is c.act.ensures.draws
