use Rattle.std.proofs.Common.{◌≤◌, ◌+◌, [], None, sym, ap, subst, ◌∙◌}
use Rattle.sr_links.specs.Steps.{WasCut}
use Rattle.sr_dial.specs.Known.{Makes}
use Rattle.sr_calls.specs.ClientEnds.{End, HasTold, IsEnd, Stands, end_with, lent_by, room_of, setting_of}
use Rattle.sr_calls.proofs.Kept.{setting_stays}
use Rattle.sr_calls.proofs.client_end.ClientEndAsks.cut.Goals as goal

pub returns-clause-made : goal.returns-clause-made
returns-clause-made c = λ past stands.
    let same = c.self.view_is in
    let inside = c.self.inside in
    subst (λ (old : End). Makes Stands lent_by IsEnd HasTold (setting_of old) old (end_with inside.keeps inside.says c.cut.new.client None) past WasCut c.in_ok-lines.lines []) same
    (c.in_ok-lines.ensures.made inside.keeps past (subst (λ (x : End). Stands x past) (sym same) stands) inside.says inside.answer)

pub returns-clause-setting : goal.returns-clause-setting
returns-clause-setting c =
    setting_stays c.self.inside.keeps c.self.inside.says c.self.inside.client c.cut.new.client None None c.cut.ensures.stays ∙ ap setting_of c.self.view_is

pub returns-clause-draws : goal.returns-clause-draws
returns-clause-draws c = subst (λ (e : End). room_of e.client ≤ room_of c.cut.new.client + 2) c.self.view_is c.cut.ensures.draws

pub returns-in_err-lines-clause-setting : goal.returns-in_err-lines-clause-setting
returns-in_err-lines-clause-setting c =
    setting_stays c.self.inside.keeps c.self.inside.says c.self.inside.client c.cut.new.client None None c.cut.ensures.stays ∙ ap setting_of c.self.view_is

pub returns-in_err-lines-clause-draws : goal.returns-in_err-lines-clause-draws
returns-in_err-lines-clause-draws c = subst (λ (e : End). room_of e.client ≤ room_of c.cut.new.client + 2) c.self.view_is c.cut.ensures.draws
