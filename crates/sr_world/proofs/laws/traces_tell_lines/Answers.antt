use Rattle.std.proofs.Common.{◌∙◌, refl, sym}
use Rattle.sr_lines.specs.Lines.{lines_of}
use Rattle.sr_lines.specs.Script.{start_phase}
use Rattle.sr_script.proofs.OneReading.{texts_tell_lines}
use Rattle.sr_world.proofs.Named.{named-lines}
use Rattle.sr_world.proofs.laws.traces_tell_lines.Goals as goal

pub returns : goal.returns
returns c = λ options script loads left trace last traced lines are text.
    let named = named-lines options.clients 1 start_phase traced.end (lines_of script) traced.all traced.reads (refl, refl) in
    texts_tell_lines traced.end.tables lines traced.lines named are traced.printable (sym text ∙ traced.text)
