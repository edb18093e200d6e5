use Rattle.std.proofs.Common.{◌∙◌, sym, ap, Ok}
use Rattle.sr_reader.proofs.LineWords.{begins_found, begins_none, begins_bad}
use Rattle.sr_reader.proofs.line.begins_create.Goals as goal

pub returns-in-Ok-Some : goal.returns-in-Ok-Some
returns-in-Ok-Some c =
    let t = c.in-Ok-Some.token in
    let found = rw c.in-Ok-Some.field-0-is at c.in-Ok-Some.ensures.token in
    begins_found c.args.line.now t.kind t.from t.to t.text.now c.next.new.self c.is_create.result (sym c.over.ensures.tokens ∙ found) c.is_create.ensures

pub returns-in-Ok-None : goal.returns-in-Ok-None
returns-in-Ok-None c =
    let none = c.in-Ok-None.ensures.end (ap (λ o. Ok o) c.in-Ok-None.field-0-is) in
    begins_none c.args.line.now (sym c.over.ensures.tokens ∙ none.0)

pub returns-in-Err : goal.returns-in-Err
returns-in-Err c = begins_bad c.args.line.now c.in-Err.field-0.at (sym c.over.ensures.tokens ∙ c.in-Err.ensures.bad.1)
