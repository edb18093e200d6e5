use Rattle.std.proofs.Common.{◌≡◌, Ok, sym, subst, ◌∙◌}
use Rattle.sr_lines.specs.Script.{Silent, CreateLine, event_line, line_of}
use Rattle.sr_reader.proofs.LineWords.{not_text, silent, created, event, is_text, no_text}
use Rattle.sr_reader.proofs.line.read_line.Goals as goal

pub returns-in-Err : goal.returns-in-Err
returns-in-Err c = not_text c.args.clients c.args.line.now _ (no_text c.args.line.now c.in-Err.ensures.cases.0) (c.valid_up_to.ensures ∙ c.in-Err.ensures.valid_len)

pub returns-then-is_silent : goal.returns-then-is_silent
returns-then-is_silent c =
    let line = c.in-Ok.text.now in
    let same = c.in-Ok.ensures.cases.0 in
    let text = is_text c.args.line.now line same c.in-Ok.ensures.cases.1 in
    subst (λ z. Ok Silent ≡ line_of c.args.clients z) same (silent c.args.clients line text (sym c.is_silent.ensures ∙ c.if-is_silent.true))

pub returns-then-begins_create : goal.returns-then-begins_create
returns-then-begins_create c =
    let line = c.in-Ok.text.now in
    let same = c.in-Ok.ensures.cases.0 in
    let text = is_text c.args.line.now line same c.in-Ok.ensures.cases.1 in
    let loud = sym c.is_silent.ensures ∙ c.if-is_silent.false in
    subst (λ z. Ok (CreateLine line) ≡ line_of c.args.clients z) same (created c.args.clients line text loud (sym c.begins_create.ensures ∙ c.if-begins_create.true))

pub returns : goal.returns
returns c =
    let line = c.in-Ok.text.now in
    let same = c.in-Ok.ensures.cases.0 in
    let text = is_text c.args.line.now line same c.in-Ok.ensures.cases.1 in
    let loud = sym c.is_silent.ensures ∙ c.if-is_silent.false in
    c.read_event.ensures ∙ subst (λ z. event_line c.args.clients line ≡ line_of c.args.clients z) same (event c.args.clients line text loud (sym c.begins_create.ensures ∙ c.if-begins_create.false))
