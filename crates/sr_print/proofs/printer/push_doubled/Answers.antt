use Rattle.std.proofs.Common.{◌≡◌, ◌++◌, ◌==◌, false, ap, ◌∙◌, sym, List, ℕ, arith}
use Rattle.std.specs.Prelude.{flat_map, string_bytes}
use Rattle.std.proofs.lemmas.Bool.Decides.{nat_tests}
use Rattle.std.proofs.lemmas.Iterator.{YieldsList-from_chars}
use Rattle.std.proofs.lemmas.Iterator.Consumers.{YieldsList-end}
use Rattle.std.proofs.lemmas.List.{map-id}
use Rattle.sr_print.proofs.Writing.{doubled_letter, doubled-chars, one_letter}
use Rattle.sr_print.proofs.printer.push_doubled.Goals as goal

pub loop-letter-preserved : goal.loop-letter-preserved
loop-letter-preserved c =
    let differs : (c.in-Some.letter == 39) ≡ false = grind (arith, nat_tests, c.if-letter-eq39.false) in
    one_letter (string_bytes c.args.to.now) c.loop-letter.yielded c.in-Some.letter (string_bytes c.loop-letter.to) (string_bytes c.push.new.self) c.loop-letter.invariant
    (rw differs c.in_ok-push.ensures.bytes)

pub returns : goal.returns
returns c =
    let t = YieldsList-end (YieldsList-from_chars c.args.text.now c.utf8.text cc) c.loop-letter.yielded _ c.loop-letter.yielded_by _ _ c.in-None.is c.next.ensures.steps in
    c.loop-letter.invariant ∙ ap (λ (s : List ℕ). c.args.to.now.bytes.items ++ s) (ap (flat_map doubled_letter) (sym (map-id _) ∙ t.0) ∙ doubled-chars c.args.text.now c.utf8.text)
