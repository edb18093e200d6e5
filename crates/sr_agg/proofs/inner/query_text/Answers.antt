use Rattle.std.proofs.Common.{rules, ◌≡◌, ◌∙◌, ◌-◌, ◌<◌, ◌≤◌, true, false, drop, take, get_or, inl, inr, sym, ap, length, arith}
use Rattle.std.specs.Prelude.{◌⊎◌}
use Rattle.std.proofs.lemmas.Str.{IsCharBoundary-before_ascii}
use Rattle.sr_token.specs.Tokens.{is_blank}
use Rattle.sr_agg.specs.Inner.{trimmed}
use Rattle.sr_agg.proofs.Trimming.{blank-ascii, cut-done, last, trimmed-more}
use Rattle.sr_agg.proofs.inner.query_text.Goals as goal
use Rattle.sr_agg.proofs.inner.query_text.Goals.{then-loop-end-test+else-is_blank, else-loop-end-test}

pub loop-end-preserved : goal.loop-end-preserved
loop-end-preserved c =
    let lt : c.args.from < c.loop-end.end = c.loop-end-test.true in
    let within = c.loop-end.invariant.within in
    let blank : is_blank (get_or c.args.text.now (c.loop-end.end - 1) 0) ≡ true = search rules in
    let cut = last c.args.text.now c.args.from c.loop-end.end lt within in
    let inside : c.loop-end.end - 1 < length c.args.text.now = omega (arith, lt, within) in
    record {
      same = sym (trimmed-more (drop c.args.from (take (c.loop-end.end - 1) c.args.text.now)) (get_or c.args.text.now (c.loop-end.end - 1) 0) blank) ∙ (sym (ap trimmed cut) ∙ c.loop-end.invariant.same);
      within = omega (arith, lt, within);
      above = omega (arith, lt);
      boundary = IsCharBoundary-before_ascii c.args.text.now (c.loop-end.end - 1) inside (blank-ascii (get_or c.args.text.now (c.loop-end.end - 1) 0) blank);
    }

pub returns : goal.returns
returns c =
    let done : ((c.args.from < c.loop-end.end) × (is_blank (get_or c.args.text.now (c.loop-end.end - 1) 0) ≡ false)) ⊎ (c.loop-end.end ≤ c.args.from) = elim c.loop-end-test.branch [
      | then-loop-end-test+else-is_blank w ↦ inl (w.loop-end-test.true, search rules)
      | else-loop-end-test w ↦ let no = w.loop-end-test.false in inr (omega (arith, no))
    ] in
    let cut : c.range.result.now ≡ take (c.loop-end.end - c.args.from) (drop c.args.from c.args.text.now) = search rules in
    cut ∙ (cut-done c.args.text.now c.args.from c.loop-end.end c.loop-end.invariant.above c.loop-end.invariant.within done ∙ c.loop-end.invariant.same)
