use Rattle.std.proofs.Common.{rules, arith}
use Rattle.std.proofs.lemmas.Grind.{common_steps}
use Rattle.sr_script.proofs.Constrained.{span_text_one, spans_text_step, spans_text_end}
use Rattle.sr_script.proofs.rects.push_spans.Goals as goal

pub loop-i-preserved-in-Full : goal.loop-i-preserved-in-Full
loop-i-preserved-in-Full c = record {
  printed = grind (arith, common_steps, spans_text_step);
  is_text = search rules;
}

pub loop-i-preserved : goal.loop-i-preserved
loop-i-preserved c = record {
  printed = grind (arith, common_steps, span_text_one, spans_text_step);
  is_text = search rules;
}

pub returns : goal.returns
returns c = grind (arith, common_steps, spans_text_end)
