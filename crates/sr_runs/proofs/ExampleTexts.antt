-- The lines of the worked examples, as text.
use Rattle.std.proofs.Common.{◌≡◌, refl}
use Rattle.std.specs.Fmt.{digits}
use Rattle.sr_script.specs.TraceText.{trace_text, line_text}
use Rattle.sr_runs.specs.Example.{lines, schema, trace}
use Rattle.sr_runs.specs.EvictedClass.{evicting_lines, evicting_trace}

pub text : trace_text schema lines ≡ trace
unfolding digits line_text
text = refl

pub evicting_text : trace_text schema evicting_lines ≡ evicting_trace
unfolding digits line_text
evicting_text = refl
