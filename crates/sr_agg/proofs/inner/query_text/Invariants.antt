use Rattle.std.proofs.Common.{◌≡◌, ◌≤◌, length, take, drop}
use Rattle.std.specs.Str.{IsCharBoundary}
use Rattle.sr_agg.specs.Inner.{cut, trimmed}
use Rattle.sr_agg.proofs.inner.query_text.Given as goal

abbrev pub invariant-loop-end : goal.invariant-loop-end
invariant-loop-end l = record {
  same : trimmed (drop l.from (take l.end l.text)) ≡ trimmed (drop l.from (cut l.fn.until l.text));
  within : l.end ≤ length l.text;
  above : l.from ≤ l.end;
  boundary : IsCharBoundary l.text l.end;
}

abbrev pub decreases-loop-end : goal.decreases-loop-end
decreases-loop-end l = l.end
