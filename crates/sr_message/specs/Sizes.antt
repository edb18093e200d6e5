-- How large an ask may be.
use Rattle.std.specs.Prelude.{ℕ, List, length, sum_by}
use Rattle.sr_message.specs.declared.message.AskPart.{AskPart}

-- the most rects of an ask, and of what a client holds
abbrev pub most_rects : ℕ
most_rects = 16384

-- the rects of all parts of an ask
abbrev pub count_asked : List AskPart → ℕ
count_asked asks = sum_by (λ ask. length ask.rects) asks
