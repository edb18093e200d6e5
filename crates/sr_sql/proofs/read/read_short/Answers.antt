use Rattle.std.proofs.Common.{sym, ◌∙◌}
use Rattle.sr_sql.specs.Seen.{tree_seen}
use Rattle.sr_sql.proofs.Whole.{few_columns, says_found, says_refused, says_stopped}
use Rattle.sr_sql.proofs.read.read_short.Goals as goal

pub judged-requires : goal.judged-requires
judged-requires c =
    let read = rw c.over-cursor.ensures at c.in-Ok.ensures in
    record { few = few_columns c.args.text.now (tree_seen c.in-Ok.parsed) c.whole.new.cursor c.requires read }

pub returns-in-Ok-clause-found : goal.returns-in-Ok-clause-found
returns-in-Ok-clause-found c =
    let read = rw c.over-cursor.ensures at c.in-Ok.ensures in
    says_found c.args.text.now (tree_seen c.in-Ok.parsed) c.whole.new.cursor c.judged.result read c.judged.ensures.found

pub returns-in-Ok-clause-refused : goal.returns-in-Ok-clause-refused
returns-in-Ok-clause-refused c =
    let read = rw c.over-cursor.ensures at c.in-Ok.ensures in
    λ fault is. says_refused c.args.text.now (tree_seen c.in-Ok.parsed) c.whole.new.cursor fault read (c.judged.ensures.refused fault is)

pub returns-in-Err-clause-refused : goal.returns-in-Err-clause-refused
returns-in-Err-clause-refused c =
    λ fault is. says_stopped c.args.text.now c.over-cursor.result c.whole.new.cursor c.in-Err.stop fault c.over-cursor.ensures c.in-Err.ensures (sym c.refusal.ensures ∙ cc is)
