use Rattle.std.proofs.Common.{[], ◌∷◌}
use Rattle.sr_cli.proofs.LeavesLemmas.{behind-not-read, front-not-read}
use Rattle.sr_cli.proofs.client.read_files.Goals as goal

pub returns-in-Err-clause-not_read : goal.returns-in-Err-clause-not_read
returns-in-Err-clause-not_read g c =
    rw c.as_str.ensures at (front-not-read (g.H.Outside.held c.args.host.now) (c.as_str.result.now ∷ []) (c.args.words.now.script ∷ []) (g.H.Outside.reading c.args.host.now) (g.H.Outside.reading c.read_file.new.host) c.in-Err.no
    c.in-Err.ensures.not_read)

pub returns-in-Err-read_file-clause-not_read : goal.returns-in-Err-read_file-clause-not_read
returns-in-Err-read_file-clause-not_read g c =
    let words = c.args.words.now in
    behind-not-read (g.H.Outside.held c.args.host.now) words.schema c.in-Ok.schema (words.script ∷ []) (g.H.Outside.reading c.args.host.now) (g.H.Outside.reading c.read_file.new.host) (g.H.Outside.reading c.read_file-2.new.host) c.in-Err-read_file.no
    (rw c.as_str.ensures at c.in-Ok.ensures.read) c.in-Ok.ensures.ok_keeps_faults (rw (c.read_file.ensures.stays.held_stays, c.as_str-2.ensures) at c.in-Err-read_file.ensures.not_read)
