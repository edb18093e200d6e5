use Rattle.std.proofs.Common.{[], ◌∷◌}
use Rattle.sr_cli.specs.Files.{names_of}
use Rattle.sr_cli.proofs.LeavesLemmas.{behind-not-read, front-not-read}
use Rattle.sr_cli.proofs.replay.read_files.Goals as goal

pub returns-in-Err-clause-not_read : goal.returns-in-Err-clause-not_read
returns-in-Err-clause-not_read g c =
    rw c.as_str.ensures at (front-not-read (g.H.Outside.held c.args.host.now) (c.as_str.result.now ∷ []) (names_of c.args.words.now.loads) (g.H.Outside.reading c.args.host.now) (g.H.Outside.reading c.read_file.new.host) c.in-Err.no
    c.in-Err.ensures.not_read)

pub returns-in-Err-read_loads-clause-not_read : goal.returns-in-Err-read_loads-clause-not_read
returns-in-Err-read_loads-clause-not_read g c =
    let words = c.args.words.now in
    behind-not-read (g.H.Outside.held c.args.host.now) words.script c.in-Ok.script (names_of words.loads) (g.H.Outside.reading c.args.host.now) (g.H.Outside.reading c.read_file.new.host) (g.H.Outside.reading c.read_loads.new.host) c.in-Err-read_loads.no
    (rw c.as_str.ensures at c.in-Ok.ensures.read) c.in-Ok.ensures.ok_keeps_faults (rw (c.read_file.ensures.stays.held_stays, c.as_slice.ensures) at c.in-Err-read_loads.ensures.not_read)
