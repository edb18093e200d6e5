use Rattle.std.proofs.Common.{◌++◌, [], ◌∷◌}
use Rattle.sr_cli.specs.Files.{names_of}
use Rattle.sr_cli.specs.Serve.{exec_files}
use Rattle.sr_cli.proofs.LeavesLemmas.{behind-not-read, front-not-read}
use Rattle.sr_cli.proofs.ServeEnds.{behind-exec}
use Rattle.sr_cli.proofs.serve.read_files.Goals as goal

pub returns-in-Err-clause-not_read : goal.returns-in-Err-clause-not_read
returns-in-Err-clause-not_read g c =
    let words = c.args.words.now in
    rw c.as_str.ensures at (front-not-read (g.H.Outside.held c.args.host.now) (c.as_str.result.now ∷ []) (exec_files words.exec ++ names_of words.loads) (g.H.Outside.reading c.args.host.now) (g.H.Outside.reading c.read_file.new.host) c.in-Err.no
    c.in-Err.ensures.not_read)

pub returns-in-Err-read_exec-clause-not_read : goal.returns-in-Err-read_exec-clause-not_read
returns-in-Err-read_exec-clause-not_read g c =
    let words = c.args.words.now in
    let held = g.H.Outside.held c.args.host.now in
    behind-not-read held words.schema c.in-Ok.schema (exec_files words.exec ++ names_of words.loads) (g.H.Outside.reading c.args.host.now) (g.H.Outside.reading c.read_file.new.host) (g.H.Outside.reading c.read_exec.new.host) c.in-Err-read_exec.no
    (rw c.as_str.ensures at c.in-Ok.ensures.read) c.in-Ok.ensures.ok_keeps_faults
    (front-not-read held (exec_files words.exec) (names_of words.loads) (g.H.Outside.reading c.read_file.new.host) (g.H.Outside.reading c.read_exec.new.host) c.in-Err-read_exec.no
    (rw c.read_file.ensures.stays.held_stays at c.in-Err-read_exec.ensures.not_read))

pub returns-in-Err-read_loads-clause-not_read : goal.returns-in-Err-read_loads-clause-not_read
returns-in-Err-read_loads-clause-not_read g c =
    let words = c.args.words.now in
    let held = g.H.Outside.held c.args.host.now in
    behind-not-read held words.schema c.in-Ok.schema (exec_files words.exec ++ names_of words.loads) (g.H.Outside.reading c.args.host.now) (g.H.Outside.reading c.read_file.new.host) (g.H.Outside.reading c.read_loads.new.host) c.in-Err-read_loads.no
    (rw c.as_str.ensures at c.in-Ok.ensures.read) c.in-Ok.ensures.ok_keeps_faults
    (behind-exec held words.exec c.in-Ok-read_exec.exec (names_of words.loads) (g.H.Outside.reading c.read_file.new.host) (g.H.Outside.reading c.read_exec.new.host) (g.H.Outside.reading c.read_loads.new.host) c.in-Err-read_loads.no
    (rw c.read_file.ensures.stays.held_stays at c.in-Ok-read_exec.ensures.read) c.in-Ok-read_exec.ensures.ok_keeps_faults
    (rw (c.read_exec.ensures.stays.held_stays, c.read_file.ensures.stays.held_stays, c.as_slice.ensures) at c.in-Err-read_loads.ensures.not_read))
