use Rattle.sr_server.proofs.serve.serve.Goals as goal

pub returns-in-None : goal.returns-in-None
returns-in-None c db knows own = rw c.in-None.is (c.serve_closed.ensures db c.args.tables.now knows.log)
