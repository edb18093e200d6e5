use Rattle.std.proofs.Common.{sym, ◌∙◌}
use Rattle.sr_cli.proofs.ImageLemmas.{wrote-left, wrote-none}
use Rattle.sr_cli.proofs.save.write_left.Goals as goal

pub returns-then-has_image-clause-wrote : goal.returns-then-has_image-clause-wrote
returns-then-has_image-clause-wrote g c =
    wrote-left _ c.args.quiet.now.ending (g.K.Outside.writing c.args.sink.now) (g.K.Outside.writing c.write_held.new.sink) c.write_held.result (sym c.has_image.ensures ∙ c.if-has_image.true) c.write_held.ensures.wrote

pub returns-else-has_image-clause-wrote : goal.returns-else-has_image-clause-wrote
returns-else-has_image-clause-wrote g c = wrote-none _ c.args.quiet.now.ending (g.K.Outside.writing c.args.sink.now) (sym c.has_image.ensures ∙ c.if-has_image.false)
