use Rattle.std.proofs.Common.{refl, ◌∙◌, ap, map}
use Rattle.sr_keyset.specs.Follows.{line_seen}
use Rattle.sr_keyset.proofs.Handing.{new-follows}
use Rattle.sr_keyset.proofs.key_sets.KeySets.new.Goals as goal

pub returns-clause-follows : goal.returns-clause-follows
returns-clause-follows c =
    new-follows c.args.schema.now c.args.script.now c.args.id (record { tables = c.in_ok-tables.tables; lines = c.over.result; going = _ }) c.in_ok-tables.ensures (ap (map line_seen) c.over.ensures ∙ c.in_ok-lines.ensures.words) refl c.requires.inside
