use Rattle.std.proofs.Common.{◌≡◌, Err, ap, subst, rules}
use Rattle.sr_io.specs.Pieces.{WritesPrefix}
use Rattle.sr_dial.proofs.steps.write_text.Goals as goal

pub returns-in-Err-NoMemory-clause-broken_off : goal.returns-in-Err-NoMemory-clause-broken_off
returns-in-Err-NoMemory-clause-broken_off g c =
    let bytes : c.as_bytes.result.now ≡ c.args.text.now = search rules in (
      subst (λ b. WritesPrefix (g.K.Outside.writing c.args.sink.now).written (g.K.Outside.writing c.write_all.new.sink).written b) bytes c.write_all.ensures.prefix,
      c.in-Err-NoMemory.ensures.want_keeps_faults (ap Err c.in-Err-NoMemory.field-0-is),
    )
