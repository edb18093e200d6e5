use Rattle.std.proofs.Common.{Err}
use Rattle.std.specs.Prelude.{IsErrOf}
use Rattle.sr_setup.specs.declared.setup.SetupFault.TheVariants.{Line, Create, Load}
use Rattle.sr_setup.proofs.setup.set_up.Goals as goal

-- the same refusal, whatever there is without one
same-refusal : {T U E : Type 0} (a b : E) → IsErrOf {T = T} (Err a) b → IsErrOf {T = U} (Err a) b
same-refusal a b is = cc

pub returns-clause-line : goal.returns-clause-line
returns-clause-line c line place is = absurd (c.in-Err.ensures.refused c.args.schema.now c.in-Ok.ensures.lines (Line line place) (same-refusal _ _ is))

pub returns-clause-create : goal.returns-clause-create
returns-clause-create c line fault is = record {
  inside = c.in-Ok.ensures.inside;
  first = c.in-Err.ensures.refused c.args.schema.now c.in-Ok.ensures.lines (Create line fault) (same-refusal _ _ is);
}

pub returns-clause-load : goal.returns-clause-load
returns-clause-load c table fault is =
    let r = c.in-Err.ensures.refused c.args.schema.now c.in-Ok.ensures.lines (Load table fault) (same-refusal _ _ is) in
    record { inside = c.in-Ok.ensures.inside; tables = r.0; created = r.1; first = r.2 }
