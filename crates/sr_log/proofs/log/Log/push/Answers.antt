use Rattle.std.proofs.Common.{◌≡◌, ◌+◌, ◌-◌, length, drop, refl, sym, ap, arith, length-drop, ◌∙◌}
use Rattle.sr_log.specs.Held.{changes_of, newest}
use Rattle.sr_log.specs.Kept.{total, kept, floor}
use Rattle.sr_log.proofs.Least.{kept-fits}
use Rattle.sr_log.proofs.Numbers.{length-changes}
use Rattle.sr_log.proofs.Pushing.{one_came}
use Rattle.sr_log.proofs.log.Log.push.Goals as goal

pub leave-self-inside-requires : goal.leave-self-inside-requires
leave-self-inside-requires c =
    let came = one_came c.self.inside.limit c.self.inside.floor c.version-version.result c.self.inside.gone c.surplus-dropped.result.0 c.self.inside.entries.items
    c.push_reserved.new.self.items c.deref.result.now c.args.changes (omega (arith, c.self.invariant.0, c.self.inside.entries.ok.0)) c.self.invariant.1
    (c.version-version.ensures ∙ sym (ap (λ v. newest v) c.self.view_is)) c.push_reserved.ensures.items c.deref.ensures.value c.surplus-dropped.ensures.dropped in
    omega (arith, came.within, c.push_reserved.new.self.ok.0)

pub overflow_add-self-inside : goal.overflow_add-self-inside
overflow_add-self-inside c =
    let came = one_came c.self.inside.limit c.self.inside.floor c.version-version.result c.self.inside.gone c.surplus-dropped.result.0 c.self.inside.entries.items
    c.push_reserved.new.self.items c.deref.result.now c.args.changes (omega (arith, c.self.invariant.0, c.self.inside.entries.ok.0)) c.self.invariant.1
    (c.version-version.ensures ∙ sym (ap (λ v. newest v) c.self.view_is)) c.push_reserved.ensures.items c.deref.ensures.value c.surplus-dropped.ensures.dropped in
    omega (arith, came.within, c.push_reserved.new.self.ok.0)

pub overflow_add-self : goal.overflow_add-self
overflow_add-self c =
    let came = one_came c.self.inside.limit c.self.inside.floor c.version-version.result c.self.inside.gone c.surplus-dropped.result.0 c.self.inside.entries.items
    c.push_reserved.new.self.items c.deref.result.now c.args.changes (omega (arith, c.self.invariant.0, c.self.inside.entries.ok.0)) c.self.invariant.1
    (c.version-version.ensures ∙ sym (ap (λ v. newest v) c.self.view_is)) c.push_reserved.ensures.items c.deref.ensures.value c.surplus-dropped.ensures.dropped in
    omega (arith, came.within, came.len, c.requires.number, ap (λ v. newest v) c.self.view_is, c.self.invariant.0, length-changes (drop c.self.inside.gone c.self.inside.entries.items), length-drop c.self.inside.gone c.self.inside.entries.items, c.self.inside.entries.ok.0)

pub invariant_of-self : goal.invariant_of-self
invariant_of-self c =
    let came = one_came c.self.inside.limit c.self.inside.floor c.version-version.result c.self.inside.gone c.surplus-dropped.result.0 c.self.inside.entries.items
    c.push_reserved.new.self.items c.deref.result.now c.args.changes (omega (arith, c.self.invariant.0, c.self.inside.entries.ok.0)) c.self.invariant.1
    (c.version-version.ensures ∙ sym (ap (λ v. newest v) c.self.view_is)) c.push_reserved.ensures.items c.deref.ensures.value c.surplus-dropped.ensures.dropped in
    let left : c.surplus-dropped.result.1 ≡ total (kept c.self.inside.limit (changes_of (drop c.self.inside.gone c.push_reserved.new.self.items))) =
    c.surplus-dropped.ensures.left ∙ ap (λ es. total (kept c.self.inside.limit (changes_of es))) came.slice in
    let rest : length (drop c.leave-self-inside.result c.leave-self-inside.new.entries.items) ≡ length c.push_reserved.new.self.items - (c.self.inside.gone + c.surplus-dropped.result.0) =
    ap (λ es. length es) c.leave-self-inside.ensures.rest ∙ length-drop (c.self.inside.gone + c.surplus-dropped.result.0) c.push_reserved.new.self.items in (
      c.leave-self-inside.ensures.within,
      rw c.leave-self-inside.ensures.rest came.numbers,
      left ∙ ap (λ all. total all) (sym came.rest) ∙ ap (λ es. total (changes_of es)) (sym c.leave-self-inside.ensures.rest),
      omega (arith, left, kept-fits c.self.inside.limit (changes_of (drop c.self.inside.gone c.push_reserved.new.self.items))),
      omega (arith, rest, length-drop c.leave-self-inside.result c.leave-self-inside.new.entries.items, c.leave-self-inside.new.entries.ok.0, came.within, came.len, c.requires.number, ap (λ v. newest v) c.self.view_is, c.self.invariant.0, length-changes (drop c.self.inside.gone c.self.inside.entries.items), length-drop c.self.inside.gone c.self.inside.entries.items, c.self.inside.entries.ok.0),
    )

pub returns-clause-pushed : goal.returns-clause-pushed
returns-clause-pushed c =
    let came = one_came c.self.inside.limit c.self.inside.floor c.version-version.result c.self.inside.gone c.surplus-dropped.result.0 c.self.inside.entries.items
    c.push_reserved.new.self.items c.deref.result.now c.args.changes (omega (arith, c.self.invariant.0, c.self.inside.entries.ok.0)) c.self.invariant.1
    (c.version-version.ensures ∙ sym (ap (λ v. newest v) c.self.view_is)) c.push_reserved.ensures.items c.deref.ensures.value c.surplus-dropped.ensures.dropped in
    rw (← c.self.view_is) (
      refl,
      ap (λ es. changes_of es) c.leave-self-inside.ensures.rest ∙ came.rest ∙ ap (λ all. kept c.self.inside.limit all) came.changes,
      ap (λ n. c.self.inside.floor + n) (came.drops ∙ ap (λ all. floor c.self.inside.limit all) came.changes),
    )

pub returns-clause-version : goal.returns-clause-version
returns-clause-version c =
    let came = one_came c.self.inside.limit c.self.inside.floor c.version-version.result c.self.inside.gone c.surplus-dropped.result.0 c.self.inside.entries.items
    c.push_reserved.new.self.items c.deref.result.now c.args.changes (omega (arith, c.self.invariant.0, c.self.inside.entries.ok.0)) c.self.invariant.1
    (c.version-version.ensures ∙ sym (ap (λ v. newest v) c.self.view_is)) c.push_reserved.ensures.items c.deref.ensures.value c.surplus-dropped.ensures.dropped in
    let rest : length (drop c.leave-self-inside.result c.leave-self-inside.new.entries.items) ≡ length c.push_reserved.new.self.items - (c.self.inside.gone + c.surplus-dropped.result.0) =
    ap (λ es. length es) c.leave-self-inside.ensures.rest ∙ length-drop (c.self.inside.gone + c.surplus-dropped.result.0) c.push_reserved.new.self.items in
    omega (arith, rest, came.within, came.len, ap (λ v. newest v) c.self.view_is, length-changes (drop c.leave-self-inside.result c.leave-self-inside.new.entries.items), c.self.invariant.0, length-changes (drop c.self.inside.gone c.self.inside.entries.items), length-drop c.self.inside.gone c.self.inside.entries.items, c.self.inside.entries.ok.0)

pub returns-clause-room : goal.returns-clause-room
returns-clause-room c =
    let came = one_came c.self.inside.limit c.self.inside.floor c.version-version.result c.self.inside.gone c.surplus-dropped.result.0 c.self.inside.entries.items
    c.push_reserved.new.self.items c.deref.result.now c.args.changes (omega (arith, c.self.invariant.0, c.self.inside.entries.ok.0)) c.self.invariant.1
    (c.version-version.ensures ∙ sym (ap (λ v. newest v) c.self.view_is)) c.push_reserved.ensures.items c.deref.ensures.value c.surplus-dropped.ensures.dropped in
    omega (arith, came.len, c.self.inside.entries.ok.0, c.push_reserved.new.self.ok.0, c.push_reserved.ensures.capacity, c.leave-self-inside.ensures.room, ap (λ v. v.room) c.self.view_is)
