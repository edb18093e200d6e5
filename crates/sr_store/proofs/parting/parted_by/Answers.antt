use Rattle.std.proofs.Common.{◌∙◌, length, sym, ap, subst}
use Rattle.std.specs.List.{All, AllZip}
use Rattle.std.proofs.lemmas.List.Elements.{All-nil}
use Rattle.std.proofs.lemmas.Slice.Zip.{AllZip-long}
use Rattle.sr_store.specs.Making.{IsStill, IsStillOr}
use Rattle.sr_store.proofs.Dropping.{all_flags, all-flagged}
use Rattle.sr_store.proofs.Partings.{still_plain}
use Rattle.sr_store.proofs.parting.parted_by.Goals as goal

pub sift-requires : goal.sift-requires
sift-requires c = sym (AllZip-long (IsStillOr c.args.number c.args.parts.now) c.in_ok-flags.flags c.as_slice.result.now c.in_ok-flags.ensures) ∙ ap length c.as_slice.ensures

pub returns-then-not-settled-clause-parted : goal.returns-then-not-settled-clause-parted
returns-then-not-settled-clause-parted c =
    let all = all-flagged c.args.regions in
    let none = c.new-plain.ensures in (
      all_flags c.args.regions,
      all.0,
      none ∙ sym all.1,
      sym all.2,
      subst (All (IsStill c.args.number c.args.parts.now)) (sym none) (All-nil (IsStill c.args.number c.args.parts.now)),
    )

pub returns-clause-parted : goal.returns-clause-parted
returns-clause-parted c =
    let flags = c.in_ok-flags.flags in
    let are = subst (λ gs. AllZip (IsStillOr c.args.number c.args.parts.now) flags gs) c.as_slice.ensures c.in_ok-flags.ensures in (
      flags,
      sym (AllZip-long (IsStillOr c.args.number c.args.parts.now) flags c.args.regions are),
      c.in_ok-both.ensures.plain,
      c.in_ok-both.ensures.flagged,
      subst (All (IsStill c.args.number c.args.parts.now)) (sym c.in_ok-both.ensures.plain) (still_plain c.args.number c.args.parts.now flags c.args.regions are),
    )
