use Rattle.std.proofs.Common.{◌≡◌, [], ◌∷◌, None, Err, refl, ap, subst, ◌∙◌}
use Rattle.std.specs.Prelude.{IsErrOf}
use Rattle.sr_cli.specs.Leaves.{NotRead}
use Rattle.sr_cli.specs.Seen.{AddsLoad}
use Rattle.std.proofs.lemmas.List.{drop_all}
use Rattle.sr_cli.proofs.SameFiles.{are_short}
use Rattle.sr_cli.proofs.ReadSoFar.{all_read, none_read, one_not_read, one_read, one_unheld}
use Rattle.sr_cli.proofs.loads.read_loads.Goals as goal

no_is : {T E : Type 0} (a b : E) → IsErrOf {T = T} (Err a) b → a ≡ b
no_is a b is = cc

pub loop-word-init : goal.loop-word-init
loop-word-init g c = record {
  read = none_read _ _ _ c.new-loads.ensures;
  same_faults = refl;
  stays = record { stays_steady = λ s. s; writing_stays = refl; linking_stays = refl; held_stays = refl; complaints_stay = refl };
}

pub loop-word-preserved : goal.loop-word-preserved
loop-word-preserved g c =
    let before = c.loop-word.invariant in
    let did = c.in-Ok.ensures in
    let stays = c.add_load.ensures.stays in
    let adds = subst (λ h. AddsLoad h c.word-item.result c.loop-word.loads c.add_load.new.loads) before.stays.held_stays did.read in
    record {
      read = one_read _ c.args.words.now c.loop-word.word-index c.word-item.result c.loop-word.loads c.add_load.new.loads c.loop-word-test.true c.word-item.is before.read adds;
      same_faults = did.ok_keeps_faults ∙ before.same_faults;
      stays = record {
        stays_steady = λ s. stays.stays_steady (before.stays.stays_steady s);
        writing_stays = stays.writing_stays ∙ before.stays.writing_stays;
        linking_stays = stays.linking_stays ∙ before.stays.linking_stays;
        held_stays = stays.held_stays ∙ before.stays.held_stays;
        complaints_stay = stays.complaints_stay ∙ before.stays.complaints_stay;
      };
    }

pub returns-in-Err-clause-not_read : goal.returns-in-Err-clause-not_read
returns-in-Err-clause-not_read g c =
    let before = c.loop-word.invariant in
    one_not_read _ c.args.words.now c.loop-word.word-index c.word-item.result c.loop-word.loads (g.H.Outside.reading c.args.host.now) (g.H.Outside.reading c.loop-word.host) (g.H.Outside.reading c.add_load.new.host) c.in-Err.no
    c.loop-word-test.true c.word-item.is before.read before.same_faults
    (subst (λ h. NotRead h (c.word-item.result.file ∷ []) (g.H.Outside.reading c.loop-word.host) (g.H.Outside.reading c.add_load.new.host) c.in-Err.no) before.stays.held_stays c.in-Err.ensures.not_read)

pub returns-in-Err-clause-steady : goal.returns-in-Err-clause-steady
returns-in-Err-clause-steady g c = λ steady is.
    let before = c.loop-word.invariant in
    one_unheld _ c.args.words.now c.loop-word.word-index c.word-item.result c.loop-word.loads c.loop-word-test.true c.word-item.is before.read
    (subst (λ h. h c.word-item.result.file ≡ None) before.stays.held_stays (c.in-Err.ensures.steady (before.stays.stays_steady steady) (ap Err (no_is _ _ is))))

pub returns-in-Err-clause-stays : goal.returns-in-Err-clause-stays
returns-in-Err-clause-stays g c =
    let before = c.loop-word.invariant.stays in
    let stays = c.add_load.ensures.stays in
    record {
      stays_steady = λ s. stays.stays_steady (before.stays_steady s);
      writing_stays = stays.writing_stays ∙ before.writing_stays;
      linking_stays = stays.linking_stays ∙ before.linking_stays;
      held_stays = stays.held_stays ∙ before.held_stays;
      complaints_stay = stays.complaints_stay ∙ before.complaints_stay;
    }

pub returns-clause-short : goal.returns-clause-short
returns-clause-short g c =
    let past = drop_all c.loop-word.word-index c.args.words.now c.loop-word-test.false in
    are_short _ c.args.words.now c.loop-word.loads (all_read _ c.args.words.now c.loop-word.loads _ past c.loop-word.invariant.read)
