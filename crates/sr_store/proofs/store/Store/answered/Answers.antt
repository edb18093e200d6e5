use Rattle.std.proofs.Common.{inr, ◌∙◌, sym, ap, subst}
use Rattle.std.specs.List.{All}
use Rattle.std.proofs.lemmas.List.Elements.{All-nil}
use Rattle.sr_region.specs.declared.region.Region.{Region}
use Rattle.sr_store.specs.Classes.{ascends}
use Rattle.sr_store.specs.Told.{Told, IsTold, IsTrueOf, AreTrueOf}
use Rattle.sr_store.specs.Stores.{IsOfSchema, IsStore, IsSettled}
use Rattle.sr_store.specs.Answered.{rects_on, AreApart, HaveArrived, IsRenewed}
use Rattle.sr_store.specs.Renewing.{IsCutFrom}
use Rattle.sr_store.specs.Making.{IsOutcome, LiesBy}
use Rattle.sr_store.proofs.Dropping.{evicted_all, evicted_store, evicted_settled}
use Rattle.sr_store.proofs.Fewer.{kept_left, none_store, none_settled}
use Rattle.sr_store.proofs.GivingWay.{old-is, all-lie, way-each, way-order, way-settled, way-apart, way-cuts, some-fits, keeps-answer, given-up}
use Rattle.sr_store.proofs.store.Store.answered.Goals as goal

pub given_way-old-requires-clause-lie : goal.given_way-old-requires-clause-lie
given_way-old-requires-clause-lie c =
    let arrivals = c.args.arrivals in
    let lie = all-lie c.args.schema.now c.args.parts.now c.args.self.now.regions arrivals c.requires.store.each c.requires.arrivals in
    subst (λ rs. All (λ (g : Region). All (LiesBy g) rs) c.into_seq.result) (sym c.as_slice.ensures) (subst (All (λ (g : Region). All (LiesBy g) arrivals)) (sym (c.into_seq.ensures ∙ c.replace-held.ensures.value)) lie)

pub answer_of-requires-clause-each : goal.answer_of-requires-clause-each
answer_of-requires-clause-each c =
    let schema = c.args.schema.now in
    let is = old-is c.given_way-old.result c.into_seq.result c.args.self.now.regions _ c.args.arrivals c.given_way-old.ensures c.as_slice.ensures (c.into_seq.ensures ∙ c.replace-held.ensures.value) in
    subst (All (IsOfSchema schema)) (sym is) (way-each c.args.arrivals schema c.args.self.now.regions c.requires.store.each)

pub answer_of-requires-clause-order : goal.answer_of-requires-clause-order
answer_of-requires-clause-order c =
    let is = old-is c.given_way-old.result c.into_seq.result c.args.self.now.regions _ c.args.arrivals c.given_way-old.ensures c.as_slice.ensures (c.into_seq.ensures ∙ c.replace-held.ensures.value) in
    ap ascends is ∙ way-order c.args.arrivals c.args.self.now.regions ∙ c.requires.store.order

pub answer_of-requires-clause-settled : goal.answer_of-requires-clause-settled
answer_of-requires-clause-settled c =
    let schema = c.args.schema.now in
    let is = old-is c.given_way-old.result c.into_seq.result c.args.self.now.regions _ c.args.arrivals c.given_way-old.ensures c.as_slice.ensures (c.into_seq.ensures ∙ c.replace-held.ensures.value) in
    λ yes. subst (IsSettled schema) (sym is) (way-settled c.args.arrivals schema c.args.self.now.regions (c.requires.settled (sym c.replace-settled.ensures.value ∙ yes)))

pub answer_of-requires-clause-apart : goal.answer_of-requires-clause-apart
answer_of-requires-clause-apart c =
    let schema = c.args.schema.now in
    let is = old-is c.given_way-old.result c.into_seq.result c.args.self.now.regions _ c.args.arrivals c.given_way-old.ensures c.as_slice.ensures (c.into_seq.ensures ∙ c.replace-held.ensures.value) in
    subst (λ gs. AreApart schema gs c.args.arrivals) (sym is) (way-apart c.args.arrivals schema c.args.self.now.regions c.requires.apart)

pub answer_of-requires-clause-told : goal.answer_of-requires-clause-told
answer_of-requires-clause-told c =
    let schema = c.args.schema.now in
    let is = old-is c.given_way-old.result c.into_seq.result c.args.self.now.regions _ c.args.arrivals c.given_way-old.ensures c.as_slice.ensures (c.into_seq.ensures ∙ c.replace-held.ensures.value) in
    subst (λ gs. (told : Told) × IsTold schema told × AreTrueOf told gs × HaveArrived told c.args.arrivals) (sym is)
    (some-fits schema c.args.parts.now c.args.self.now.regions c.args.arrivals c.requires.store c.requires.arrivals c.requires.apart c.requires.own)

pub returns-in-Answered-clause-answered : goal.returns-in-Answered-clause-answered
returns-in-Answered-clause-answered c =
    let made = subst (IsOutcome c.args.schema.now c.args.number c.args.parts.now c.args.arrivals c.given_way-old.result) c.in-Answered.is c.in_ok-answer.ensures in
    let schema = c.args.schema.now in
    let parts = c.args.parts.now in
    let arrivals = c.args.arrivals in
    let answer = c.in-Answered.answer in
    let is = old-is c.given_way-old.result c.into_seq.result c.args.self.now.regions _ arrivals c.given_way-old.ensures c.as_slice.ensures (c.into_seq.ensures ∙ c.replace-held.ensures.value) in
    keeps-answer schema c.args.self.now.limits c.args.number parts arrivals c.args.self.now.regions answer.regions c.keep.new.self.regions answer.marks _ c.keep.result
    c.in_ok-self.ensures
    (subst (λ gs. IsRenewed schema c.args.number parts arrivals gs answer.regions answer.marks) is made.renewed) made.store made.settled
    (λ told is_told old_true rows. made.true_still told is_told (subst (AreTrueOf told) (sym is) old_true) rows)
    c.keep.ensures.kept

pub returns-in-Answered-clause-cuts : goal.returns-in-Answered-clause-cuts
returns-in-Answered-clause-cuts c =
    let made = subst (IsOutcome c.args.schema.now c.args.number c.args.parts.now c.args.arrivals c.given_way-old.result) c.in-Answered.is c.in_ok-answer.ensures in
    let schema = c.args.schema.now in
    let parts = c.args.parts.now in
    let arrivals = c.args.arrivals in
    let regions = c.args.self.now.regions in
    let IsCut = IsCutFrom schema (rects_on regions parts arrivals) in
    let is = old-is c.given_way-old.result c.into_seq.result regions _ arrivals c.given_way-old.ensures c.as_slice.ensures (c.into_seq.ensures ∙ c.replace-held.ensures.value) in
    kept_left schema _ _ _ c.in-Answered.answer.regions c.keep.new.self.regions c.keep.result (All IsCut) (λ n gs p. evicted_all IsCut n gs p) (All-nil IsCut)
    (way-cuts arrivals schema parts regions c.in-Answered.answer.regions (subst (λ gs. All (IsCutFrom schema (rects_on gs parts arrivals)) c.in-Answered.answer.regions) is made.cuts))
    c.keep.ensures.kept c.keep.ensures.nothing_left

pub returns-in-Answered-clause-store : goal.returns-in-Answered-clause-store
returns-in-Answered-clause-store c =
    let made = subst (IsOutcome c.args.schema.now c.args.number c.args.parts.now c.args.arrivals c.given_way-old.result) c.in-Answered.is c.in_ok-answer.ensures in
    let schema = c.args.schema.now in
    kept_left schema _ _ _ c.in-Answered.answer.regions c.keep.new.self.regions c.keep.result (IsStore schema) (λ n gs p. evicted_store schema n gs p)
    (none_store schema c.args.self.now.regions c.requires.store) made.store
    c.keep.ensures.kept c.keep.ensures.nothing_left

pub returns-in-Answered-clause-settled : goal.returns-in-Answered-clause-settled
returns-in-Answered-clause-settled c =
    let made = subst (IsOutcome c.args.schema.now c.args.number c.args.parts.now c.args.arrivals c.given_way-old.result) c.in-Answered.is c.in_ok-answer.ensures in
    let schema = c.args.schema.now in
    kept_left schema _ _ _ c.in-Answered.answer.regions c.keep.new.self.regions c.keep.result (IsSettled schema) (λ n gs p. evicted_settled schema n gs p)
    (none_settled schema) made.settled
    c.keep.ensures.kept c.keep.ensures.nothing_left

pub returns-in-Answered-clause-true_still : goal.returns-in-Answered-clause-true_still
returns-in-Answered-clause-true_still c = λ told is_told old_true rows.
    let made = subst (IsOutcome c.args.schema.now c.args.number c.args.parts.now c.args.arrivals c.given_way-old.result) c.in-Answered.is c.in_ok-answer.ensures in
    let is = old-is c.given_way-old.result c.into_seq.result c.args.self.now.regions _ c.args.arrivals c.given_way-old.ensures c.as_slice.ensures (c.into_seq.ensures ∙ c.replace-held.ensures.value) in
    kept_left c.args.schema.now _ _ _ c.in-Answered.answer.regions c.keep.new.self.regions c.keep.result (AreTrueOf told) (λ n gs p. evicted_all (IsTrueOf told) n gs p) (All-nil (IsTrueOf told))
    (made.true_still told is_told (subst (AreTrueOf told) (sym is) old_true) rows)
    c.keep.ensures.kept c.keep.ensures.nothing_left

pub returns-in-GivenUp-clause-answered : goal.returns-in-GivenUp-clause-answered
returns-in-GivenUp-clause-answered c =
    let parts = c.args.parts.now in
    let arrivals = c.args.arrivals in
    let regions = c.args.self.now.regions in
    let old = c.given_way-old.result in
    let is = old-is old c.into_seq.result regions _ arrivals c.given_way-old.ensures c.as_slice.ensures (c.into_seq.ensures ∙ c.replace-held.ensures.value) in
    let made = subst (IsOutcome c.args.schema.now c.args.number parts arrivals old) c.in-GivenUp.is c.in_ok-answer.ensures in
    inr (given-up c.args.schema.now parts arrivals regions old c.replace-held.new.dest c.in-GivenUp.drops is made.0 made.1 (c.replace-held.ensures.after ∙ c.new.ensures))

pub returns-in-GivenUp-clause-cuts : goal.returns-in-GivenUp-clause-cuts
returns-in-GivenUp-clause-cuts c =
    let IsCut = IsCutFrom c.args.schema.now (rects_on c.args.self.now.regions c.args.parts.now c.args.arrivals) in
    subst (All IsCut) (sym (c.replace-held.ensures.after ∙ c.new.ensures)) (All-nil IsCut)

pub returns-in-GivenUp-clause-store : goal.returns-in-GivenUp-clause-store
returns-in-GivenUp-clause-store c =
    subst (IsStore c.args.schema.now) (sym (c.replace-held.ensures.after ∙ c.new.ensures)) (none_store c.args.schema.now c.args.self.now.regions c.requires.store)

pub returns-in-GivenUp-clause-settled : goal.returns-in-GivenUp-clause-settled
returns-in-GivenUp-clause-settled c = subst (IsSettled c.args.schema.now) (sym (c.replace-held.ensures.after ∙ c.new.ensures)) (none_settled c.args.schema.now)

pub returns-in-GivenUp-clause-true_still : goal.returns-in-GivenUp-clause-true_still
returns-in-GivenUp-clause-true_still c = λ told is_told old_true rows. subst (AreTrueOf told) (sym (c.replace-held.ensures.after ∙ c.new.ensures)) (All-nil (IsTrueOf told))

pub returns-in_err-answer-clause-cuts : goal.returns-in_err-answer-clause-cuts
returns-in_err-answer-clause-cuts c =
    let IsCut = IsCutFrom c.args.schema.now (rects_on c.args.self.now.regions c.args.parts.now c.args.arrivals) in
    subst (All IsCut) (sym (c.replace-held.ensures.after ∙ c.new.ensures)) (All-nil IsCut)

pub returns-in_err-answer-clause-store : goal.returns-in_err-answer-clause-store
returns-in_err-answer-clause-store c =
    subst (IsStore c.args.schema.now) (sym (c.replace-held.ensures.after ∙ c.new.ensures)) (none_store c.args.schema.now c.args.self.now.regions c.requires.store)

pub returns-in_err-answer-clause-settled : goal.returns-in_err-answer-clause-settled
returns-in_err-answer-clause-settled c = subst (IsSettled c.args.schema.now) (sym (c.replace-held.ensures.after ∙ c.new.ensures)) (none_settled c.args.schema.now)

pub returns-in_err-answer-clause-true_still : goal.returns-in_err-answer-clause-true_still
returns-in_err-answer-clause-true_still c = λ told is_told old_true rows. subst (AreTrueOf told) (sym (c.replace-held.ensures.after ∙ c.new.ensures)) (All-nil (IsTrueOf told))

pub returns-in_err-self-clause-cuts : goal.returns-in_err-self-clause-cuts
returns-in_err-self-clause-cuts c =
    let IsCut = IsCutFrom c.args.schema.now (rects_on c.args.self.now.regions c.args.parts.now c.args.arrivals) in
    subst (All IsCut) (sym (c.replace-held.ensures.after ∙ c.new.ensures)) (All-nil IsCut)

pub returns-in_err-self-clause-store : goal.returns-in_err-self-clause-store
returns-in_err-self-clause-store c =
    subst (IsStore c.args.schema.now) (sym (c.replace-held.ensures.after ∙ c.new.ensures)) (none_store c.args.schema.now c.args.self.now.regions c.requires.store)

pub returns-in_err-self-clause-settled : goal.returns-in_err-self-clause-settled
returns-in_err-self-clause-settled c = subst (IsSettled c.args.schema.now) (sym (c.replace-held.ensures.after ∙ c.new.ensures)) (none_settled c.args.schema.now)

pub returns-in_err-self-clause-true_still : goal.returns-in_err-self-clause-true_still
returns-in_err-self-clause-true_still c = λ told is_told old_true rows. subst (AreTrueOf told) (sym (c.replace-held.ensures.after ∙ c.new.ensures)) (All-nil (IsTrueOf told))
