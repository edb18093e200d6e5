use Rattle.std.proofs.Common.{◌≡◌, true, false, sym, subst, ap, ◌∙◌, arith}
use Rattle.std.specs.Prelude.{slice_get, slice_set, Some}
use Rattle.std.proofs.lemmas.Result.{on_ok_weaker}
use Rattle.sr_keyed.proofs.Entries.{either_way}
use Rattle.sr_keyed.proofs.Order.{order}
use Rattle.sr_region.specs.Applied.{applied}
use Rattle.sr_regions.specs.Named.{AgreesWith, NamesMore}
use Rattle.sr_regions.specs.Touched.{told_one, is_touched}
use Rattle.sr_regions.proofs.Places.{set-same, read-at, read-same}
use Rattle.sr_regions.proofs.Telling.{untouched, touched, more-names, agrees-told}
use Rattle.sr_regions.proofs.regions.Regions.tell_at.Goals as goal

pub returns-then-not-is_touched-clause-told : goal.returns-then-not-is_touched-clause-told
returns-then-not-is_touched-clause-told g c = λ h there.
    let same : c.index.result.now ≡ h = read-same c.self.inside.list.items c.args.self.now c.args.number c.index.result.now h c.self.view_is c.index.ensures there in
    let no : is_touched c.args.tell.now h ≡ false = subst (λ x. is_touched c.args.tell.now x ≡ false) same (sym c.is_touched.ensures ∙ c.if-not-is_touched.true) in
    sym (ap (slice_set c.args.self.now c.args.number) (untouched c.args.tell.now h no) ∙ set-same c.args.self.now c.args.number h there)

pub returns-then-not-is_touched-clause-bound : goal.returns-then-not-is_touched-clause-bound
returns-then-not-is_touched-clause-bound g c = λ h there.
    let same : c.index.result.now ≡ h = read-same c.self.inside.list.items c.args.self.now c.args.number c.index.result.now h c.self.view_is c.index.ensures there in
    let no : is_touched c.args.tell.now h ≡ false = subst (λ x. is_touched c.args.tell.now x ≡ false) same (sym c.is_touched.ensures ∙ c.if-not-is_touched.true) in
    rw no (omega arith)

pub apply_counted-requires : goal.apply_counted-requires
apply_counted-requires g c =
    let region = c.index_mut.result.now in
    (c.requires.ready.1 region (read-at c.self.inside.list.items c.args.self.now c.args.number region c.self.view_is c.requires.within c.index_mut.ensures.value)).region.1.ascending

pub invariant_of-self : goal.invariant_of-self
invariant_of-self g c =
    let items = c.self.inside.list.items in
    let now = c.args.self.now in
    let region = c.index_mut.result.now in
    let number = c.args.number in
    let tell = c.args.tell.now in
    let there : slice_get now number ≡ Some region = read-at items now number region c.self.view_is c.requires.within c.index_mut.ensures.value in
    let ready = c.requires.ready.1 region there in
    let same : c.index.result.now ≡ region = read-same items now number c.index.result.now region c.self.view_is c.index.ensures there in
    let yes : is_touched tell region ≡ true = subst (λ x. is_touched tell x ≡ true) same (sym c.is_touched.ensures ∙ c.if-not-is_touched.false) in
    let agrees : AgreesWith order c.self.inside.index now = subst (AgreesWith order c.self.inside.index) c.self.view_is c.self.invariant in
    let more : NamesMore order c.self.inside.index c.with_name.result = subst (λ index. NamesMore order index c.with_name.result) c.take.ensures.value c.with_name.ensures.stays in
    let told : AgreesWith order c.with_name.result (slice_set now number (told_one tell region))
    = agrees-told c.requires.ready.0 c.self.inside.index c.with_name.result tell now number region there ready.region ready.tell_is more c.with_name.ensures.added agrees in
    let still : AgreesWith order c.with_name.result now = λ n x at. more-names c.self.inside.index c.with_name.result n x more (agrees n x at) in
    either_way c.apply_counted.result c.apply_counted.ensures.applied c.apply_counted.ensures.unchanged
    (λ applied. subst (λ xs. AgreesWith order c.with_name.result xs) (ap (slice_set now number) (touched tell region yes ∙ sym applied) ∙ ap (λ xs. slice_set xs number c.apply_counted.new.self) (sym c.self.view_is)) told)
    (λ unchanged. subst (λ xs. AgreesWith order c.with_name.result xs) (sym (set-same now number region there) ∙ ap (slice_set now number) (sym unchanged) ∙ ap (λ xs. slice_set xs number c.apply_counted.new.self) (sym c.self.view_is)) still)

pub returns-clause-told : goal.returns-clause-told
returns-clause-told g c = λ h there.
    let items = c.self.inside.list.items in
    let now = c.args.self.now in
    let number = c.args.number in
    let same : c.index.result.now ≡ h = read-same items now number c.index.result.now h c.self.view_is c.index.ensures there in
    let mutable : c.index_mut.result.now ≡ h = read-same items now number c.index_mut.result.now h c.self.view_is c.index_mut.ensures.value there in
    let yes : is_touched c.args.tell.now h ≡ true = subst (λ x. is_touched c.args.tell.now x ≡ true) same (sym c.is_touched.ensures ∙ c.if-not-is_touched.false) in
    on_ok_weaker c.apply_counted.result
    (λ is. ap (λ xs. slice_set xs number c.apply_counted.new.self) c.self.view_is
    ∙ ap (slice_set now number) (is ∙ ap (applied c.args.tell.now.key c.args.tell.now.after) mutable ∙ sym (touched c.args.tell.now h yes)))
    c.apply_counted.ensures.applied

pub returns-clause-bound : goal.returns-clause-bound
returns-clause-bound g c = λ h there.
    let same : c.index.result.now ≡ h = read-same c.self.inside.list.items c.args.self.now c.args.number c.index.result.now h c.self.view_is c.index.ensures there in
    let yes : is_touched c.args.tell.now h ≡ true = subst (λ x. is_touched c.args.tell.now x ≡ true) same (sym c.is_touched.ensures ∙ c.if-not-is_touched.false) in
    rw yes c.apply_counted.ensures.counted
