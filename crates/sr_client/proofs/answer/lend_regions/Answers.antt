use Rattle.std.proofs.Common.{rules, refl, ◌∷◌, [], ◌++◌, sym, List, subst, take}
use Rattle.sr_model.specs.Queries.{rows_at}
use Rattle.sr_region.specs.declared.region.Region.{Region}
use Rattle.sr_store.specs.Told.{told_of, IsTrueOf}
use Rattle.sr_store.specs.Stores.{IsOfSchema}
use Rattle.sr_join.specs.declared.runs.Run.{Run}
use Rattle.sr_client.specs.Answering.{is_kept, LendsMore}
use Rattle.sr_client.proofs.Items.{take-item, take-end}
use Rattle.sr_client.proofs.LendLemmas.{lends-no_region, lent-region, passed-region, apart-region}
use Rattle.sr_client.proofs.answer.lend_regions.Goals.{then-serves+then-meets+in_ok-lend, then-serves+else-meets, else-serves}
use Rattle.sr_client.proofs.answer.lend_regions.Goals as goal

pub loop-region-init : goal.loop-region-init
loop-region-init c = λ schema tables o rows. lends-no_region c.args.number c.args.part.now (rows_at tables c.args.part.now.table) c.args.lending.now.runs

pub returns : goal.returns
returns c = λ schema tables o rows.
    let part = c.args.part.now in
    subst (λ gs. LendsMore c.args.number part.need (rows_at tables part.table) (is_kept part gs) c.args.lending.now.runs c.loop-region.lending.runs)
    (take-end c.args.regions.now c.loop-region.region-index c.loop-region-test.false) (c.loop-region.invariant schema tables o rows)

pub loop-region-preserved : goal.loop-region-preserved
loop-region-preserved c = λ schema tables o rows.
    let i = c.loop-region.region-index in
    let number = c.args.number in
    let part = c.args.part.now in
    let region : Region = c.region-item.result in
    let before = c.loop-region.invariant schema tables o rows in
    let each = subst (IsOfSchema schema) (sym c.region-item.is) (rows.each i region (search rules)) in
    let is_true = subst (IsTrueOf (told_of tables)) (sym c.region-item.is) (rows.are_true i region (search rules)) in
    let items = take-item c.args.regions.now i region (search rules) c.region-item.is in
    let first : List Run = c.args.lending.now.runs in
    let old : List Run = c.loop-region.lending.runs in
    subst (λ gs. LendsMore number part.need (rows_at tables part.table) (is_kept part gs) first c.if-serves.lending.runs) (sym items)
    (elim c.if-serves.branch [
      | then-serves+then-meets+in_ok-lend w ↦
          subst (λ l. LendsMore number part.need (rows_at tables part.table) (is_kept part (take i c.args.regions.now ++ region ∷ [])) first l.runs) (sym w.lending-is)
          (subst (LendsMore number part.need (rows_at tables part.table) (is_kept part (take i c.args.regions.now ++ region ∷ [])) first) (sym w.in_ok-lend.ensures.lent)
          (lent-region schema tables number part (take i c.args.regions.now) region w.rows_in.result first old o each is_true (sym w.if-serves.ensures) w.rows_in.ensures.attrs w.rows_in.ensures.rows before))
      | then-serves+else-meets w ↦
          subst (λ l. LendsMore number part.need (rows_at tables part.table) (is_kept part (take i c.args.regions.now ++ region ∷ [])) first l.runs) (sym w.lending-is)
          (apart-region schema tables number part (take i c.args.regions.now) region first old (sym w.if-serves.ensures) (λ p. w.if-meets.ensures.apart p refl) before)
      | else-serves w ↦
          subst (λ l. LendsMore number part.need (rows_at tables part.table) (is_kept part (take i c.args.regions.now ++ region ∷ [])) first l.runs) (sym w.lending-is)
          (passed-region schema tables number part (take i c.args.regions.now) region first old (sym w.if-serves.ensures) before)
    ])
