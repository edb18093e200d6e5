use Rattle.std.proofs.Common.{rules}
use Rattle.std.proofs.lemmas.List.Sorted.{IsPartitionPoint-from_clause}
use Rattle.sr_rows.proofs.Places.{point-place}
use Rattle.sr_store.specs.Classes.{is_before}
use Rattle.sr_store.proofs.Joining.{ascends-parted}
use Rattle.sr_store.proofs.add.place_of.Goals as goal

pub returns-clause-place : goal.returns-clause-place
returns-clause-place c =
    let parted = ascends-parted c.args.region.now c.args.regions.now c.requires in
    let point = IsPartitionPoint-from_clause (λ one. is_before one c.args.region.now) _ _ c.partition_point.ensures.partitioned parted (λ a r q k. search rules) in
    point-place (λ one. is_before one c.args.region.now) c.args.regions.now c.partition_point.result c.partition_point.ensures.bound point
