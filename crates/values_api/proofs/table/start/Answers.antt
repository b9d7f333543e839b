use Rattle.std.proofs.Common.{rules}
use Rattle.std.proofs.lemmas.List.Sorted.{IsPartitionPoint-from_clause}
use Rattle.values_api.specs.Tables.{is_before}
use Rattle.values_api.proofs.Between.{partitioned}
use Rattle.values_api.proofs.table.start.Goals as goal

pub returns : goal.returns
returns c =
    IsPartitionPoint-from_clause (is_before c.args.line c.args.from) c.args.places.now _
    c.partition_point.ensures.partitioned (partitioned c.args.places.now c.requires c.args.line c.args.from)
    (λ x b f' k. search rules)
