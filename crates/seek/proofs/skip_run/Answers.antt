-- `seek::skip_run` meets its contract. The part is the run, and what the library finds in it is where it goes on (`skipped_to`).
use Rattle.std.proofs.Common.{ltb, rules}
use Rattle.std.proofs.lemmas.List.Sorted.{IsPartitionPoint-from_clause, IsPartitionedBy-ltb}
use Rattle.merge.specs.Runs.{rest}
use Rattle.seek.proofs.Skipping.{asc_up, skipped_to}
use Rattle.seek.proofs.skip_run.Goals as goal

pub returns : goal.returns
returns c =
    let a = c.args in
    let l = rest a.x a.e a.base.now in
    let parted = IsPartitionedBy-ltb (λ y. y) l a.end (asc_up l c.requires.2) in
    let at = IsPartitionPoint-from_clause (λ y. ltb y a.end) l _ c.partition_point.ensures.partitioned parted (λ b r q k. search rules) in
    skipped_to a.end a.x a.e a.base.now c.partition_point.result c.requires.0 c.requires.1 c.partition_point.ensures.bound at
