use Rattle.std.proofs.Common.{◌≡◌, ◌≤◌, length, map, vec_capacity}
use Rattle.cluster.specs.declared.cell.ClusterCell.{ClusterCell}
use Rattle.cluster.proofs.closing.unpacked.Given as goal

abbrev pub invariant-loop-cell : goal.invariant-loop-cell
invariant-loop-cell g l = record {
  done : map (λ b. b.value) l.yielded ≡ map ClusterCell.Partition l.partitions.items;
  room : length l.fn.cells.items ≤ vec_capacity l.partitions;
}
