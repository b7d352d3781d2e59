use Rattle.std.proofs.Common.{◌≡◌, ◌+◌, ◌-◌, ◌*◌, length}
use Rattle.compiler.specs.Placing.{lay_trees, Room}
use Rattle.compiler.proofs.+compile_node_compile_nodes.Given as goal

abbrev pub decreases-compile_node : goal.decreases-compile_node
decreases-compile_node l = 2 * l.depth

abbrev pub decreases-compile_nodes : goal.decreases-compile_nodes
decreases-compile_nodes l = 2 * l.depth + 1

abbrev pub invariant-compile_nodes-loop-to : goal.invariant-compile_nodes-loop-to
invariant-compile_nodes-loop-to l = record {
  kept : length l.store ≡ length l.initial.store;
  so_far : lay_trees l.depth l.s l.count l.fn.start.next l.slot l.fn.start.free l.initial.store ≡ lay_trees l.depth l.s (l.slot + l.count - l.to) l.here.next l.to l.here.free l.store;
  room : Room l.s l.depth (l.slot + l.count - l.to) l.here.next l.to l.here.free;
}
