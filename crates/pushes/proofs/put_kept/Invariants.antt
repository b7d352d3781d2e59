use Rattle.std.proofs.Common.{◌+◌}
use Rattle.cells.specs.Stretches.{cells_from}
use Rattle.pushes.specs.Kept.{is_kept}
use Rattle.pushes.proofs.Nodes.{IsKept}
use Rattle.pushes.proofs.put_kept.Given as goal

abbrev pub invariant-loop-node : goal.invariant-loop-node
invariant-loop-node l = IsKept (is_kept (cells_from l.initial.nodes l.base l.top) l.program l.limit l.block) l.initial.nodes (l.base + l.top) l.found l.nodes l.k l.node-index
