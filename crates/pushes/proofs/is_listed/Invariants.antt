use Rattle.std.proofs.Common.{◌≡◌, ◌+◌, ◌-◌}
use Rattle.cells.specs.Stretches.{cells_from}
use Rattle.stack.specs.Stores.{listed}
use Rattle.pushes.proofs.is_listed.Given as goal

abbrev pub invariant-loop-j : goal.invariant-loop-j
invariant-loop-j l = listed l.node (cells_from l.nodes l.at l.n) ≡ listed l.node (cells_from l.nodes (l.at + l.j) (l.n - l.j))
