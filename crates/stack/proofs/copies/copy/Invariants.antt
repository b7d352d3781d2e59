use Rattle.std.proofs.Common.{◌≡◌}
use Rattle.cells.specs.Stretches.{cells_or, written}
use Rattle.stack.proofs.copies.copy.Given as goal

abbrev pub invariant-loop-i : goal.invariant-loop-i
invariant-loop-i g l = l.to ≡ written l.initial.to l.at (cells_or g.T.Cell.empty l.from l.start l.i)
