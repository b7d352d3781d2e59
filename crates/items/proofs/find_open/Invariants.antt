use Rattle.std.proofs.Common.{◌≡◌, ◌≤◌}
use Rattle.stack.specs.Stores.{opens, nearest}
use Rattle.items.proofs.find_open.Given as goal

abbrev pub invariant-loop-k : goal.invariant-loop-k
invariant-loop-k l = (l.k ≤ opens l.rows) × (nearest l.rows l.names l.name (opens l.rows) ≡ nearest l.rows l.names l.name l.k)
