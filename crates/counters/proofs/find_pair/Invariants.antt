use Rattle.std.proofs.Common.{◌≡◌, ◌-◌, cond, Some, None}
use Rattle.stack.specs.Stores.{find_pair, pair_of, known}
use Rattle.counters.proofs.Loops.{found}
use Rattle.counters.proofs.find_pair.Given as goal

abbrev pub invariant-loop-i : goal.invariant-loop-i
invariant-loop-i l = cond (known l.rows l.names l.name) (Some (pair_of l.rows l.names l.name)) None ≡ found (find_pair l.rows l.names l.name l.i (l.top - l.i)) l.top
