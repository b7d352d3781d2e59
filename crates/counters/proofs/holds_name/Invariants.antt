use Rattle.std.proofs.Common.{◌≡◌, ◌+◌, ◌-◌, length, drop}
use Rattle.stack.specs.Stores.{holds_name}
use Rattle.counters.proofs.holds_name.Given as goal

abbrev pub invariant-loop-i : goal.invariant-loop-i
invariant-loop-i l = holds_name l.names l.at l.n l.name ≡ holds_name l.names (l.at + l.i) (length l.name - l.i) (drop l.i l.name)
