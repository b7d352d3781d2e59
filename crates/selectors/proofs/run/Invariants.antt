use Rattle.std.proofs.Common.{◌*◌, ◌≤◌, length}
use Rattle.trace_blocks.specs.Progress.{Sound}
use Rattle.selectors.proofs.run.Given as goal

abbrev pub invariant-loop : goal.invariant-loop
invariant-loop g l = Sound l.p (length l.input) × (l.p.place ≤ l.counter * 131072)
