use Rattle.std.proofs.Common.{◌≤◌}
use Rattle.vectors.proofs.replay_all.Given as goal

abbrev pub invariant-loop : goal.invariant-loop
invariant-loop g l = (l.programs ≤ l.counter) × (l.libraries ≤ l.counter)
