use Rattle.std.proofs.Common.{◌≤◌, length}
use Rattle.replays.proofs.replay_calls.Given as goal

abbrev pub invariant-loop : goal.invariant-loop
invariant-loop l = (l.s.wrote ≤ 131072) × (l.s.size ≤ length l.program)
