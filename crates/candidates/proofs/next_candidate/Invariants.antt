use Prim.Native.Nat.{◌≤◌}
use Rattle.candidates.specs.Candidates.{jumps}
use Rattle.candidates.proofs.Searches.{SameLeft}
use Rattle.candidates.proofs.next_candidate.Given as goal

abbrev pub invariant-loop-left : goal.invariant-loop-left
invariant-loop-left l = (l.left ≤ l.budget) × SameLeft l.live.program.now l.live.nodes.now l.live.ranges l.key l.initial.c l.budget l.c l.left

abbrev pub decreases-loop-left : goal.decreases-loop-left
decreases-loop-left l = jumps l.live.ranges l.c
