use Prim.Native.Nat.{◌≤◌}
use Rattle.case_lines.proofs.put_sets.Given as goal

abbrev pub invariant-loop-words : goal.invariant-loop-words
invariant-loop-words l = l.next ≤ 143360
