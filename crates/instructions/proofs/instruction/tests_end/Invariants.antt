use Rattle.std.proofs.Common.{◌≡◌, ◌+◌, ◌-◌, ◌*◌, ◌≤◌}
use Rattle.instructions.specs.Instructions.{tests_end}
use Rattle.instructions.proofs.instruction.tests_end.Given as goal

abbrev pub invariant-loop-done : goal.invariant-loop-done
invariant-loop-done l = record { low : l.from ≤ l.at; room : l.at + (l.count - l._done) * 65537 ≤ l.from + l.count * 65537; same : tests_end l.sheet (l.count - l._done) l.at ≡ tests_end l.sheet l.count l.from }
