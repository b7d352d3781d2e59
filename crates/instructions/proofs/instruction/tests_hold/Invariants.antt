use Rattle.std.proofs.Common.{◌≡◌, Bool, List, ℕ, ◌+◌, ◌-◌, ◌*◌, ◌≤◌}
use Rattle.std.specs.Fn.{FnReturnsAt}
use Rattle.instructions.specs.Instructions.{tests_hold}
use Rattle.instructions.proofs.instruction.tests_hold.Given as goal

abbrev pub invariant-loop-done : goal.invariant-loop-done
invariant-loop-done g l = record {
  room : l.at + (l.count - l._done) * 65537 ≤ l.from + l.count * 65537;
  same : (p : List ℕ → Bool) → ((test : List ℕ) (r : Bool) → FnReturnsAt g.F.Fn l.passes test r → r ≡ p test) → tests_hold p l.sheet (l.count - l._done) l.at ≡ tests_hold p l.sheet l.count l.from;
}
