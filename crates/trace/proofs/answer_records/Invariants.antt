use mathlib.Core.Path.{◌≡◌}
use Prim.Native.Nat.{◌-◌, ◌≤◌}
use lib.ListN.{length}
use Rattle.stack.specs.Lent.{contents, SameLoans}
use Rattle.trace.proofs.Laws.{Left}
use Rattle.trace.proofs.answer_records.Given as goal

abbrev pub invariant-loop-at : goal.invariant-loop-at
invariant-loop-at l = SameLoans l.initial.machine l.machine × (length l.out ≡ length l.initial.out) × (l.at ≤ length l.block) × (l.wrote ≤ length l.out) × Left l.initial.machine.sheet.now l.initial.machine.program.now l.block l.last l.place l.first l.initial.out (contents l.initial.machine) l.at l.wrote l.out (contents l.machine)

abbrev pub decreases-loop-at : goal.decreases-loop-at
decreases-loop-at l = length l.block - l.at
