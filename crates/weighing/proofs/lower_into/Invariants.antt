use mathlib.Core.Path.{◌≡◌}
use mathlib.Core.List.{map}
use lib.ListN.{length, drop}
use Rattle.cells.specs.Stretches.{written}
use Rattle.letters.specs.Bytes.{lower_of}
use Rattle.weighing.proofs.lower_into.Given as goal

abbrev pub invariant-loop-i : goal.invariant-loop-i
invariant-loop-i l = (length l.out ≡ length l.initial.out) × (written l.initial.out 0 (map lower_of l.name) ≡ written l.out l.i (map lower_of (drop l.i l.name)))
