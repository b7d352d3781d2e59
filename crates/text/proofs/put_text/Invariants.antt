use Prim.Native.Nat.{◌+◌}
use mathlib.Core.Path.{◌≡◌}
use lib.ListN.{length, drop}
use Rattle.cells.specs.Stretches.{written}
use Rattle.text.proofs.put_text.Given as goal

abbrev pub invariant-loop-i : goal.invariant-loop-i
invariant-loop-i l = (length l.out ≡ length l.initial.out) × (written l.initial.out l.at l.text ≡ written l.out (l.at + l.i) (drop l.i l.text))
