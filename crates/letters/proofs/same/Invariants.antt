use mathlib.Core.Path.{◌≡◌}
use Prim.Native.Nat.{◌≤◌}
use lib.ListN.{length, drop}
use Rattle.letters.specs.Bytes.{same_bytes}
use Rattle.letters.proofs.same.Given as goal

abbrev pub invariant-loop-i : goal.invariant-loop-i
invariant-loop-i l = (l.i ≤ length l.a) × ((length l.a ≡ length l.b) × (same_bytes l.f l.g l.a l.b ≡ same_bytes l.f l.g (drop l.i l.a) (drop l.i l.b)))
