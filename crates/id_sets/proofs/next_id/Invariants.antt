use mathlib.Core.Path.{◌≡◌}
use Prim.Native.Nat.{◌+◌, ◌-◌, ◌*◌, ◌<◌}
use Rattle.id_sets.specs.Ids.{ids_from}
use Rattle.id_sets.proofs.next_id.Given as goal

abbrev pub invariant-loop-i : goal.invariant-loop-i
invariant-loop-i l = (l.passed < 64) × (ids_from l.words l.from (65536 - l.from) ≡ ids_from l.words (l.i * 64 + l.passed) (65536 - (l.i * 64 + l.passed)))
