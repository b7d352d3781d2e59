use Rattle.std.proofs.Common.{◌≡◌, length, drop}
use Rattle.instructions.specs.FoundIds.{with_ids_of}
use Rattle.instructions.proofs.ids.gather_ids.Given as goal

abbrev pub invariant-loop-a : goal.invariant-loop-a
invariant-loop-a l = record { size : length l.ids ≡ length l.initial.ids; same : with_ids_of l.sheet l.program l.ids (drop l.a-index l.found) ≡ with_ids_of l.sheet l.program l.initial.ids l.found }
