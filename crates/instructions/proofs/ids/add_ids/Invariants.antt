use Rattle.std.proofs.Common.{◌≡◌, length, drop}
use Rattle.instructions.specs.FoundIds.{with_ids}
use Rattle.instructions.proofs.ids.add_ids.Given as goal

abbrev pub invariant-loop-id : goal.invariant-loop-id
invariant-loop-id l = record { size : length l.ids ≡ length l.initial.ids; same : with_ids l.ids (drop l.id-index l.listed) ≡ with_ids l.initial.ids l.listed }
