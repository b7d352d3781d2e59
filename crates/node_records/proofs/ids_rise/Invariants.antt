use Rattle.std.proofs.Common.{◌≡◌, drop}
use Rattle.node_records.specs.Checks.{rising}
use Rattle.node_records.proofs.ids_rise.Given as goal

abbrev pub invariant-loop-id : goal.invariant-loop-id
invariant-loop-id l = rising 0 l.ids ≡ rising l.least (drop l.id-index l.ids)
