use Rattle.std.proofs.Common.{◌≡◌, ◌-◌}
use Rattle.compiler.specs.Placing.{RecordsInside, records_use}
use Rattle.compiler.proofs.uses_nth_of_type.Given as goal

abbrev pub invariant-loop : goal.invariant-loop
invariant-loop l = record {
  inside : RecordsInside l.s (l.count - l.counter) l.here;
  same : records_use l.s l.count l.at ≡ records_use l.s (l.count - l.counter) l.here;
}
