use Rattle.std.proofs.Common.{◌≡◌, ◌-◌}
use Rattle.candidates.specs.Candidates.{first_keyed}
use Rattle.candidates.proofs.first_keyed.Given as goal

abbrev pub invariant-loop-a : goal.invariant-loop-a
invariant-loop-a l = first_keyed l.program l.key l.a (l.end - l.a) ≡ first_keyed l.program l.key l.from l.count
