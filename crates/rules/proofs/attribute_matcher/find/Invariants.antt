use Rattle.std.proofs.Common.{◌≡◌, length}
use Rattle.letters.specs.Bytes.{fold}
use Rattle.rules.specs.Places.{find_in}
use Rattle.rules.proofs.attribute_matcher.find.Given as goal

abbrev pub invariant-loop-rest : goal.invariant-loop-rest
invariant-loop-rest l = find_in l.input (fold l.ignore l.name) l.rest ≡ find_in l.input (fold l.ignore l.name) l.outlines

abbrev pub decreases-loop-rest : goal.decreases-loop-rest
decreases-loop-rest l = length l.rest
