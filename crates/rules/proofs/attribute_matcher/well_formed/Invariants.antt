use Rattle.std.proofs.Common.{◌≡◌, length}
use Rattle.rules.specs.Attributes.{well_formed}
use Rattle.rules.proofs.attribute_matcher.well_formed.Given as goal

abbrev pub invariant-loop-rest : goal.invariant-loop-rest
invariant-loop-rest l = well_formed l.size l.rest ≡ well_formed l.size l.outlines

abbrev pub decreases-loop-rest : goal.decreases-loop-rest
decreases-loop-rest l = length l.rest
