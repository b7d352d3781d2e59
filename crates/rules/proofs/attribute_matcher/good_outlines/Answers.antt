use Rattle.std.proofs.Common.{⊎_elim, ◌∙◌, arith}
use borrow.Author.Tests.{le-leb, lt-leb}
use Rattle.rules.specs.Attributes.{good_outlines}
use Rattle.rules.proofs.attribute_matcher.good_outlines.Goals.{then-input-le-MAX_INPUT, else-input-le-MAX_INPUT}
use Rattle.rules.proofs.attribute_matcher.good_outlines.Goals as goal

pub returns-then-outlines-le-MAX_OUTLINES : goal.returns-then-outlines-le-MAX_OUTLINES
unfolding good_outlines
returns-then-outlines-le-MAX_OUTLINES c = rw (le-leb _ _ c.if-outlines-le-MAX_OUTLINES.true.0, le-leb _ _ c.if-outlines-le-MAX_OUTLINES.true.1) c.well_formed-then-outlines-le-MAX_OUTLINES.ensures

pub returns-else-outlines-le-MAX_OUTLINES : goal.returns-else-outlines-le-MAX_OUTLINES
unfolding good_outlines
returns-else-outlines-le-MAX_OUTLINES c = elim c.if-input-le-MAX_INPUT.branch [
  | then-input-le-MAX_INPUT w ↦ ⊎_elim (λ p. w.t-4-is ∙ rw (le-leb _ _ p.0, lt-leb _ _ p.1)) (λ q. let h = w.if-input-le-MAX_INPUT.true in absurd (omega (arith, h, q))) c.if-outlines-le-MAX_OUTLINES.either
  | else-input-le-MAX_INPUT w ↦ w.t-4-is ∙ rw (lt-leb _ _ w.if-input-le-MAX_INPUT.false)
]
