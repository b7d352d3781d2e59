use mathlib.Core.Path.{◌∙◌}
use native.Mathlib.Omega.{arith}
use borrow.Author.Tests.{ne_eqb}
use Rattle.nth.proofs.Signed.{wide, diff-abs, abs-fits, s-is, d-is, rem-fits, answer-zero, answer-part, answer-falls, answer-rises}
use Rattle.nth.proofs.nth.Goals as goal

pub overflow_cast-s : goal.overflow_cast-s
overflow_cast-s c = rw (s-is _ _ _ c.ranges.step c.ranges.offset c.ranges.index) (wide _ c.ranges.step)

pub overflow_cast-d-2 : goal.overflow_cast-d-2
overflow_cast-d-2 c = rw (s-is _ _ _ c.ranges.offset c.ranges.step c.ranges.index) (wide _ c.ranges.offset)

pub overflow_sub-d : goal.overflow_sub-d
overflow_sub-d c = rw (d-is _ _ _ c.ranges.step c.ranges.offset c.ranges.index) (abs-fits _ (diff-abs _ _ c.ranges.index c.ranges.offset))

pub returns-then-s-eq0 : goal.returns-then-s-eq0
returns-then-s-eq0 c = answer-zero _ _ _ c.ranges.step c.ranges.offset c.ranges.index c.if-s-eq0.true

pub nonzero_rem-d : goal.nonzero_rem-d
nonzero_rem-d c = (omega arith, rem-fits _ _ _ c.ranges.step c.ranges.offset c.ranges.index)

pub returns-else-d-s-eq0 : goal.returns-else-d-s-eq0
returns-else-d-s-eq0 c = ne_eqb _ _ c.if-d-s-eq0.false ∙ answer-part _ _ _ c.ranges.step c.ranges.offset c.ranges.index c.if-s-eq0.false c.if-d-s-eq0.false

pub returns-then-s-lt0 : goal.returns-then-s-lt0
returns-then-s-lt0 c = answer-falls _ _ _ c.ranges.step c.ranges.offset c.ranges.index c.if-s-eq0.false c.if-d-s-eq0.true c.if-s-lt0.true

pub returns-else-s-lt0 : goal.returns-else-s-lt0
returns-else-s-lt0 c = answer-rises _ _ _ c.ranges.step c.ranges.offset c.ranges.index c.if-s-eq0.false c.if-d-s-eq0.true c.if-s-lt0.false
