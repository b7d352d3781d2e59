use mathlib.Core.Path.{refl, sym, ◌∙◌}
use native.Mathlib.Omega.{arith}
use Rattle.candidates.proofs.Searches.{nothing_left, jumped, jumped-to, jumped-over, reached-here}
use Rattle.candidates.proofs.next_candidate.Goals as goal

pub loop-left-init : goal.loop-left-init
loop-left-init c = (omega arith, refl)

pub returns-then-a-c : goal.returns-then-a-c
returns-then-a-c c = reached-here _ _ _ _ _ _ c.loop-left.c _ _ _ c.stretch-count.ensures.0 c.first_keyed-a.ensures.0 c.loop-left.invariant.1 c.loop-left.invariant.0 (omega arith) (omega arith) (omega arith)

pub returns-in_err-c : goal.returns-in_err-c
returns-in_err-c c = rw c.from_residual.ensures (jumped-over _ _ _ _ _ _ c.loop-left.c _ _ _ c.stretch-count.ensures.0 c.first_keyed-a.ensures.0 c.loop-left.invariant.1 (omega arith) (sym c.jump.ensures ∙ c.in_err-c.was))

pub loop-left-smaller : goal.loop-left-smaller
loop-left-smaller c = (jumped _ _ _ c.loop-left.c c.in_ok-c.c (sym c.jump.ensures ∙ c.in_ok-c.was)).less

pub loop-left-preserved : goal.loop-left-preserved
loop-left-preserved c = let g = c.args in (omega arith, jumped-to _ _ _ _ g.from g.budget c.loop-left.c _ _ _ c.stretch-count.ensures.0 c.first_keyed-a.ensures.0 c.in_ok-c.c c.loop-left.invariant.1 (omega arith) (sym c.jump.ensures ∙ c.in_ok-c.was))

pub returns : goal.returns
returns c = nothing_left _ _ _ _ _ _ c.loop-left.c c.loop-left.left c.loop-left.invariant.1 (omega arith)
