use Rattle.std.proofs.Common.{ℕ, sym, ap, ◌∙◌}
use Rattle.counters.proofs.Loops.{found, pair-start, pair-here, pair-later, pair-none, pair-place}
use Rattle.counters.proofs.find_pair.Goals as goal

pub loop-i-init : goal.loop-i-init
loop-i-init c = pair-start _ _ _ _ _ _ c.number_at.ensures.0 c.number_at-top.ensures.0 c.number_at-first.ensures.0

pub returns-then-holds_name-clause-pair : goal.returns-then-holds_name-clause-pair
returns-then-holds_name-clause-pair c = sym (c.loop-i.invariant ∙ pair-here _ _ _ _ _ c.loop-i-test.true _ _ c.number_at-n.ensures.0 c.holds_name.ensures c.if-holds_name.true)

pub loop-i-preserved : goal.loop-i-preserved
loop-i-preserved c = c.loop-i.invariant ∙ ap (λ (p : ℕ). found p c.number_at-top.result) (pair-later _ _ _ _ _ c.loop-i-test.true _ _ c.number_at-n.ensures.0 c.holds_name.ensures c.if-holds_name.false)

pub returns-clause-pair : goal.returns-clause-pair
returns-clause-pair c = pair-none _ _ _ _ _ c.loop-i-test.false ∙ sym c.loop-i.invariant

pub returns-then-holds_name-clause-place : goal.returns-then-holds_name-clause-place
returns-then-holds_name-clause-place c = pair-place _ _ _ _ (returns-then-holds_name-clause-pair c)

pub returns-clause-place : goal.returns-clause-place
returns-clause-place c = pair-place _ _ _ _ (returns-clause-pair c)
