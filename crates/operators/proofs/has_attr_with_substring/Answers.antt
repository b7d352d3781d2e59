use mathlib.Core.Path.{sym, ◌∙◌}
use mathlib.Core.Bool.{true, false}
use native.Mathlib.Omega.{arith}
use Rattle.operators.specs.Operators.{substring_holds}
use Rattle.operators.proofs.Turns.{empty-is, contains-step, contains-end}
use Rattle.operators.proofs.has_attr_with_substring.Goals as goal

pub returns-then-is_empty : goal.returns-then-is_empty
unfolding substring_holds
returns-then-is_empty c = rw (← empty-is c.args.operand.now, sym c.is_empty.ensures ∙ c.if-is_empty.true)

pub loop-i-init : goal.loop-i-init
unfolding substring_holds
loop-i-init c = let e = sym (empty-is c.args.operand.now) ∙ sym c.is_empty.ensures ∙ c.if-is_empty.false in (e, rw e)

pub returns-then-begins : goal.returns-then-begins
returns-then-begins c = sym (c.loop-i.invariant.1 ∙ contains-step _ _ _ c.loop-i.i _ true (omega arith) c.begins.ensures c.if-begins.true)

pub loop-i-preserved : goal.loop-i-preserved
loop-i-preserved c = (c.loop-i.invariant.0, c.loop-i.invariant.1 ∙ contains-step _ _ _ c.loop-i.i _ false (omega arith) c.begins.ensures c.if-begins.false)

pub returns : goal.returns
returns c = sym (c.loop-i.invariant.1 ∙ contains-end _ _ _ c.loop-i.i (omega arith) c.loop-i.invariant.0)
