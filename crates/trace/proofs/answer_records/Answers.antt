use mathlib.Core.Path.{refl}
use Rattle.std.proofs.Common.{rules}
use native.Mathlib.Omega.{arith}
use Rattle.trace.proofs.Laws.{left-start, left-done, left-full, left_cut, left-faulty, left-more, end-bounds, lent-on, turned}
use Rattle.trace.proofs.answer_records.Goals as goal

pub loop-at-init : goal.loop-at-init
loop-at-init c = (search rules, refl, omega arith, omega arith, left-start _ _ _ _ _ _ _ _)

pub returns-then-out-wrote-lt8192-clause-nodes_after : goal.returns-then-out-wrote-lt8192-clause-nodes_after
returns-then-out-wrote-lt8192-clause-nodes_after c = left-full _ _ _ _ _ _ _ _ _ _ _ _ c.loop-at.invariant.4 (omega arith) (omega arith)

pub returns-in_default-clause-nodes_after : goal.returns-in_default-clause-nodes_after
returns-in_default-clause-nodes_after c = left_cut _ _ _ _ _ _ _ _ _ _ _ _ c.loop-at.invariant.4 (omega arith) (omega arith) _ c.record_end.ensures c.in_default.is _ _ c.cut_short.ensures.value.0 c.cut_short.ensures.value.1

pub returns-in_default-answer-clause-nodes_after : goal.returns-in_default-answer-clause-nodes_after
returns-in_default-answer-clause-nodes_after c = left-faulty _ _ _ _ _ _ _ _ _ _ _ _ c.loop-at.invariant.4 c.loop-at-test.true c.if-out-wrote-lt8192.false _ c.record_end.ensures _ c.in-Some.is _ c.part_of-body.ensures _ _ _ (turned _ _ c.loop-at.invariant.0 _ _ _ _ _ _ _ c.answer.ensures.nodes_after) c.in_default-answer.is _ _ c.bad_trace.ensures.value.0 c.bad_trace.ensures.value.1

pub loop-at-smaller : goal.loop-at-smaller
loop-at-smaller c = let b = end-bounds _ _ _ _ c.record_end.ensures c.in-Some.is in omega arith

pub loop-at-preserved : goal.loop-at-preserved
loop-at-preserved c = let b = end-bounds _ _ _ _ c.record_end.ensures c.in-Some.is in let n = c.in-Some-answer.ensures.within in (lent-on _ _ _ c.loop-at.invariant.0 c.answer.ensures.lent, omega arith, omega arith, omega arith, left-more _ _ _ _ _ _ _ _ _ _ _ _ c.loop-at.invariant.4 (omega arith) (omega arith) _ c.record_end.ensures _ c.in-Some.is _ c.part_of-body.ensures _ _ _ (turned _ _ c.loop-at.invariant.0 _ _ _ _ _ _ _ c.answer.ensures.nodes_after) _ c.in-Some-answer.is)

pub returns-clause-nodes_after : goal.returns-clause-nodes_after
returns-clause-nodes_after c = left-done _ _ _ _ _ _ _ _ _ _ _ _ c.loop-at.invariant.4 (omega arith)
