use native.Mathlib.Omega.{arith}
use Rattle.exec.proofs.TestBudget.{over-within, past-within, at-within, at-below}
use Rattle.exec.proofs.scan.Scan.next.Goals as goal

pub returns-in_err-d : goal.returns-in_err-d
returns-in_err-d c = rw c.from_residual.ensures (over-within _ _ _ _ _ _ _ c.next_candidate.ensures _ _ c.in_err-d.was)

pub overflow_cast-d : goal.overflow_cast-d
overflow_cast-d c = let z = at-below _ _ _ _ _ _ _ c.next_candidate.ensures _ _ c.in_ok-d.was in omega arith

pub returns-then-bytes-taken : goal.returns-then-bytes-taken
returns-then-bytes-taken c = past-within _ _ _ _ _ _ _ c.next_candidate.ensures _ _ c.in_ok-d.was _ _ _ c.tests_bytes-taken.ensures c.if-bytes-taken.true

pub returns : goal.returns
returns c = at-within _ _ _ _ _ _ _ c.next_candidate.ensures _ _ c.in_ok-d.was _ _ _ c.tests_bytes-taken.ensures c.if-bytes-taken.false
