use Rattle.std.proofs.lemmas.Result.{err_from_is_err_and}
use mathlib.Core.Path.{refl}
use native.Mathlib.Omega.{arith}
use Rattle.weighing.specs.Passing.{numbered, end-passed}
use Rattle.ends.proofs.Calling.{end-state, end_tag, end-lowered}
use Rattle.ends.proofs.end.Goals as goal

pub returns-in_err-check_state : goal.returns-in_err-check_state
returns-in_err-check_state c = let p = err_from_is_err_and c.from_residual.result c.from_residual.ensures.1 in rw (p.1, p.2) (end-state _ _ _ _ _ _ c.in_err-check_state.ensures (numbered _))

pub returns-in_err-check_end : goal.returns-in_err-check_end
returns-in_err-check_end c = let p = err_from_is_err_and c.from_residual-in_err-check_end.result c.from_residual-in_err-check_end.ensures.1 in rw (p.1, p.2) (end_tag _ _ _ _ _ _ c.in_ok-check_state.ensures refl _ c.in_err-check_end.ensures (numbered _))

pub slice_bounds-end_lowered-end : goal.slice_bounds-end_lowered-end
slice_bounds-end_lowered-end c = let n = end-passed _ _ _ c.in_ok-check_end.ensures refl in omega (arith, n)

pub returns : goal.returns
returns c = let n = end-passed _ _ _ c.in_ok-check_end.ensures refl in end-lowered _ _ _ _ _ _ c.in_ok-check_state.ensures refl _ c.in_ok-check_end.ensures _ _ _ refl c.lower_into.ensures (omega (arith, n)) c.end_lowered.ensures
