use Rattle.std.proofs.lemmas.Result.{err_from_is_err_and}
use mathlib.Core.Path.{refl}
use Rattle.weighing.specs.Passing.{numbered}
use Rattle.ends.proofs.Calling.{asked-state, asked}
use Rattle.ends.proofs.id_set.Goals as goal

pub returns-in_err-check_state : goal.returns-in_err-check_state
returns-in_err-check_state c = let p = err_from_is_err_and c.from_residual.result c.from_residual.ensures.1 in rw (p.1, p.2) (asked-state _ _ _ _ c.in_err-check_state.ensures (numbered _))

pub returns : goal.returns
returns c = asked _ _ _ _ c.in_ok-check_state.ensures refl _ c.top_ids.ensures
