use Rattle.std.proofs.lemmas.Result.{err_from_is_err_and}
use mathlib.Core.Path.{refl}
use Rattle.course.specs.CourseLaws.{part-few}
use native.Mathlib.Omega.{arith}
use Rattle.shapes.specs.Passing.{state-shape}
use Rattle.weighing.specs.Passing.{numbered, tag-passed}
use Rattle.starts.proofs.Laws.{start-state, start_tag, start-lowered}
use Rattle.starts.proofs.start.Goals as goal

pub returns-in_err-check_machine-clause-answered : goal.returns-in_err-check_machine-clause-answered
returns-in_err-check_machine-clause-answered c = let p = err_from_is_err_and c.from_residual.result c.from_residual.ensures.1 in rw (p.1, p.2) (start-state _ _ _ _ _ _ c.in_err-check_machine.ensures _ (numbered _) refl)

pub returns-in_err-check_tag-clause-answered : goal.returns-in_err-check_tag-clause-answered
returns-in_err-check_tag-clause-answered c = let p = err_from_is_err_and c.from_residual-in_err-check_tag.result c.from_residual-in_err-check_tag.ensures.1 in rw (p.1, p.2) (start_tag _ _ _ _ _ _ c.in_ok-check_machine.ensures refl _ c.in_err-check_tag.ensures _ (numbered _) refl)

pub kind_of-kind-requires : goal.kind_of-kind-requires
kind_of-kind-requires c = (tag-passed _ _ _ _ c.in_ok-check_tag.ensures refl).1

pub slice_bounds-start_lowered-end : goal.slice_bounds-start_lowered-end
slice_bounds-start_lowered-end c = let n = (tag-passed _ _ _ _ c.in_ok-check_tag.ensures refl).0 in omega (arith, n)

pub start_lowered-requires : goal.start_lowered-requires
start_lowered-requires c = let s = state-shape _ _ _ _ c.in_ok-check_machine.ensures refl in let n = (tag-passed _ _ _ _ c.in_ok-check_tag.ensures refl).0 in record { limited = (s.open_few, s.parents_few, s.ancestors_few, part-few _ _ 63 n); nodes_few = s.nodes_few }

pub returns-clause-answered : goal.returns-clause-answered
returns-clause-answered c = let n = (tag-passed _ _ _ _ c.in_ok-check_tag.ensures refl).0 in start-lowered _ _ _ _ _ _ c.in_ok-check_machine.ensures refl _ c.in_ok-check_tag.ensures _ _ _ _ _ _ refl c.lower_into.ensures (omega (arith, n)) c.is_esi_on.ensures c.is_void.ensures c.kind_of-kind.ensures c.start_lowered.ensures.answered
