use Rattle.std.proofs.lemmas.Result.{err_from_is_err_and}
use mathlib.Core.Path.{refl}
use Rattle.course.specs.CourseLaws.{part-few}
use native.Mathlib.Omega.{arith}
use Rattle.shapes.specs.Passing.{state-shape}
use Rattle.weighing.specs.Passing.{numbered}
use Rattle.resumes.proofs.Laws.{attributes-state, attributes_refused, attributes-given}
use Rattle.resumes.proofs.attributes.Goals as goal

pub returns-in_err-check_machine-clause-answered : goal.returns-in_err-check_machine-clause-answered
returns-in_err-check_machine-clause-answered c = let p = err_from_is_err_and c.from_residual.result c.from_residual.ensures.1 in rw (p.1, p.2) (attributes-state _ _ _ _ _ _ _ c.in_err-check_machine.ensures _ (numbered _) refl)

pub returns-in_err-check_attributes-clause-answered : goal.returns-in_err-check_attributes-clause-answered
returns-in_err-check_attributes-clause-answered c = let p = err_from_is_err_and c.from_residual-in_err-check_attributes.result c.from_residual-in_err-check_attributes.ensures.1 in rw (p.1, p.2) (attributes_refused _ _ _ _ _ _ _ c.in_ok-check_machine.ensures refl _ c.in_err-check_attributes.ensures _ (numbered _) refl)

pub slice_bounds-attributes_named-end : goal.slice_bounds-attributes_named-end
slice_bounds-attributes_named-end c = let s = (state-shape _ _ _ _ c.in_ok-check_machine.ensures refl).name_short in omega (arith, s, c.held_name-n.ensures.0)

pub attributes_named-requires : goal.attributes_named-requires
attributes_named-requires c = let s = state-shape _ _ _ _ c.in_ok-check_machine.ensures refl in let n = s.name_short in record { limited = (s.open_few, s.parents_few, s.ancestors_few, part-few _ c.held_name-n.result 63 (omega (arith, n, c.held_name-n.ensures.0))); held_few = s.found_few; nodes_few = s.nodes_few }

pub returns-clause-answered : goal.returns-clause-answered
returns-clause-answered c = let n = (state-shape _ _ _ _ c.in_ok-check_machine.ensures refl).name_short in attributes-given _ _ _ _ _ _ _ c.in_ok-check_machine.ensures refl _ c.in_ok-check_attributes.ensures _ _ _ _ refl c.held_name-n.ensures (omega (arith, n)) c.attributes_named.ensures.answered
