use Rattle.std.proofs.lemmas.Result.{err_from_is_err_and}
use mathlib.Core.Path.{refl}
use Rattle.weighing.specs.Passing.{numbered}
use Rattle.tags.proofs.Laws.{begun-waits, begun-over, whole-refused, whole-accepted}
use Rattle.tags.proofs.start_found.Goals as goal

pub returns-in-Some-clause-answered : goal.returns-in-Some-clause-answered
returns-in-Some-clause-answered c = rw c.in-Some.is (begun-waits _ _ _ _ _ _ _ _ _ _ _ _ _ _ _ _ c.cell_of.ensures c.cell_of-in-Some.ensures c.cell_of-in-Some-2.ensures c.hold.ensures)

pub returns-in_err-check_push-clause-answered : goal.returns-in_err-check_push-clause-answered
returns-in_err-check_push-clause-answered c =
    let p = err_from_is_err_and c.from_residual.result c.from_residual.ensures.1 in
    rw (p.1, p.2, c.in_default.is) (begun-over _ _ _ _ _ _ _ _ _ _ _ c.has_content-content.ensures (whole-refused _ _ _ _ _ _ _ _ c.in_err-check_push.ensures _ (numbered _) refl))

pub returns-clause-answered : goal.returns-clause-answered
returns-clause-answered c = rw c.in_default.is (begun-over _ _ _ _ _ _ _ _ _ _ _ c.has_content-content.ensures (whole-accepted _ _ _ _ _ _ _ _ c.in_ok-check_push.ensures _ refl c.accept.ensures.answered))
