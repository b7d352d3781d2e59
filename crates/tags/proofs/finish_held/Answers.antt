use Rattle.std.proofs.lemmas.Result.{err_from_is_err_and}
use mathlib.Core.Path.{refl}
use Rattle.weighing.specs.Passing.{numbered}
use Rattle.tags.proofs.Laws.{whole-refused, held-accepted, still-refused, still-passed, still_open, still-parents, still-ancestors}
use Rattle.tags.proofs.finish_held.Goals as goal

pub returns-in_err-check_push-clause-answered : goal.returns-in_err-check_push-clause-answered
returns-in_err-check_push-clause-answered c = let p = err_from_is_err_and c.from_residual.result c.from_residual.ensures.1 in rw (p.1, p.2) (whole-refused _ _ _ _ _ _ _ _ (still-refused _ _ _ _ _ _ c.in_err-check_push.ensures) _ (numbered _) refl)

pub accept-requires : goal.accept-requires
accept-requires c = let p = c.requires.limited in record { limited = (still_open _ _ c.release.ensures p.0, still-parents _ _ c.release.ensures p.1, still-ancestors _ _ c.release.ensures p.2, p.3); found_few = c.requires.found_few; unrefused = still-passed _ _ c.release.ensures _ _ _ _ _ c.in_ok-check_push.ensures refl }

pub returns-clause-answered : goal.returns-clause-answered
returns-clause-answered c = held-accepted _ _ c.release.ensures _ _ _ _ _ _ _ _ _ _ _ c.in_ok-check_push.ensures refl c.accept.ensures.answered
