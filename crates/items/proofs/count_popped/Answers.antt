use Rattle.std.proofs.Common.{refl, arith}
use Rattle.items.proofs.Pushes.{pops-none, pops-some}
use Rattle.items.proofs.count_popped.Goals as goal

pub returns-in-Some : goal.returns-in-Some
returns-in-Some c = let h = c.in-Some.ensures.open in pops-some _ _ _ _ c.in-Some.ensures.found _ c.number_at.ensures.0 (λ e. omega arith)

pub returns-in-None : goal.returns-in-None
returns-in-None c = pops-none _ _ _ 0 c.in-None.ensures.found refl
