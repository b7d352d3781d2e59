use mathlib.Core.Path.{sym, ◌∙◌}
use native.Mathlib.Omega.{arith}
use Rattle.std.proofs.lemmas.List.{set-get_or}
use Rattle.id_sets.proofs.IdSteps.{union-step, union-done, union-all}
use Rattle.id_sets.proofs.unite.Goals as goal

pub returns-in_default : goal.returns-in_default
returns-in_default c = let h = c.in_default.ensures.lookup in rw set-get_or (sym (c.loop-i.invariant ∙ union-done _ _ c.loop-i.i h.3 (omega arith)))

pub loop-i-preserved : goal.loop-i-preserved
loop-i-preserved c = let h = c.in-Some.ensures.lookup in rw (h.3.1 0) (c.loop-i.invariant ∙ union-step _ _ c.loop-i.i (omega arith) h.3.0)

pub returns : goal.returns
returns c = sym (c.loop-i.invariant ∙ union-all c.loop-i.words _ _ (omega arith))
