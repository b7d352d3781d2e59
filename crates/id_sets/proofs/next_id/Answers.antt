use mathlib.Core.Path.{sym, ap, ◌∙◌}
use native.Mathlib.Omega.{arith}
use Rattle.id_sets.specs.Ids.{first_of}
use Rattle.id_sets.proofs.IdSteps.{next-found, next-later, next-end}
use Rattle.id_sets.proofs.next_id.Goals as goal

pub returns-then-word-ne0 : goal.returns-then-word-ne0
returns-then-word-ne0 c = next-found c.args.words.now c.loop-i.i c.loop-i.passed ((c.type_inv.words c.loop-i.i).fits) 65536 (omega arith) (omega arith) ∙ ap first_of (sym c.loop-i.invariant.1)

pub loop-i-preserved : goal.loop-i-preserved
loop-i-preserved c = (omega arith, c.loop-i.invariant.1 ∙ next-later c.args.words.now c.loop-i.i c.loop-i.passed ((c.type_inv.words c.loop-i.i).fits) 65536 (omega arith) c.loop-i.invariant.0 (omega arith))

pub returns : goal.returns
returns c = next-end _ c.loop-i.i c.loop-i.passed (omega arith) ∙ ap first_of (sym c.loop-i.invariant.1)
