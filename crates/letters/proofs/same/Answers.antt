use mathlib.Core.Path.{refl, sym, ◌∙◌}
use native.Mathlib.Omega.{arith}
use borrow.Author.Tests.{eq-eqb, ne_eqb}
use Rattle.letters.specs.BytesLaws.{same-long, same_step, same_end}
use Rattle.letters.proofs.same.Goals as goal

pub returns-then-a-b : goal.returns-then-a-b
returns-then-a-b c = sym (same-long _ _ _ _ c.if-a-b.true)

pub loop-i-init : goal.loop-i-init
loop-i-init c = (omega arith, (c.if-a-b.false, refl))

pub returns-then-fold_byte : goal.returns-then-fold_byte
returns-then-fold_byte c = let e1 = c.fold_byte.ensures in
    let e2 = c.fold_byte-in-loop-i.ensures in
    sym (c.loop-i.invariant.1.1 ∙ same_step _ _ _ _ c.loop-i.i (omega arith) (omega arith) ∙ rw (ne_eqb _ _ (λ e. c.if-fold_byte.true (e1 ∙ e ∙ sym e2))))

pub loop-i-preserved : goal.loop-i-preserved
loop-i-preserved c = let e1 = c.fold_byte.ensures in
    let e2 = c.fold_byte-in-loop-i.ensures in
    (omega arith, (c.loop-i.invariant.1.0, c.loop-i.invariant.1.1 ∙ same_step _ _ _ _ c.loop-i.i (omega arith) (omega arith) ∙ rw (eq-eqb _ _ (sym e1 ∙ c.if-fold_byte.false ∙ e2))))

pub returns : goal.returns
returns c = sym (c.loop-i.invariant.1.1 ∙ same_end _ _ _ _ c.loop-i.i (omega arith) (omega arith))
