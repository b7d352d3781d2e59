use Rattle.std.proofs.Common.{sym, ap, ◌∙◌, arith}
use Rattle.refusals.specs.Numbers.{judged}
use Rattle.refusals.proofs.Passing.{passed_on}
use Rattle.sheet.proofs.SheetLaws.{bad-trees, left_over, few, good}
use Rattle.sheet.proofs.check_sheet.Goals.{then-end-s-via-then-end-s, then-end-s-via-else-end-s+then-end-total}
use Rattle.sheet.proofs.check_sheet.Goals as goal

pub returns-in_err-end : goal.returns-in_err-end
returns-in_err-end c =
    passed_on c.from_residual.result c.in_err-end.field-0.0 c.from_residual.ensures.1 ∙ bad-trees _ (omega arith) (omega arith) (omega arith) (omega arith) (omega arith) c.u16_at-total.ensures.0 c.u16_at.ensures.0 _ _ (ap judged (sym c.in_err-end.was) ∙ c.check_trees.ensures)

pub returns-then-end-s : goal.returns-then-end-s
returns-then-end-s c =
    rw c.at-then-end-s.ensures (elim c.then-end-s.branch [
      | then-end-s-via-then-end-s w ↦ left_over _ (omega arith) (omega arith) (omega arith) (omega arith) (omega arith) c.u16_at-total.ensures.0 c.u16_at.ensures.0 (ap judged (sym c.in_ok-end.was) ∙ c.check_trees.ensures) (λ h. omega arith)
      | then-end-s-via-else-end-s+then-end-total w ↦ few _ (omega arith) (omega arith) (omega arith) (omega arith) (omega arith) c.u16_at-total.ensures.0 c.u16_at.ensures.0 (ap judged (sym c.in_ok-end.was) ∙ c.check_trees.ensures) (omega arith) (λ h. omega arith)
    ])

pub returns : goal.returns
returns c = good _ (omega arith) (omega arith) (omega arith) (omega arith) (omega arith) c.u16_at-total.ensures.0 c.u16_at.ensures.0 (ap judged (sym c.in_ok-end.was) ∙ c.check_trees.ensures) (omega arith) (omega arith)
