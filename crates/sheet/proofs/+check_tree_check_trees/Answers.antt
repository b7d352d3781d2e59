use Rattle.std.proofs.Common.{sym, ap, ◌∙◌, arith}
use Rattle.refusals.specs.Numbers.{judged}
use Rattle.refusals.proofs.Passing.{passed_on}
use Rattle.sheet.proofs.WalkLaws.{trees-none, trees-refused, trees-more, bad-record, bad-children, then-descendants}
use Rattle.sheet.proofs.+check_tree_check_trees.Goals as goal

pub check_tree-returns-in_err-links : goal.check_tree-returns-in_err-links
check_tree-returns-in_err-links t c =
    passed_on c.from_residual.result c.in_err-links.field-0.0 c.from_residual.ensures.1 ∙ bad-record _ _ _ _ _ (omega arith) (omega arith) _ _ (ap judged (sym c.in_err-links.was) ∙ c.check_record.ensures)

pub check_tree-returns-in_err-middle : goal.check_tree-returns-in_err-middle
check_tree-returns-in_err-middle t c =
    passed_on c.from_residual-in_err-middle.result c.in_err-middle.field-0.0 c.from_residual-in_err-middle.ensures.1 ∙ bad-children _ _ _ _ _ (omega arith) (omega arith) (ap judged (sym c.in_ok-links.was) ∙ c.check_record.ensures) _ _ (ap judged (sym c.in_err-middle.was) ∙ c.check_trees.ensures)

pub check_tree-returns : goal.check_tree-returns
check_tree-returns t c = c.check_trees-2.ensures ∙ then-descendants _ _ _ _ _ (omega arith) (omega arith) (ap judged (sym c.in_ok-links.was) ∙ c.check_record.ensures) (ap judged (sym c.in_ok-middle.was) ∙ c.check_trees.ensures)

pub check_trees-returns-in_err-here : goal.check_trees-returns-in_err-here
check_trees-returns-in_err-here t c =
    passed_on c.from_residual.result c.in_err-here.field-0.0 c.from_residual.ensures.1 ∙ (trees-refused _ _ _ _ _ _ (omega arith) _ _ (ap judged (sym c.in_err-here.was) ∙ c.check_tree.ensures) ∙ sym c.loop.invariant)

pub check_trees-loop-preserved : goal.check_trees-loop-preserved
check_trees-loop-preserved t c = c.loop.invariant ∙ trees-more _ _ _ _ _ _ _ (omega arith) _ _ (ap judged (sym c.in_ok-here.was) ∙ c.check_tree.ensures)

pub check_trees-returns : goal.check_trees-returns
check_trees-returns t c = sym (c.loop.invariant ∙ trees-none _ _ _ _ _ _ (omega arith))
