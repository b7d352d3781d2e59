use Rattle.std.proofs.Common.{arith, ap, sym, ◌∙◌}
use Rattle.refusals.specs.Numbers.{judged}
use Rattle.node_records.proofs.TestLaws.{tests_more}
use Rattle.node_records.proofs.Record.check_tests.Goals as goal

pub loop-preserved : goal.loop-preserved
loop-preserved c = c.loop.invariant ∙ tests_more _ _ _ _ _ _ _ _ (omega arith) (ap judged (sym c.in_ok-here.was) ∙ c.check_test.ensures)
