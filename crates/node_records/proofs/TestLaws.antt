-- One turn of the loop over tests.
use Rattle.std.proofs.Common.{◌≡◌, ℕ, ◌+◌, List, Bool, add-one}
use Rattle.node_records.specs.Checks.{then_step, check_test, check_tests}
use Rattle.refusals.specs.Numbers.{Judged}

pub tests_more : (s : List ℕ) (node end : ℕ) (attributes : Bool) (n k at next : ℕ) → n ≡ k + 1 → Judged.Good next ≡ check_test s node end attributes at → check_tests s node end attributes n at ≡ check_tests s node end attributes k next
unfolding check_tests then_step
tests_more s node end attributes n k at next m e = rw (m, add-one) (simp (← e))
