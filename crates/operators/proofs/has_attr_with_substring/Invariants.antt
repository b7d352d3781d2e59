use mathlib.Core.Path.{◌≡◌}
use mathlib.Core.Bool.{false}
use lib.ListN.{drop}
use Rattle.operators.specs.Operators.{empty_bytes, contains_bytes, substring_holds}
use Rattle.operators.proofs.has_attr_with_substring.Given as goal

abbrev pub invariant-loop-i : goal.invariant-loop-i
invariant-loop-i l = (empty_bytes l.operand ≡ false) × (substring_holds l.f l.value l.operand ≡ contains_bytes l.f (drop l.i l.value) l.operand)
