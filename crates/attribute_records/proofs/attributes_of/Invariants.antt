use Prim.Native.Nat.{◌-◌, ◌*◌}
use mathlib.Core.Path.{◌≡◌}
use lib.Dec.{eqb}
use Rattle.attribute_records.specs.AttributeRecords.{read_attributes}
use Rattle.attribute_records.proofs.attributes_of.Given as goal

abbrev pub invariant-loop-i : goal.invariant-loop-i
invariant-loop-i l = read_attributes l.body (eqb l.mark 1) l.count 0 3 l.initial.outlines ≡ read_attributes l.body (eqb l.mark 1) (l.count - l.i) (4 * l.i) l.at l.outlines
