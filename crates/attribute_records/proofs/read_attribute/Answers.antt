use Rattle.attribute_records.proofs.Laws.{attribute-whole}
use native.Mathlib.Omega.{arith}
use Rattle.attribute_records.proofs.read_attribute.Goals as goal

pub returns : goal.returns
returns c = attribute-whole _ _ _ _ _ c.number_at.ensures.0 _ c.u16_at.ensures.0 (omega arith) _ _ _ _ c.put.ensures c.put-2.ensures c.put-3.ensures c.put-4.ensures
