use Rattle.program.proofs.RowLaws.{links-are}
use Rattle.program.proofs.links_at.Goals as goal

pub returns : goal.returns
returns c = let (a, (b, d)) = links-are _ _ c.number_at.ensures.0 c.u16_at.ensures.0 c.u16_at-2.ensures.0 c.u16_at-3.ensures.0 in record { next_value = a; children_value = b; descendants_value = d }
