use mathlib.Core.Path.{ap, ◌∙◌}
use Prim.Native.Nat.{◌*◌}
use lib.Seq.{sets}
use Rattle.program.proofs.RowLaws.{row_of}
use Rattle.program.proofs.put_instruction.Goals as goal

pub returns : goal.returns
returns c = c.put_row.ensures ∙ ap (sets c.args.store.now (c.args.slot * 8)) (row_of _ _ c.number_at.ensures.0 _ _ c.number_at-tags.ensures.0 c.number_at-attributes.ensures.0 c.u16_at.ensures.0 c.u16_at-2.ensures.0 c.node_key.ensures)
