use mathlib.Core.Path.{sym}
use native.Mathlib.Omega.{arith}
use lib.Dec.{lit<}
use Rattle.cells.specs.Numbers.{be32}
use Rattle.cells.proofs.NumberLaws.{be32-past}
use Rattle.cells.proofs.numbers.u32_at.Goals as goal

pub returns-then-s-at : goal.returns-then-s-at
returns-then-s-at c = (sym (be32-past _ _ c.if-s-at.true), lit< tt)

pub returns : goal.returns
unfolding be32
returns c = (rw (c.u16_at.ensures.0, c.u16_at-2.ensures.0), omega arith)
