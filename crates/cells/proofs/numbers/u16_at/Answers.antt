use mathlib.Core.Path.{sym}
use native.Mathlib.Omega.{arith}
use lib.Dec.{lit<}
use Rattle.cells.specs.Numbers.{be16}
use Rattle.cells.proofs.NumberLaws.{be16-past}
use Rattle.cells.proofs.numbers.u16_at.Goals as goal

pub returns-then-s-at : goal.returns-then-s-at
returns-then-s-at c = (sym (be16-past _ _ c.if-s-at.true), lit< tt)

pub returns : goal.returns
unfolding be16
returns c = (rw (c.number_at.ensures.0, c.number_at-2.ensures.0), omega arith)
