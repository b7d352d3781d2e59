use Rattle.program.proofs.TestLaws.{key_other}
use Rattle.program.proofs.test_key.Goals as goal

pub returns-in_default : goal.returns-in_default
returns-in_default c = key_other _ _ _ c.get-2.ensures _ c.part_of.ensures c.read.ensures c.in_default.not-LocalName
