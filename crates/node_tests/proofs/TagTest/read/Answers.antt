use Rattle.std.proofs.Common.{rules}
use borrow.Author.Tests.{ne_eqb}
use Rattle.node_tests.specs.Tests.{tag_kind}
use Rattle.node_tests.specs.Readings.{tag_test_of}
use Rattle.node_tests.proofs.TestLaws.{read-back}
use Rattle.node_tests.proofs.TagTest.read.Goals as goal

pub returns-in-1 : goal.returns-in-1
unfolding tag_kind tag_test_of
returns-in-1 c = rw c.in-1.is

pub returns-in-3 : goal.returns-in-3
unfolding tag_kind tag_test_of
returns-in-3 c = rw c.in-3.is

pub returns-in-4 : goal.returns-in-4
unfolding tag_kind tag_test_of
returns-in-4 c = rw (c.in-4.is, read-back _ _ 0 (search rules) c.i32_at.ensures, read-back _ _ 4 (search rules) c.i32_at-in-4.ensures)

pub returns-in-5 : goal.returns-in-5
unfolding tag_kind tag_test_of
returns-in-5 c = rw (c.in-5.is, read-back _ _ 0 (search rules) c.i32_at-in-5.ensures, read-back _ _ 4 (search rules) c.i32_at-in-5-2.ensures)

pub returns-in_default : goal.returns-in_default
unfolding tag_kind tag_test_of
returns-in_default c = search ne_eqb
