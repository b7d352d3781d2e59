use Rattle.std.proofs.Common.{◌∙◌, rules}
use Rattle.rules.specs.Attributes.{attributes_of}
use Rattle.node_tests.specs.Tests.{attribute_test_holds, read_attribute_test}
use Rattle.instructions.specs.Instructions.{attribute_passes}
use Rattle.instructions.proofs.TestTurns.{attributes-are}
use Rattle.instructions.proofs.instruction.attributes_pass.Goals as goal

pub returns : goal.returns
unfolding attribute_passes
returns c = let t = c.args.attributes in
    c.tests_hold.ensures (λ bytes. attribute_test_holds t.html (attributes_of t.input.now t.outlines.now) (read_attribute_test bytes)) (λ test r p. search rules)
    ∙ attributes-are _ _ _ _ _
    ∙ rw (c.tests_end-from.ensures.0, c.row_of-row.ensures.attribute_count.0, c.row_of-row.ensures.tag_count.0, c.row_of-row.ensures.tests.0)
