use Rattle.std.proofs.Common.{◌∙◌, rules}
use Rattle.node_tests.specs.Tests.{tag_test_holds, read_tag_test}
use Rattle.instructions.specs.Instructions.{tag_tests_pass}
use Rattle.instructions.proofs.TestTurns.{tags-are}
use Rattle.instructions.proofs.instruction.tag_tests_pass.Goals as goal

pub returns : goal.returns
unfolding tag_tests_pass
returns c = let t = c.args.tag in
    c.tests_hold.ensures (λ bytes. tag_test_holds t.name.now t.child t.of_type (read_tag_test bytes)) (λ test r p. search rules)
    ∙ tags-are _ _ _ _ _ _ ∙ rw (c.row_of-row.ensures.tag_count.0, c.row_of-row.ensures.tests.0)
