use Rattle.std.proofs.Common.{rules, tests, ◌∙◌}
use Rattle.std.proofs.lemmas.Iterator.Search.{any_from_yields_List}
use Rattle.std.proofs.lemmas.Iterator.Splits.{YieldsList-from_slice_split}
use Rattle.letters.specs.Bytes.{same_bytes, space_byte}
use Rattle.operators.proofs.Turns.{includes-is}
use Rattle.operators.proofs.matches_splitted_by_whitespace.Goals as goal

pub returns : goal.returns
returns c =
    any_from_yields_List (λ p. same_bytes c.args.f c.args.f p c.args.operand.now) c.any.new.self _ c.any.result c.any.ensures.ran
    (YieldsList-from_slice_split _ space_byte c.args.value.now c.split.ensures.rest c.split.ensures.done c.split.ensures.closure (λ x b q k. search (rules, tests))) (λ x b q k. search (rules, tests))
    ∙ includes-is c.args.f c.args.value.now c.args.operand.now
