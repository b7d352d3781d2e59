use Rattle.std.proofs.Common.{rules, tests, ◌∙◌, false}
use Rattle.std.proofs.lemmas.Iterator.{YieldsList-from_slice}
use Rattle.std.proofs.lemmas.Iterator.Search.{any_from_yields_List}
use Rattle.letters.specs.Bytes.{same_bytes}
use Rattle.names.proofs.Turns.{among-any}
use Rattle.names.proofs.among.Goals as goal

pub returns : goal.returns
returns c =
    any_from_yields_List (λ n. same_bytes c.args.ignore false c.args.name.now n.now) c.any.new.self _ c.any.result c.any.ensures.ran
    (YieldsList-from_slice c.args.names.now cc) (λ x b q k. search (rules, tests)) ∙ among-any c.args.ignore c.args.name.now c.args.names.now
