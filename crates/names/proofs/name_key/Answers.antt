use Rattle.std.proofs.Common.{rules, tests, ◌+◌, ◌*◌, ◌%◌, ◌^◌, ◌∙◌}
use Rattle.std.proofs.lemmas.Iterator.{YieldsList-from_slice}
use Rattle.std.proofs.lemmas.Iterator.Consumers.{fold_from_yields_List}
use Rattle.letters.specs.Bytes.{lower_of}
use Rattle.names.specs.Names.{name_key}
use Rattle.names.proofs.Turns.{hash-fold}
use Rattle.names.proofs.name_key.Goals as goal

pub returns : goal.returns
unfolding name_key
returns c =
    let e = fold_from_yields_List _ (λ h b. (h * 31 % 2 ^ 32 + lower_of b) % 2 ^ 32) 0 c.fold-hash.result c.fold-hash.ensures.ran (YieldsList-from_slice c.args.name.now cc) (λ a x b q k. search (rules, tests)) in
    rw (e ∙ hash-fold 0 c.args.name.now)
