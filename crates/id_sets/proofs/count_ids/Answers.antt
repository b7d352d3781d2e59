use Rattle.std.proofs.Common.{rules, tests, arith, ◌∙◌, ◌≤◌, length, take}
use lib.Count.{ones}
use lib.ListN.{length-take}
use Rattle.std.proofs.lemmas.Iterator.{YieldsList-from_slice, YieldsList-from_take, YieldsList-from_map}
use Rattle.std.proofs.lemmas.Iterator.Adapters.{fits_from_length, at_most_from_yields_List}
use Rattle.std.proofs.lemmas.Iterator.Consumers.{YieldsList-at, sum_from_yields_List}
use Rattle.std.proofs.lemmas.List.Sums.{sum-map}
use Rattle.id_sets.specs.Ids.{ids_of}
use Rattle.id_sets.proofs.IdSteps.{sum-ones}
use Rattle.id_sets.proofs.count_ids.Goals as goal

pub sum-requires-clause-fits : goal.sum-requires-clause-fits
sum-requires-clause-fits c =
    let most : length (take 1024 c.args.words.now) ≤ 1024 = omega (arith, length-take 1024 c.args.words.now) in
    fits_from_length _ _ 1024 _
    (at_most_from_yields_List (YieldsList-at c.map.ensures.source (YieldsList-from_take 1024 (YieldsList-at c.take.ensures.source (YieldsList-from_slice c.args.words.now c.iter.ensures.rest)) c.take.ensures.count)) most)
    c.map.ensures.closure (omega arith) (λ x r q k. search (rules, tests))

pub returns : goal.returns
unfolding ids_of
returns c =
    sum_from_yields_List c.map.result c.sum.result c.sum.ensures.ran
    (YieldsList-from_map _ ones (YieldsList-at c.map.ensures.source (YieldsList-from_take 1024 (YieldsList-at c.take.ensures.source (YieldsList-from_slice c.args.words.now c.iter.ensures.rest)) c.take.ensures.count)) c.map.ensures.closure (λ x r q k. search (rules, tests)))
    ∙ sum-map ones (take 1024 c.args.words.now)
    ∙ sum-ones c.args.words.now (λ i. (c.type_inv.words i).fits) 1024
