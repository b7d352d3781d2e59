use Rattle.counters.proofs.Counts.{was_none, was_some, name-again, name_new}
use Rattle.counters.proofs.count_name.Goals as goal

pub returns-in-Some : goal.returns-in-Some
returns-in-Some c = let (k, e) = was_some _ _ _ _ c.find_pair.ensures.pair _ c.in-Some.is in name-again _ _ _ k _ _ _ _ e c.get.ensures c.inc-again.ensures c.put.ensures

pub returns-in-None : goal.returns-in-None
returns-in-None c =
    name_new _ _ _ (was_none _ _ _ _ c.find_pair.ensures.pair c.in-None.is) _ _ _ _ _ c.number_at-top.ensures.0 c.copy.ensures c.inc.ensures c.put-in-None.ensures c.copy-in-None.ensures
