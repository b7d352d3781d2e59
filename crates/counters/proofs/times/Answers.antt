use Rattle.counters.proofs.Counts.{was_none, was_some, times-none, times-found}
use Rattle.counters.proofs.times.Goals as goal

pub returns-in-Some : goal.returns-in-Some
returns-in-Some c = let (k, e) = was_some _ _ _ _ c.find_pair.ensures.pair _ c.in-Some.is in times-found _ _ _ k _ _ e c.get.ensures

pub returns-in-None : goal.returns-in-None
returns-in-None c = times-none _ _ _ (was_none _ _ _ _ c.find_pair.ensures.pair c.in-None.is)
