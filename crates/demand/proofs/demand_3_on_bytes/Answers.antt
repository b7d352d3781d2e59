use Rattle.demand.proofs.Theorem.{demand-3-on-bytes}
use Rattle.demand.proofs.demand_3_on_bytes.Goals as goal

pub returns : goal.returns
returns c = demand-3-on-bytes
