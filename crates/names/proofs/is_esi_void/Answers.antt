use Rattle.names.specs.Names.{esi_names}
use Rattle.names.proofs.is_esi_void.Goals as goal

pub returns : goal.returns
unfolding esi_names
returns c = c.among.ensures
