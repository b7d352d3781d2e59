use Rattle.selectors_vm.proofs.Telling.{popped}
use Rattle.selectors_vm.proofs.selectors_vm_end.Goals as goal

pub returns : goal.returns
returns c = popped _ _ _ _ _ c.end.ensures c.into.ensures
