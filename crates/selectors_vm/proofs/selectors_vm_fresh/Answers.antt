use Rattle.selectors_vm.proofs.Telling.{made}
use Rattle.selectors_vm.proofs.selectors_vm_fresh.Goals as goal

pub returns : goal.returns
returns c = made _ _ _ _ _ c.fresh_machine.ensures c.into.ensures
