use Rattle.std.proofs.Common.{rules}
use Rattle.selectors_vm.proofs.Telling.{replied}
use Rattle.selectors_vm.proofs.selectors_vm_attributes.Goals as goal

pub returns : goal.returns
returns c = replied _ _ c.attributes.new.machine _ _ _ _ _ c.attributes.ensures.answered (search rules) (search rules) (search rules) (search rules) c.into.ensures
