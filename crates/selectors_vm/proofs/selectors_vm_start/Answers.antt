use Rattle.std.proofs.Common.{rules}
use Rattle.selectors_vm.proofs.Telling.{replied}
use Rattle.selectors_vm.proofs.selectors_vm_start.Goals as goal

pub returns : goal.returns
returns c = replied _ _ c.start.new.machine _ _ _ _ _ c.start.ensures.answered (search rules) (search rules) (search rules) (search rules) c.into.ensures
