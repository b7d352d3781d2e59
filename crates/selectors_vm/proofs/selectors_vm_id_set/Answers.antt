use mathlib.Core.Path.{◌∙◌, ap}
use Rattle.told.specs.Told.{top_reply_told}
use Rattle.selectors_vm.proofs.selectors_vm_id_set.Goals as goal

pub returns : goal.returns
returns c = c.into.ensures ∙ ap top_reply_told c.id_set.ensures
