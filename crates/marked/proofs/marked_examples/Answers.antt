use Rattle.marked.proofs.Computed.{computed}
use Rattle.marked.proofs.marked_examples.Goals as goal

pub returns : goal.returns
returns c = computed
