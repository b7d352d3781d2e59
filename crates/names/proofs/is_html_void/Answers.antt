use Rattle.names.specs.Names.{void_names}
use Rattle.names.proofs.is_html_void.Goals as goal

pub returns : goal.returns
unfolding void_names
returns c = c.among.ensures
