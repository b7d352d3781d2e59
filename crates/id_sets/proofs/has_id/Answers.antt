use Rattle.id_sets.specs.Ids.{has_id}
use borrow.Author.Rules.{rules}
use Rattle.id_sets.proofs.has_id.Goals as goal

pub get-word-requires : goal.get-word-requires
unfolding has_id
get-word-requires c = search rules

pub returns : goal.returns
unfolding has_id
returns c = rw c.get-word.ensures
