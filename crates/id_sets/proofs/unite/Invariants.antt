use mathlib.Core.Path.{◌≡◌}
use mathlib.Core.List.{◌++◌}
use lib.ListN.{take, drop}
use Rattle.id_sets.specs.Ids.{union}
use Rattle.id_sets.proofs.unite.Given as goal

abbrev pub invariant-loop-i : goal.invariant-loop-i
invariant-loop-i l = union l.initial.words l.more ≡ take l.i l.words ++ union (drop l.i l.words) (drop l.i l.more)
