use Rattle.std.proofs.Common.{◌≡◌, ◌+◌, ◌-◌, ◌*◌}
use Rattle.meaning.specs.Trees.{size}
use Rattle.sheet.specs.Parser.{walk_of, parse_trees}
use Rattle.sheet.proofs.+check_tree_check_trees.Given as goal

abbrev pub decreases-check_tree : goal.decreases-check_tree
decreases-check_tree l = 2 * l.depth

abbrev pub decreases-check_trees : goal.decreases-check_trees
decreases-check_trees l = 2 * l.depth + 1

abbrev pub invariant-check_trees-loop : goal.invariant-check_trees-loop
invariant-check_trees-loop l = walk_of size l.fn.start.used (parse_trees l.depth l.s l.total l.count l.fn.start.next l.fn.start.used) ≡ walk_of size l.here.used (parse_trees l.depth l.s l.total (l.count - l.counter) l.here.next l.here.used)
