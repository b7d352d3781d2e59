use Rattle.std.proofs.Common.{rules, ◌≡◌}
use Rattle.std.specs.List.{count_by}
use Rattle.stack.specs.Stores.{child_block, bears}
use Rattle.stack.proofs.Bearers.{count_of_bearers}
use Rattle.stack.proofs.blocks.count_parents.Goals as goal

pub returns : goal.returns
returns c =
    let e : c.count.result ≡ count_by (bears c.args.program.now c.args.limit child_block) c.args.found.now = search rules in
    rw e (count_of_bearers c.args.program.now c.args.limit child_block c.args.found.now)
