use Rattle.std.proofs.Common.{◌≡◌, false, List, ℕ, ap, ◌∙◌, arith, get_or}
use Rattle.cells.specs.Stretches.{cells_from}
use Rattle.stack.specs.Stores.{listed}
use Rattle.pushes.specs.Kept.{is_kept}
use Rattle.pushes.proofs.Nodes.{kept-none, kept-old, kept-new, kept-start, kept-yes, kept-no, kept-end, kept_below}
use Rattle.pushes.proofs.put_kept.Goals.{then-has_block+then-not-is_listed, else-has_block, else-has_block-via-then-has_block+else-not-is_listed, else-has_block-via-else-has_block}
use Rattle.pushes.proofs.put_kept.Goals as goal

pub loop-node-init : goal.loop-node-init
loop-node-init c = kept-start _ _ _ _

pub loop-node-preserved : goal.loop-node-preserved
loop-node-preserved c =
    let x = get_or c.args.found.now c.loop-node.node-index 0 in
    let old = cells_from c.args.nodes.now c.args.base c.args.top in
    let same = ap (λ (l : List ℕ). listed x l) (kept_below _ _ _ _ _ _ _ c.loop-node.invariant c.args.base c.args.top (omega arith)) in
    elim c.if-has_block.branch [
      | then-has_block+then-not-is_listed w ↦
          rw (w.nodes-is, w.k-is) (kept-yes _ _ _ _ _ _ _ c.loop-node.invariant c.loop-node-test.true _ (kept-new _ _ _ _ _ _ c.has_block.ensures w.if-has_block.true _ (w.is_listed.ensures ∙ same) w.if-not-is_listed.true) w.put.ensures)
      | else-has_block w ↦
          let none : is_kept old c.args.program.now c.args.limit c.args.block x ≡ false = elim w.else-has_block.branch [
            | else-has_block-via-then-has_block+else-not-is_listed v ↦ kept-old _ _ _ _ _ _ c.has_block.ensures v.if-has_block.true _ (v.is_listed.ensures ∙ same) v.if-not-is_listed.false
            | else-has_block-via-else-has_block v ↦ kept-none _ _ _ _ _ _ c.has_block.ensures v.if-has_block.false
          ] in
          rw (w.nodes-is, w.k-is) (kept-no _ _ _ _ _ _ _ c.loop-node.invariant c.loop-node-test.true none)
    ]

pub returns : goal.returns
returns c = kept-end _ _ _ _ _ _ _ c.loop-node.invariant c.loop-node-test.false
