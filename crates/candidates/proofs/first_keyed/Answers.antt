use Rattle.std.proofs.Common.{◌≡◌, sym, ◌∙◌, ◌+◌, ◌-◌, arith}
use Rattle.candidates.proofs.Searches.{first-none, first-here, first-later, fits, fits_not}
use Rattle.candidates.proofs.first_keyed.Goals as goal

pub loop-a-init : goal.loop-a-init
loop-a-init c = let e : c.args.from + c.args.count - c.args.from ≡ c.args.count = omega arith in rw e

pub returns-then-wanted-eq0 : goal.returns-then-wanted-eq0
returns-then-wanted-eq0 c = (sym (first-here _ _ c.loop-a.a (c.args.from + c.args.count - c.loop-a.a) (fits _ _ _ _ c.get-wanted.ensures c.then-wanted-eq0.either) (omega arith)) ∙ c.loop-a.invariant, (omega arith, omega arith))

pub loop-a-preserved : goal.loop-a-preserved
loop-a-preserved c = sym (first-later _ _ c.loop-a.a (c.args.from + c.args.count - c.loop-a.a) (c.args.from + c.args.count - (c.loop-a.a + 1)) (fits_not _ _ _ _ c.get-wanted.ensures c.if-wanted-eq0.false c.if-wanted-key.false) (omega arith)) ∙ c.loop-a.invariant

pub returns : goal.returns
returns c = let e : c.args.from + c.args.count ≡ c.loop-a.a = omega arith in (e ∙ sym (first-none _ _ c.loop-a.a (c.args.from + c.args.count - c.loop-a.a) (omega arith)) ∙ c.loop-a.invariant, (omega arith, omega arith))
