use Rattle.std.proofs.Common.{◌≡◌, ◌*◌, take, length}
use Rattle.std.proofs.lemmas.List.Edits.{sets}
use Rattle.program.proofs.put_row.Given as goal

abbrev pub invariant-loop-i : goal.invariant-loop-i
invariant-loop-i l = (length l.word-items ≡ 8) × (l.store ≡ sets l.fn.store (l.slot * 8) (take l.i l.word-items))
