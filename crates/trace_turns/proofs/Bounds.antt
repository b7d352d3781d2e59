-- A run uses no more than its block, and one that wants more bytes leaves fewer than a record can have.
use Rattle.std.proofs.Common.{◌≡◌, ℕ, ◌+◌, ◌*◌, ◌<◌, ◌≤◌, List, Bool, arith, length, get_or}
use Rattle.cells.specs.Numbers.{be16}
use Rattle.stack.specs.Stores.{Stores}
use Rattle.block_ends.specs.declared.Fed.{Fed}
use Rattle.block_ends.specs.declared.Halt.{Halt}
use Rattle.trace.specs.Run.{feed_of}
use Rattle.trace_lines.proofs.Records.{short-past}
use Rattle.trace_lines.proofs.Stops.{stopping}

abbrev pub Bounded : (block : List ℕ) → Fed → Type 0
Bounded block f = (f.used ≤ length block) × (f.halt ≡ Halt.Hungry → length block < f.used + 65538)

few : (block : List ℕ) → ((i : ℕ) → get_or block i 0 < 256) → (at : ℕ) → be16 block at ≤ 65535
unfolding be16
few block bytes at = let a = bytes at in let b = bytes (at + 1) in omega arith

pub feed-bounded : (sheet program block : List ℕ) (last : Bool) (place : ℕ) (out : List ℕ) (s : Stores) → ((i : ℕ) → get_or block i 0 < 256) → Bounded block (feed_of sheet program block last place out s).fed
feed-bounded sheet program block last place out s bytes =
    let f = (feed_of sheet program block last place out s).fed in
    let t = stopping sheet program block last place out s in
    (t.inside, λ e. let p = short-past block f.used (t.hungry e) in let n = few block bytes f.used in omega arith)
