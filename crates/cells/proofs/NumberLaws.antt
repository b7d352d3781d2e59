-- What the code of `numbers` computes is what the definitions say.
use mathlib.Core.Path.{◌≡◌}
use mathlib.Core.List.{List}
use Prim.Native.Nat.{ℕ, ◌+◌, ◌≤◌}
use native.Mathlib.Omega.{arith}
use lib.ListN.{length, get_or-eq_default}
use Rattle.cells.specs.Numbers.{be16, be32}

pub be16-past : (s : List ℕ) (at : ℕ) → length s ≤ at → be16 s at ≡ 0
unfolding be16
be16-past s at h =
    let b : length s ≤ at + 1 = omega arith in
    rw (get_or-eq_default s 0 h, get_or-eq_default s 0 b)

pub be32-past : (s : List ℕ) (at : ℕ) → length s ≤ at → be32 s at ≡ 0
unfolding be32
be32-past s at h = rw (be16-past s at h, be16-past s (at + 2) (omega arith))
