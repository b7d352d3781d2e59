-- What each turn of the loop that copies adds.
use Rattle.std.proofs.Common.{◌≡◌, List, ℕ, zero, suc, ◌+◌, get_or, set, arith}
use Rattle.cells.specs.Stretches.{cells_or, written}

pub written-more : {A : Type 0} (d : A) (xs ys : List A) (a b i : ℕ) → written xs a (cells_or d ys b (i + 1)) ≡ set (written xs a (cells_or d ys b i)) (a + i) (get_or ys (b + i) d)
unfolding written cells_or
written-more d xs ys a b zero =
    let e : a + 0 ≡ a = omega arith in
    let f : b + 0 ≡ b = omega arith in
    rw (e, f)
written-more d xs ys a b (suc i) =
    let e : a + suc i ≡ a + 1 + i = omega arith in
    let f : b + suc i ≡ b + 1 + i = omega arith in
    let g : suc i + 1 ≡ suc (i + 1) = omega arith in
    rw (e, f, g) (written-more d (set xs a (get_or ys b d)) ys (a + 1) (b + 1) i)
