-- Bytes moved to the front of their buffer, as std's copy and as stretches of cells say it.
use Rattle.std.proofs.Common.{◌≡◌, ℕ, zero, suc, ◌+◌, ◌-◌, ◌≤◌, ◌<◌, List, [], ◌∷◌, ◌++◌, refl, sym, ap, ◌∙◌, arith, length, take, drop, get_or, set}
use Rattle.std.proofs.Math.Seq.{drop-cons}
use Rattle.std.proofs.lemmas.List.{append_assoc, drop-set-lt, length-set, take-append-drop}
use Rattle.std.proofs.lemmas.Grind.{take-set_at}
use Rattle.std.specs.List.{copy_within}
use Rattle.cells.specs.Stretches.{cells_or, written, cells_from, length-cells}

cells_are : (xs : List ℕ) (a n : ℕ) → a + n ≤ length xs → cells_from xs a n ≡ take n (drop a xs)
unfolding cells_or
cells_are xs a zero h = refl
cells_are xs a (suc n) h =
    let lt : a < length xs = omega arith in
    let e : suc a ≡ a + 1 = omega arith in
    rw (drop-cons xs a 0, e) (ap (λ l. get_or xs a 0 ∷ l) (cells_are xs (a + 1) n (omega arith)))

written_is : (xs : List ℕ) (a : ℕ) (vs : List ℕ) → a + length vs ≤ length xs → written xs a vs ≡ take a xs ++ (vs ++ drop (a + length vs) xs)
unfolding written
written_is xs a [] h = let e : a + 0 ≡ a = omega arith in rw e (sym (take-append-drop a xs))
written_is xs a (v ∷ vs) h =
    let lt : a < length xs = omega arith in
    let k : length (set xs a v) ≡ length xs = length-set xs a v in
    let e : a + suc (length vs) ≡ a + 1 + length vs = omega arith in
    let t : take (a + 1) (set xs a v) ≡ take a xs ++ v ∷ [] = take-set_at xs a (a + 1) v refl lt in
    let d : drop (a + 1 + length vs) (set xs a v) ≡ drop (a + 1 + length vs) xs = drop-set-lt (a + 1 + length vs) xs a v (omega arith) in
    written_is (set xs a v) (a + 1) vs (omega arith) ∙ rw (e, t, d) (append_assoc (take a xs) (v ∷ []) (vs ++ drop (a + 1 + length vs) xs))

pub copied_to_front : (xs : List ℕ) (at end : ℕ) → at ≤ end → end ≤ length xs → copy_within xs at end 0 ≡ written xs 0 (cells_from xs at (end - at))
copied_to_front xs at end h g =
    let n = end - at in
    let k : length (cells_from xs at n) ≡ n = length-cells xs at n in
    let e : cells_from xs at n ≡ take n (drop at xs) = cells_are xs at n (omega arith) in
    sym (written_is xs 0 (cells_from xs at n) (omega arith) ∙ rw (k, e) refl)
