-- Words as the calls keep them and hand them out: a number cut to a cell, no id, and what was written at the front of a local list.
use Rattle.std.specs.Prelude.{◌≡◌, refl, List, [], ◌∷◌, ℕ, suc, ◌+◌, ◌-◌, ◌%◌, ◌≤◌, length, take, drop, set}
use Rattle.std.proofs.Math.Nat.{sub-zero}
use Rattle.std.proofs.Common.{add-one, arith, take_at}
use Rattle.std.proofs.lemmas.List.Edits.{sets, sets-eq}
use Rattle.cells.specs.Stretches.{written}

-- A number as a cell of the rows keeps it.
abbrev pub cell : ℕ → ℕ
cell n = n % 4294967296

-- No id.
abbrev pub no_ids : List ℕ
no_ids = 0 ∷ 0 ∷ []

-- ---- what was written is the front of the local list

written-sets : (xs : List ℕ) (a : ℕ) (vs : List ℕ) → written xs a vs ≡ sets xs a vs
unfolding written
written-sets xs a [] = refl
written-sets xs a (v ∷ vs) = rw (add-one a) (written-sets (set xs a v) (suc a) vs)

pub front : (xs vs : List ℕ) (n : ℕ) → n ≡ length vs → length vs ≤ length xs → take (n - 0) (drop 0 (written xs 0 vs)) ≡ vs
front xs vs n e h = rw (e, sub-zero (length vs), written-sets xs 0 vs, sets-eq vs xs 0 (omega arith)) (take_at vs (drop (0 + length vs) xs) (length vs) refl)
