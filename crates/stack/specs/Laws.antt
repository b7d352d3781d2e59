-- Laws of the operations on the stores.
use Rattle.std.specs.Prelude.{◌≡◌, refl, Bool, true, false, cond, List, [], ◌∷◌, ◌++◌, ℕ, zero, suc, ◌+◌, ◌<◌, ◌≤◌, length, set, drop}
use Rattle.std.proofs.Common.{sym, arith, add-one, lt-ltb, drop-cons}
use Rattle.std.proofs.Math.Seq.{drop-length}
use Rattle.cells.specs.Stretches.{cells_or, cells_from, written}
use Rattle.stack.specs.Stores.{count_limit, one_more, bears, bearers, listed, new_ancestors, descendant_block}

-- ---- stretches
cells-from : (xs : List ℕ) (i n : ℕ) → i + n ≡ length xs → cells_from xs i n ≡ drop i xs
unfolding cells_or
cells-from xs i zero e = let f : i ≡ length xs = omega arith in rw f (sym (drop-length xs))
cells-from xs i (suc n) e = rw (drop-cons xs i 0 (omega arith), cells-from xs (i + 1) n (omega arith), add-one i)

-- all cells of a list are the list
pub cells-all : (xs : List ℕ) → cells_from xs 0 (length xs) ≡ xs
cells-all xs = cells-from xs 0 (length xs) (omega arith)

pub written-cat : (xs : List ℕ) (a : ℕ) (vs ws : List ℕ) → written xs a (vs ++ ws) ≡ written (written xs a vs) (a + length vs) ws
unfolding written
written-cat xs a [] ws = let e : a + 0 ≡ a = omega arith in rw e
written-cat xs a (v ∷ vs) ws = let e : a + suc (length vs) ≡ a + 1 + length vs = omega arith in rw e (written-cat (set xs a v) (a + 1) vs ws)

-- ---- a count that is not full rises by one
pub one_more_lem : (n : ℕ) → n < count_limit → one_more n ≡ n + 1
unfolding one_more
one_more_lem n h = rw (lt-ltb _ _ h)

-- ---- the nodes that are kept are at most those that were found, and kept one by one
pub bearers-few : (program : List ℕ) (limit w : ℕ) (found : List ℕ) → length (bearers program limit w found) ≤ length found
unfolding bearers
bearers-few program limit w [] = omega arith
bearers-few program limit w (a ∷ found) = go (bears program limit w a) (bearers-few program limit w found)
  where
    go : (b : Bool) → length (bearers program limit w found) ≤ length found → length (cond b (a ∷ bearers program limit w found) (bearers program limit w found)) ≤ suc (length found)
    go true h = omega arith
    go false h = omega arith

pub bearers-one : (program : List ℕ) (limit w a : ℕ) (found : List ℕ) → bearers program limit w (a ∷ found) ≡ bearers program limit w (a ∷ []) ++ bearers program limit w found
unfolding bearers
bearers-one program limit w a found = go (bears program limit w a)
  where
    go : (b : Bool) → cond b (a ∷ bearers program limit w found) (bearers program limit w found) ≡ cond b (a ∷ []) [] ++ bearers program limit w found
    go true = refl
    go false = refl

pub ancestors_few : (old program : List ℕ) (limit : ℕ) (found : List ℕ) → length (new_ancestors old program limit found) ≤ length found
unfolding new_ancestors
ancestors_few old program limit [] = omega arith
ancestors_few old program limit (a ∷ found) = go (bears program limit descendant_block a) (listed a old) (ancestors_few old program limit found)
  where
    go : (b c : Bool) → length (new_ancestors old program limit found) ≤ length found
        → length (cond b (cond c (new_ancestors old program limit found) (a ∷ new_ancestors old program limit found)) (new_ancestors old program limit found)) ≤ suc (length found)
    go true true h = omega arith
    go true false h = omega arith
    go false c h = omega arith

pub ancestors-one : (old program : List ℕ) (limit a : ℕ) (found : List ℕ) → new_ancestors old program limit (a ∷ found) ≡ new_ancestors old program limit (a ∷ []) ++ new_ancestors old program limit found
unfolding new_ancestors
ancestors-one old program limit a found = go (bears program limit descendant_block a) (listed a old)
  where
    go : (b c : Bool) → cond b (cond c (new_ancestors old program limit found) (a ∷ new_ancestors old program limit found)) (new_ancestors old program limit found)
        ≡ cond b (cond c [] (a ∷ [])) [] ++ new_ancestors old program limit found
    go true true = refl
    go true false = refl
    go false c = refl
