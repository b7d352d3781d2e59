-- Which nodes have trees: what is tested at one, and how many have.
use Rattle.std.proofs.Common.{◌≡◌, refl, ap, sym, ◌∙◌, Bool, true, false, cond, ◌&&◌, List, [], ◌∷◌, ℕ, ◌+◌, ◌≤◌, length, get_or, ltb, leb}
use Rattle.std.specs.List.{count_by, filter}
use Rattle.std.proofs.Math.Bool.{and-true, and-false}
use Rattle.std.proofs.lemmas.List.Sums.{length-filter, count_by-le-length}
use Rattle.stack.specs.Stores.{instruction_at, block_length, bears, bearers}

pub block_is : (program : List ℕ) (limit w a : ℕ) → bears program limit w a ≡ (ltb 0 (get_or program (instruction_at a + w + 1) 0) && leb (get_or program (instruction_at a + w) 0 + get_or program (instruction_at a + w + 1) 0) limit)
unfolding bears block_length
block_is program limit w a = go (get_or program (instruction_at a + w + 1) 0) (leb (get_or program (instruction_at a + w) 0 + get_or program (instruction_at a + w + 1) 0) limit)
  where
    go : (n : ℕ) (b : Bool) → ltb 0 (cond b n 0) ≡ (ltb 0 n && b)
    go n true = sym (and-true (ltb 0 n))
    go n false = sym (and-false (ltb 0 n))

-- the nodes that have trees are those that pass the test
pub bearers_is : (program : List ℕ) (limit w : ℕ) (found : List ℕ) → bearers program limit w found ≡ filter (bears program limit w) found
unfolding bearers
bearers_is program limit w [] = refl
bearers_is program limit w (a ∷ found) = rw (bearers_is program limit w found)

pub count_of_bearers : (program : List ℕ) (limit w : ℕ) (found : List ℕ) → (count_by (bears program limit w) found ≡ length (bearers program limit w found)) × (count_by (bears program limit w) found ≤ length found)
count_of_bearers program limit w found = (sym (ap length (bearers_is program limit w found) ∙ length-filter (bears program limit w) found), count_by-le-length (bears program limit w) found)
