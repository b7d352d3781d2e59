-- The search for the next instruction whose key fits: what the inner functions of the scans promise to each other. No public promise of the machine cites it.
use Rattle.std.specs.Prelude.{◌≡◌, true, cond, List, [], ◌∷◌, ℕ, zero, suc, ◌+◌, ◌-◌, ◌<◌, ◌^◌, eqb, ltb, take, Option, Some, None}
use Rattle.cursors.specs.declared.Cursor.{Cursor}
use Rattle.cursors.specs.declared.Ranges.{Ranges}
use Rattle.cursors.specs.Cursors.{after_cursor, left_in, rest}
use Rattle.instructions.specs.Instructions.{key_fits}

-- How many jumps are left at a cursor.
unfoldable pub jumps : Ranges → Cursor → ℕ
jumps ranges c =
    cond (eqb c.stage 0)
    (ranges.parents_top - c.slot + (ranges.ancestors_top - ranges.ancestors_from) + 1)
    (ranges.ancestors_top - c.slot)

-- The first of n neighbouring instructions whose key fits, or the one after them.
unfoldable pub first_keyed : List ℕ → ℕ → ℕ → ℕ → ℕ
first_keyed program key a zero = a
first_keyed program key a (suc n) = cond (key_fits program key a) a (first_keyed program key (a + 1) n)

-- How many instructions of a range a budget allows.
unfoldable pub affordable : (limit at stop budget : ℕ) → ℕ
affordable limit at stop budget = cond (ltb budget (left_in limit at stop)) budget (left_in limit at stop)

-- The cursors from the first one on whose instruction's key fits.
unfoldable pub from_keyed : List ℕ → ℕ → List Cursor → List Cursor
from_keyed program key [] = []
from_keyed program key (c ∷ cs) = cond (key_fits program key c.at) (c ∷ cs) (from_keyed program key cs)

-- A candidate stands on the first instruction whose key fits, and what comes after it is left; or there is none.
unfoldable pub Reached : (program nodes : List ℕ) → Ranges → (key : ℕ) → Cursor → (budget : ℕ) → Option (Cursor × ℕ) → Type 0
Reached program nodes ranges key from budget None = from_keyed program key (take budget (rest program nodes ranges from)) ≡ []
Reached program nodes ranges key from budget (Some (d, left)) =
    (from_keyed program key (take budget (rest program nodes ranges from)) ≡ d ∷ take left (rest program nodes ranges (after_cursor d)))
    × ((key_fits program key d.at ≡ true) × ((d.at < 2 ^ 16) × (left < budget)))
