-- The search for the next instruction whose key fits, within a budget of bytes of tests. No public promise cites it.
use Rattle.std.specs.Prelude.{◌≡◌, Bool, true, false, List, [], ◌∷◌, ℕ, ◌<◌, ◌^◌, Option, Some, None}
use Rattle.cursors.specs.declared.Cursor.{Cursor}
use Rattle.cursors.specs.declared.Ranges.{Ranges}
use Rattle.cursors.specs.Cursors.{after_cursor}
use Rattle.instructions.specs.Instructions.{key_fits}
use Rattle.candidates.specs.Candidates.{from_keyed}
use Rattle.exec.specs.declared.scan.Verdict.{Verdict}
use Rattle.exec.specs.declared.scan.Verdict.TheVariants.{Fails, Matches, Asks}
use Rattle.exec.specs.Scans.{live}

-- A live one stands on the first instruction whose key fits, and what comes after it is left; a candidate whose tests go past the bytes ends the search.
unfoldable pub Within : (sheet program nodes : List ℕ) → Ranges → (key : ℕ) → Cursor → (budget bytes : ℕ) → Option (Cursor × ℕ × ℕ) → Type 0
Within sheet program nodes ranges key from budget bytes None = from_keyed program key (live sheet program nodes ranges key from budget bytes) ≡ []
Within sheet program nodes ranges key from budget bytes (Some (d, left, more)) =
    (from_keyed program key (live sheet program nodes ranges key from budget bytes) ≡ d ∷ live sheet program nodes ranges key (after_cursor d) left more)
    × ((key_fits program key d.at ≡ true) × ((d.at < 2 ^ 16) × (left < budget)))

-- What becomes of an instruction: it fails, or it asks for attributes, or it matches.
unfoldable pub verdict_of : (passes asking : Bool) → Verdict
verdict_of false asking = Fails
verdict_of true true = Asks
verdict_of true false = Matches

-- Of an instruction whose key fits a call says what the two tests say of it, and one whose key doesn't fit fails.
unfoldable pub Judges : (program : List ℕ) → (key : ℕ) → (passes asking : ℕ → Bool) → (call : ℕ → Verdict → Type 0) → Type 0
Judges program key passes asking call =
    ((a : ℕ) → key_fits program key a ≡ false → passes a ≡ false)
    × ((a : ℕ) → (v : Verdict) → a < 2 ^ 16 → key_fits program key a ≡ true → call a v → v ≡ verdict_of (passes a) (asking a))
