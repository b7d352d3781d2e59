-- Ids put one by one, and a match's line.
use mathlib.Core.Bool.{Bool, true, false, cond}
use mathlib.Core.List.{List, [], ◌∷◌, ◌++◌}
use mathlib.Core.Path.{◌≡◌, refl, sym}
use Prim.Native.Nat.{ℕ, zero, suc, ◌+◌, ◌-◌, ◌*◌, ◌≤◌, ◌<◌}
use native.Mathlib.Omega.{arith}
use borrow.Author.Tests.{ltb-true, ltb-false}
use lib.Dec.{ltb}
use lib.ListN.{length, set, length-append}
use Rattle.id_sets.specs.Ids.{has_id, ids_from, ids_of, first_of}
use Rattle.id_sets.specs.IdLaws.{member-inside}
use Rattle.cells.specs.Stretches.{written}
use Rattle.std.specs.Prelude.{None, Some}
use Rattle.text.specs.Text.{Wrote, decimal}
use Rattle.text.proofs.Laws.{written-append, then}
use Rattle.match_lines.specs.MatchLines.{ids_text, match_word, content_word, match_line}

-- ---- ids

-- the first member from a place on, and those after it
pub first-id : (words : List ℕ) (n from id : ℕ) → Some id ≡ first_of (ids_from words from n)
    → (ids_from words from n ≡ id ∷ ids_from words (id + 1) (from + n - (id + 1))) × (from ≤ id) × (id < from + n) × (has_id words id ≡ true)
unfolding ids_from first_of
first-id words zero from id e = let z : ◌≡◌ {A = ℕ} 0 1 = cc in absurd (omega arith)
first-id words (suc n) from id e = go (has_id words from) refl e (first-id words n (from + 1) id)
  where
    go : (b : Bool) → has_id words from ≡ b → Some id ≡ first_of (cond b (from ∷ ids_from words (from + 1) n) (ids_from words (from + 1) n))
        → (Some id ≡ first_of (ids_from words (from + 1) n) → (ids_from words (from + 1) n ≡ id ∷ ids_from words (id + 1) (from + 1 + n - (id + 1))) × (from + 1 ≤ id) × (id < from + 1 + n) × (has_id words id ≡ true))
        → (cond b (from ∷ ids_from words (from + 1) n) (ids_from words (from + 1) n) ≡ id ∷ ids_from words (id + 1) (from + suc n - (id + 1))) × (from ≤ id) × (id < from + suc n) × (has_id words id ≡ true)
    go true h e ih =
        let q : id ≡ from = cc in
        let m : from + suc n - (from + 1) ≡ n = omega arith in
        (rw (q, m), omega arith, omega arith, rw q h)
    go false h e ih =
        let i = ih e in
        let m : from + 1 + n ≡ from + suc n = omega arith in
        (rw m at i.0, omega arith, omega arith, i.3)

no-first : (xs : List ℕ) → None ≡ first_of xs → xs ≡ []
unfolding first_of
no-first [] e = refl
no-first (x ∷ xs) e = let z : ◌≡◌ {A = ℕ} 0 1 = cc in absurd (omega arith)

-- a member is below 64 for each word
pub id-inside : (words : List ℕ) (id : ℕ) → has_id words id ≡ true → id < 64 * length words
id-inside words id h = by (ltb id (64 * length words)) refl
  where
    by : (b : Bool) → ltb id (64 * length words) ≡ b → id < 64 * length words
    by true e = ltb-true _ _ e
    by false e =
        let g = ltb-false id (64 * length words) e in
        let f = member-inside words id (omega arith) in
        let z : ◌≡◌ {A = ℕ} 0 1 = cc in
        absurd (omega arith)

-- what is left to write, from an id on
abbrev pub Rest : (words : List ℕ) → (from : ℕ) → List ℕ
Rest words from = ids_text (ids_from words from (65536 - from))

pub ids-start : (words : List ℕ) → ids_text (ids_of words) ≡ Rest words 0
unfolding ids_of
ids-start words = refl

pub ids_more : (o o₁ o₂ words : List ℕ) (at from next id : ℕ) → from ≤ 65536 → Some id ≡ first_of (ids_from words from (65536 - from))
    → o₁ ≡ set o at 32 → next ≡ at + 1 + length (decimal id) → o₂ ≡ written o₁ (at + 1) (decimal id)
    → (at + length (Rest words from) ≡ next + length (Rest words (id + 1))) × (written o at (Rest words from) ≡ written o₂ next (Rest words (id + 1))) × (from ≤ id) × (id < 65536) × (id < 64 * length words)
unfolding ids_text written
ids_more o o₁ o₂ words at from next id h e f g k =
    let i = first-id words (65536 - from) from id e in
    let m : from + (65536 - from) ≡ 65536 = omega arith in
    let i₀ : ids_from words from (65536 - from) ≡ id ∷ ids_from words (id + 1) (65536 - (id + 1)) = rw m at i.0 in
    let i₂ : id < 65536 = rw m at i.2 in
    (rw i₀ (simp length-append (omega arith)), rw (i₀, k, f, g) (sym (written-append (set o at 32) (at + 1) (decimal id) (Rest words (id + 1)))), i.1, i₂, id-inside words id i.3)

pub ids-none : (o words : List ℕ) (at from : ℕ) → None ≡ first_of (ids_from words from (65536 - from)) → (at + length (Rest words from) ≡ at) × (written o at (Rest words from) ≡ o)
unfolding ids_text written
ids-none o words at from e = rw (no-first _ e) (omega arith, refl)

-- ---- a match's line

pub match-put : (o o₁ o₂ o₃ words : List ℕ) (content : Bool) (at m k r : ℕ)
    → m ≡ at + 5 → o₁ ≡ written o at match_word → k ≡ m + length (ids_text (ids_of words)) → o₂ ≡ written o₁ m (ids_text (ids_of words))
    → r ≡ k + length (content_word content) → o₃ ≡ written o₂ k (content_word content) → Wrote o at (match_line words content) r o₃
unfolding match_line
match-put o o₁ o₂ o₃ words content at m k r a b c d e f =
    let w = then o o₁ o₂ match_word (ids_text (ids_of words)) at m k a b c d in
    then o o₂ o₃ (match_word ++ ids_text (ids_of words)) (content_word content) at k r w.0 w.1 e f
