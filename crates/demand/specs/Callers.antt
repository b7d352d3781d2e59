-- What a C caller can rely on, whatever was lent and called (01, sections 2 and 8). The laws that each of the five answers is so: proofs/Callers.
use Rattle.std.specs.Prelude.{◌≡◌, List, ℕ}
use Rattle.meaning.specs.Lists.{◌∈◌}
use Rattle.told.specs.declared.Told.{Told}

-- Both id words are 0, unless the kind has ids (2, match; 5, ids of the top open element).
abbrev pub IdsOnlyBeside : Told → Type 0
IdsOnlyBeside t = (t.kind ≡ 2 → ⊥) → (t.kind ≡ 5 → ⊥) → (t.low ≡ 0) × (t.high ≡ 0)

-- Refused (kind 0): the number is one of the call's, none of which is 0. Not refused: it is 0.
abbrev pub NumberIfRefused : (numbers : List ℕ) → Told → Type 0
NumberIfRefused numbers t = (t.kind ≡ 0 → (t.refusal ∈ numbers) × (t.refusal ≡ 0 → ⊥)) × ((t.kind ≡ 0 → ⊥) → t.refusal ≡ 0)

abbrev pub Reliable : (numbers : List ℕ) → Told → Type 0
Reliable numbers t = IdsOnlyBeside t × NumberIfRefused numbers t
