-- Neighbouring addresses.
use Rattle.std.specs.Prelude.{◌≡◌, refl, List, [], ◌∷◌, length, ℕ, zero, suc, ◌+◌, ◌-◌, ◌<◌, ◌≤◌}
use Rattle.std.proofs.Common.{sym, ap, arith, le_of_eq}
use Rattle.meaning.specs.Lists.{◌∈◌, here, there, Distinct}
use Rattle.meaning.proofs.ListLaws.{length-within}

-- So many addresses from one on.
abbrev pub span : ℕ → ℕ → List ℕ
span a zero = []
span a (suc n) = a ∷ span (suc a) n

from-span : (a n b : ℕ) → b ∈ span a n → a ≤ b
from-span a (suc n) b (here e) = le_of_eq (sym e)
from-span a (suc n) b (there h) = let k = from-span (suc a) n b h in omega arith
from-span a zero b x' = elim x' [ ]

pub distinct-span : (a n : ℕ) → Distinct (span a n)
distinct-span a zero = tt
distinct-span a (suc n) = ((λ h. let k = from-span (suc a) n a h in omega arith), distinct-span (suc a) n)

pub span-mem : (a n x : ℕ) → a ≤ x → x < a + n → x ∈ span a n
span-mem a zero x h k = absurd (let z : ⊥ = omega arith in z)
span-mem a (suc n) x h k = go (x - a) refl (λ j. span-mem (suc a) n x j (omega arith))
  where
    go : (d : ℕ) → x - a ≡ d → (suc a ≤ x → x ∈ span (suc a) n) → x ∈ span a (suc n)
    go zero e ih = let q : x ≡ a = omega arith in here q
    go (suc d) e ih = there (ih (omega arith))

length-span : (a n : ℕ) → length (span a n) ≡ n
length-span a zero = refl
length-span a (suc n) = ap suc (length-span (suc a) n)

-- Numbers below n, each once, are at most n.
pub at_most : (n : ℕ) (xs : List ℕ) → Distinct xs → ((x : ℕ) → x ∈ xs → x < n) → length xs ≤ n
at_most n xs d h = let a = length-within xs (span 0 n) d (λ x m. let b = h x m in span-mem 0 n x (omega arith) (omega arith)) in let b = length-span 0 n in omega arith
