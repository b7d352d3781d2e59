-- What the rules on names mean (01, section 3; E8).
use Rattle.std.specs.Prelude.{◌≡◌, refl, ◌↔◌, ◌⊎◌, Bool, true, false, cond, ◌&&◌, ℕ, ◌+◌, ◌%◌, ◌^◌, ◌<◌, T, leb}
use Rattle.std.proofs.Common.{ap, ⊎_elim, arith, leb-true}
use Rattle.std.proofs.Math.Logic.Iff
use mathlib.Core.List.Memᴰ
use mathlib.Core.List.{List, [], ◌∷◌, map, Memᴰ}
use Rattle.std.proofs.lemmas.Bool.{lt-leb}
use Rattle.letters.specs.Bytes.{lower_of, fold, same_bytes}
use Rattle.letters.specs.BytesLaws.{and-law, or-law, either, fold-false, same-law, exact-law}
use Rattle.names.specs.Names.{same_name, void_names, esi_names, among_names, void_name, hash_of, name_key}

-- Names are the same exactly when they are equal after lower-casing.
pub name-law : (a b : List ℕ) → T (same_name a b) ↔ (map lower_of a ≡ map lower_of b)
name-law a b = same-law true true a b

-- A name under a case rule is one of a list.
among-law : (ignore : Bool) (name : List ℕ) (names : List (List ℕ)) → T (among_names ignore name names) ↔ Memᴰ (fold ignore name) names
unfolding among_names
among-law ignore name [] = (λ t. absurd t, λ m. absurd (Memᴰ.not-nil m))
among-law ignore name (n ∷ ns) =
    Iff.trans (or-law (same_bytes ignore false name n) (among_names ignore name ns))
    (Iff.trans (either (exact-law ignore name n) (among-law ignore name ns)) (⊎_elim Memᴰ.head Memᴰ.tail, Memᴰ.cases_cons))

-- E8: a name is void when, lower-cased, it is one of the 17, or with ESI on, as it stands, one of the two.
pub void-law : (esi : Bool) (name : List ℕ) → T (void_name esi name) ↔ (Memᴰ (fold true name) void_names ⊎ (T esi × Memᴰ name esi_names))
unfolding void_name
void-law esi name =
    let e = among_names false name esi_names in
    Iff.trans (or-law (among_names true name void_names) (esi && e))
    (either (among-law true name void_names) (Iff.trans (and-law esi e) (Iff.and Iff.rfl (rw (fold-false name) at (among-law false name esi_names)))))

-- ---- the name key

-- Equal names have equal keys.
pub key-same : (a b : List ℕ) → T (same_name a b) → name_key a ≡ name_key b
unfolding name_key
key-same a b t = ap (λ (s : List ℕ). hash_of 0 s % 2 ^ 31 + 1) ((name-law a b).0 t)

-- No key is 0, and every key fits 32 bits.
pub key-range : (name : List ℕ) → (0 < name_key name) × (name_key name < 2 ^ 32)
unfolding name_key
key-range name = (omega arith, omega arith)

-- ---- lower-casing

same-either : (x : Bool) (n : ℕ) → cond x n n ≡ n
same-either true n = refl
same-either false n = refl

lower-twice : (b : ℕ) → lower_of (lower_of b) ≡ lower_of b
lower-twice b = go (leb 65 b) refl (leb b 90) refl
  where
    go : (x : Bool) → leb 65 b ≡ x → (y : Bool) → leb b 90 ≡ y → lower_of (cond x (cond y (b + 32) b) b) ≡ cond x (cond y (b + 32) b) b
    go true e true f = let h = leb-true 65 b e in rw (lt-leb (b + 32) 90 (omega arith)) (same-either (leb 65 (b + 32)) (b + 32))
    go true e false f = rw (e, f)
    go false e y f = rw e

pub fold-twice : (s : List ℕ) → fold true (fold true s) ≡ fold true s
fold-twice [] = refl
fold-twice (x ∷ s) = let h = lower-twice x in let k = fold-twice s in cc
