-- Names: a search among them, and the name key's fold.
use mathlib.Core.Path.{◌≡◌, refl}
use native.Mathlib.Omega.{arith}
use mathlib.Core.Bool.{Bool, false}
use mathlib.Core.List.{List, [], ◌∷◌, map}
use Prim.Native.Nat.{ℕ, ◌+◌, ◌*◌, ◌%◌, ◌^◌}
use denote.Ref.{Bor}
use Rattle.std.specs.List.{fold, list_any}
use Rattle.letters.specs.Bytes.{lower_of, same_bytes}
use Rattle.names.specs.Names.{among_names, hash_of}

pub among-any : (ignore : Bool) (name : List ℕ) (names : List (Bor (List ℕ))) → list_any (λ n. same_bytes ignore false name n.now) names ≡ among_names ignore name (map (λ n. n.now) names)
unfolding among_names
among-any ignore name [] = refl
among-any ignore name (n ∷ names) = rw (among-any ignore name names)

pub hash-fold : (h : ℕ) (name : List ℕ) → fold (λ h b. (h * 31 % 2 ^ 32 + lower_of b) % 2 ^ 32) h name ≡ hash_of h (map lower_of name)
unfolding hash_of
hash-fold h [] = refl
hash-fold h (b ∷ name) = let e : (h * 31 % 2 ^ 32 + lower_of b) % 2 ^ 32 ≡ (h * 31 + lower_of b) % 2 ^ 32 = omega arith in rw e (hash-fold ((h * 31 + lower_of b) % 2 ^ 32) name)
