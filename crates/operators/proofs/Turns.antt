-- What each early answer, and each turn of a loop, comes to in the definitions of `specs/Operators.antt`.
use mathlib.Core.Path.{◌≡◌, refl, ◌∙◌}
use mathlib.Core.Bool.{Bool, true, false, ◌||◌, cond}
use mathlib.Core.List.{List, [], ◌∷◌, ◌++◌, append-nil, append_assoc}
use Prim.Native.Nat.{ℕ, ◌+◌, ◌-◌, ◌<◌, ◌≤◌}
use native.Mathlib.Numerals.{add-one}
use native.Mathlib.Omega.{arith}
use borrow.Author.Tests.{eqb-false}
use lib.Dec.{eqb, eqb-suc-zero}
use lib.ListN.{length, take, drop, drop_of_length-le, length-drop}
use lib.Seq.{drop-cons, take_all, take-nil}
use Rattle.std.specs.List.{list_any, slice_split, onto_first}
use Rattle.std.proofs.lemmas.List.Splits.{length-slice_split}
use Rattle.letters.specs.Bytes.{same_bytes, space_byte}
use Rattle.letters.specs.BytesLaws.{same-long}
use Rattle.operators.specs.Operators.{empty_bytes, begins_with, contains_bytes, parts, split, some_part, includes_holds}

pub empty-is : (v : List ℕ) → eqb (length v) 0 ≡ empty_bytes v
unfolding empty_bytes
empty-is [] = refl
empty-is (x ∷ xs) = eqb-suc-zero (length xs)

-- a value shorter than the operand does not end with it
pub ends-short : (f : Bool) (v o : List ℕ) → length v < length o → same_bytes f f (drop (length v - length o) v) o ≡ false
ends-short f v o h = same-long f f _ o (λ e. omega (arith, length-drop (length v - length o) v))

-- a value shorter than the operand does not begin with it
pub short-begins : (f : Bool) (v o : List ℕ) → length v < length o → begins_with f v o ≡ false
unfolding begins_with
short-begins f v o h = rw (take_all (length o) v (omega arith)) (same-long f f v o (λ e. omega arith))

-- a part to the end, as the code's `&v[a..]` has it
pub rest-is : (v : List ℕ) (a : ℕ) → take (length v - a) (drop a v) ≡ drop a v
rest-is v a = take_all (length v - a) (drop a v) (omega (arith, length-drop a v))

pub ruleset suffixes = (empty-is, ends-short, rest-is)

module _ (f : Bool) (v o : List ℕ) where
  -- a turn of the loop of `substring`: the rest begins with the operand, or the next rest may have it
  pub contains-step : (i : ℕ) (begun b : Bool) → i < length v → begun ≡ begins_with f (take (length v - i) (drop i v)) o → begun ≡ b → contains_bytes f (drop i v) o ≡ (b || contains_bytes f (drop (i + 1) v) o)
  unfolding contains_bytes
  contains-step i begun b h e q = rw (← q, e, rest-is v i, add-one, drop-cons v i 0 h)

  pub contains-end : (i : ℕ) → length v ≤ i → empty_bytes o ≡ false → contains_bytes f (drop i v) o ≡ false
  unfolding contains_bytes begins_with empty_bytes
  contains-end i h n = rw (drop_of_length-le v h, take-nil (length o)) (same-long f f [] o (λ e. omega (arith, eqb-false (length o) 0 (empty-is o ∙ n))))

-- ---- the parts between white space, as the library cuts them

-- what is so far, before the first part
abbrev grown : List ℕ → List (List ℕ) → List (List ℕ)
grown so [] = so ∷ []
grown so (p ∷ ps) = (so ++ p) ∷ ps

split-whole : (n : ℕ) (ps : List (List ℕ)) → length ps ≡ n + 1 → grown [] ps ≡ ps
split-whole n [] e = absurd (omega arith)
split-whole n (p ∷ ps) e = refl

grown-onto : (so : List ℕ) (x : ℕ) (ps : List (List ℕ)) → grown (so ++ (x ∷ [])) ps ≡ grown so (onto_first x ps)
grown-onto so x [] = refl
grown-onto so x (p ∷ ps) = rw (append_assoc so (x ∷ []) p)

parts-are : (so v : List ℕ) → parts so v ≡ grown so (slice_split space_byte v)
unfolding parts
parts-are so [] = rw (append-nil so)
parts-are so (x ∷ v) = go (space_byte x) (parts-are [] v) (parts-are (so ++ (x ∷ [])) v)
  where
    go : (b : Bool) → parts [] v ≡ grown [] (slice_split space_byte v) → parts (so ++ (x ∷ [])) v ≡ grown (so ++ (x ∷ [])) (slice_split space_byte v)
        → cond b (so ∷ parts [] v) (parts (so ++ (x ∷ [])) v) ≡ grown so (cond b ([] ∷ slice_split space_byte v) (onto_first x (slice_split space_byte v)))
    go true e f = rw (append-nil so, e, split-whole _ (slice_split space_byte v) (length-slice_split space_byte v))
    go false e f = f ∙ grown-onto so x (slice_split space_byte v)

some-any : (f : Bool) (o : List ℕ) (ps : List (List ℕ)) → list_any (λ p. same_bytes f f p o) ps ≡ some_part f o ps
unfolding some_part
some-any f o [] = refl
some-any f o (p ∷ ps) = rw (some-any f o ps)

pub includes-is : (f : Bool) (v o : List ℕ) → list_any (λ p. same_bytes f f p o) (slice_split space_byte v) ≡ includes_holds f v o
unfolding includes_holds split
includes-is f v o = some-any f o (slice_split space_byte v) ∙ rw (parts-are [] v, split-whole _ (slice_split space_byte v) (length-slice_split space_byte v))
