-- Words about lists that the definitions use.
use Rattle.std.specs.Prelude.{◌≡◌, List, [], ◌∷◌, ◌++◌, Bool, true, false, not, ◌&&◌, ◌||◌, eqb, ℕ, ◌+◌, ◌<◌}

module _ {A : Type 0} where
  infix 50 ◌∈◌
  -- x is a member of the list.
  pub data ◌∈◌ (x : A) : List A → Type 0 where
    here : {y : A} {ys : List A} → x ≡ y → x ∈ (y ∷ ys)
    there : {y : A} {ys : List A} → x ∈ ys → x ∈ (y ∷ ys)

  -- No member stands in the list twice.
  abbrev pub Distinct : List A → Type 0
  Distinct [] = Unit
  Distinct (x ∷ xs) = ¬ (x ∈ xs) × Distinct xs

  -- A list with one member more, if so it is told.
  abbrev pub put_if : Bool → A → List A → List A
  put_if true x xs = x ∷ xs
  put_if false x xs = xs

  -- The members that pass a test, in their order.
  abbrev pub keep : (A → Bool) → List A → List A
  keep p [] = []
  keep p (x ∷ xs) = put_if (p x) x (keep p xs)

  -- Some member passes the test.
  abbrev pub some : (A → Bool) → List A → Bool
  some p [] = false
  some p (x ∷ xs) = p x || some p xs

  -- Every member passes the test.
  abbrev pub every : (A → Bool) → List A → Bool
  every p [] = true
  every p (x ∷ xs) = p x && every p xs

  -- Whether a list has members.
  abbrev pub full : List A → Bool
  full [] = false
  full (x ∷ xs) = true

module _ {A B : Type 0} (f : A → List B) where
  -- The lists that a function gives for each member, one after the other.
  abbrev pub gather : List A → List B
  gather [] = []
  gather (x ∷ xs) = f x ++ gather xs

-- Two lists pair up: as long as each other, and related member by member.
pub data Pairs {A B : Type 0} (R : A → B → Type 0) : List A → List B → Type 0 where
  no_pair : Pairs R [] []
  pair : {a : A} {b : B} {xs : List A} {ys : List B} → R a b → Pairs R xs ys → Pairs R (a ∷ xs) (b ∷ ys)

-- ---- Lists of numbers.

-- A number is in a list.
abbrev pub has : ℕ → List ℕ → Bool
has x ys = some (eqb x) ys

-- All numbers of a list together.
abbrev pub sum : List ℕ → ℕ
sum [] = 0
sum (n ∷ ns) = n + sum ns

-- The numbers of a list that another lacks.
abbrev pub minus : List ℕ → List ℕ → List ℕ
minus xs ys = keep (λ x. not (has x ys)) xs

-- The numbers rise, so that none stands twice.
abbrev pub Rising : List ℕ → Type 0
Rising [] = Unit
Rising (x ∷ xs) = ((y : ℕ) → y ∈ xs → x < y) × Rising xs
