-- What the bytes of a test say of its key and of its kind; one turn of the loop over tests.
use Prim.Native.Nat.{ℕ, zero, suc, ◌+◌, ◌≤◌}
use mathlib.Core.Path.{◌≡◌, refl}
use mathlib.Core.Bool.{Bool, true, false, cond, not}
use mathlib.Core.List.{List, map}
use native.Mathlib.Numerals.{add-one}
use lib.Dec.{eqb}
use denote.Bor.{Bor}
use lib.IntN.{ℤ}
use lib.ListN.{length, get_or}
use borrow.Author.Tests.{ne_eqb}
use Rattle.cells.specs.Numbers.{part, be16}
use Rattle.names.specs.Names.{name_key}
use Rattle.node_tests.specs.declared.TagTest.{TagTest as ReadTagTest}
use Rattle.node_tests.specs.declared.TagTest.TheVariants.{Any, Unmatchable, LocalName, NthChild, NthOfType}
use Rattle.node_tests.specs.Readings.{tag_test_of}
use Rattle.node_tests.specs.Tests.{tag_kind, read_tag_test}
use Rattle.node_records.specs.Records.{end_of, tests_from}
use Rattle.sheet.specs.Meaning.{of_type}
use Rattle.sheet.specs.Spelling.{TestsInside}
use Rattle.program.specs.Program.{tag_key, test_key, node_key, any_of_type}

-- a test that is read as no local name has no key
no-name : (t : ReadTagTest) → ((name : Bor (List ℕ)) → t ≡ LocalName name → ⊥) → 0 ≡ tag_key (tag_test_of t)
unfolding tag_key tag_test_of
no-name Any h = refl
no-name Unmatchable h = refl
no-name (LocalName name) h = absurd (h name refl)
no-name (NthChild step offset) h = refl
no-name (NthOfType step offset) h = refl

no_key_of : (negated : Bool) → ◌≡◌ {A = ℕ} 0 (cond negated 0 0)
no_key_of true = refl
no_key_of false = refl

module _ (test : List ℕ) where
  pub key_negated : (get_or test 1 0 ≡ 0 → ⊥) → 0 ≡ test_key (read_tag_test test)
  unfolding test_key read_tag_test
  key_negated a = rw (ne_eqb _ _ a) refl

  module _ (t : ReadTagTest) (kind : ℕ) (k : kind ≡ get_or test 0 0) (body : List ℕ) (b : body ≡ part test 2 (length test)) (e : tag_test_of t ≡ tag_kind kind body) where
    pub key_other : ((name : Bor (List ℕ)) → t ≡ LocalName name → ⊥) → 0 ≡ test_key (read_tag_test test)
    unfolding test_key read_tag_test
    key_other h = rw (← k, ← b, ← e, ← no-name t h) (no_key_of (not (eqb (get_or test 1 0) 0)))

    pub key_name : get_or test 1 0 ≡ 0 → (name : Bor (List ℕ)) → t ≡ LocalName name → name_key name.now ≡ test_key (read_tag_test test)
    unfolding test_key read_tag_test tag_test_of tag_key
    key_name a name h = rw (a, ← k, ← b, ← e, h) refl

-- one that is read as no nth-of-type is none
pub no-type : (t : ReadTagTest) → ((step offset : ℤ) → t ≡ NthOfType step offset → ⊥) → false ≡ of_type (tag_test_of t)
unfolding of_type tag_test_of
no-type Any h = refl
no-type Unmatchable h = refl
no-type (LocalName name) h = refl
no-type (NthChild step offset) h = refl
no-type (NthOfType step offset) h = absurd (h step offset refl)

module _ (s : List ℕ) where
  pub first_key : (n at : ℕ) → (n ≡ 0 → ⊥) → (k : ℕ) → k ≡ be16 s at → (test : List ℕ) → test ≡ part s (at + 2) (at + 2 + k) → test_key (read_tag_test test) ≡ node_key (map read_tag_test (tests_from s n at))
  unfolding node_key tests_from
  first_key zero at h k e test f = absurd (h refl)
  first_key (suc n) at h k e test f = rw (f, e) refl

  pub no_key : (n at : ℕ) → n ≡ 0 → 0 ≡ node_key (map read_tag_test (tests_from s n at))
  unfolding node_key tests_from
  no_key n at h = rw h refl

  pub tests-first : (end n : ℕ) {m : ℕ} (at : ℕ) → m ≡ n + 1 → TestsInside s end m at → (at + 4 ≤ end_of s at) × ((end_of s at ≤ end) × TestsInside s end n (end_of s at))
  unfolding TestsInside
  tests-first end n at h t = rw (h, add-one) at t

  pub any_none : (n at : ℕ) → n ≡ 0 → any_of_type (map read_tag_test (tests_from s n at)) ≡ false
  unfolding any_of_type tests_from
  any_none n at h = rw h refl

  module _ (k : ℕ) (test : List ℕ) (found : Bool) (e : found ≡ of_type (read_tag_test test).test) (n : ℕ) {m : ℕ} (at : ℕ) (h : m ≡ n + 1) (x : k ≡ be16 s at) (y : test ≡ part s (at + 2) (at + 2 + k)) where
    pub any_found : found ≡ true → any_of_type (map read_tag_test (tests_from s m at)) ≡ true
    unfolding any_of_type tests_from
    any_found z = rw (h, add-one, ← x, ← y, ← e, z) refl

    pub any-more : found ≡ false → any_of_type (map read_tag_test (tests_from s m at)) ≡ any_of_type (map read_tag_test (tests_from s n (at + 2 + k)))
    unfolding any_of_type tests_from
    any-more z = rw (h, add-one, ← x, ← y, ← e, z) refl
