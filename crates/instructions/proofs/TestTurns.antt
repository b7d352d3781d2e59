-- Turns of the loops over an instruction's tests.
use Rattle.std.proofs.Common.{◌≡◌, refl, Bool, true, false, List, ℕ, zero, suc, ◌+◌}
use Rattle.cells.specs.Numbers.{part}
use Rattle.rules.specs.Attributes.{Attribute}
use Rattle.node_tests.specs.Tests.{tag_test_holds, read_tag_test, attribute_test_holds, read_attribute_test}
use Rattle.instructions.specs.Instructions.{test_end, tests_end, tests_hold, tag_tests_hold, attribute_tests_hold}

module _ (sheet : List ℕ) (n at : ℕ) where
  pub end_none : n ≡ 0 → at ≡ tests_end sheet n at
  unfolding tests_end
  end_none e = rw e

  pub end_more : (m end : ℕ) → end ≡ test_end sheet at → n ≡ suc m → tests_end sheet m end ≡ tests_end sheet n at
  unfolding tests_end
  end_more m end s e = rw (e, s)

module _ (passes : List ℕ → Bool) (sheet : List ℕ) (n at : ℕ) where
  pub hold-none : n ≡ 0 → true ≡ tests_hold passes sheet n at
  unfolding tests_hold
  hold-none e = rw e

  module _ (m end : ℕ) (bytes : List ℕ) (holds : Bool) (s : end ≡ test_end sheet at) (b : bytes ≡ part sheet (at + 2) end) (t : holds ≡ passes bytes) (e : n ≡ suc m) where
    pub hold-fail : holds ≡ false → false ≡ tests_hold passes sheet n at
    unfolding tests_hold
    hold-fail f = rw (e, ← s, ← b, ← t, f)

    pub hold-more : holds ≡ true → tests_hold passes sheet m end ≡ tests_hold passes sheet n at
    unfolding tests_hold
    hold-more f = rw (e, ← s, ← b, ← t, f)

-- tag tests and attribute tests are such tests
pub tags-are : (sheet name : List ℕ) (child of_type n at : ℕ) → tests_hold (λ bytes. tag_test_holds name child of_type (read_tag_test bytes)) sheet n at ≡ tag_tests_hold sheet name child of_type n at
unfolding tests_hold tag_tests_hold
tags-are sheet name child of_type zero at = refl
tags-are sheet name child of_type (suc n) at = rw (tags-are sheet name child of_type n (test_end sheet at))

pub attributes-are : (sheet : List ℕ) (html : Bool) (attributes : List Attribute) (n at : ℕ) → tests_hold (λ bytes. attribute_test_holds html attributes (read_attribute_test bytes)) sheet n at ≡ attribute_tests_hold sheet html attributes n at
unfolding tests_hold attribute_tests_hold
attributes-are sheet html attributes zero at = refl
attributes-are sheet html attributes (suc n) at = rw (attributes-are sheet html attributes n (test_end sheet at))
