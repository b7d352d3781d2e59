-- What the bytes of a test are read as; a signed local holds bits, which are read back.
use Rattle.std.proofs.Common.{◌≡◌, refl, ◌∙◌, Bool, true, false, not, cond, ℕ, ◌<◌, ◌≤◌, List, arith}
use mathlib.Core.Bool.{beq}
use borrow.Author.Tests.{ne_eqb, lt-ltb, le-ltb}
use lib.IntN.{ℤ, pos}
use lib.Signed.{mag}
use mir.Syntax.{w32}
use mir.Val.{to_z, of_z}
use mir.ValLaws.{to_z-of_z}
use Rattle.cells.specs.Numbers.{i32_at}
use Rattle.nth.specs.Nth.{nth_holds}
use Rattle.node_tests.specs.Tests.{operator_of, comparison, attribute_kind, unencodable}

pub read-back : (step : ℤ) (body : List ℕ) (at : ℕ) → mag step < 2147483648 → step ≡ i32_at body at → to_z w32 (of_z w32 step) ≡ i32_at body at
read-back step body at fits e = to_z-of_z w32 step (record { sfits = fits }) ∙ e

pub compared : (kind : ℕ) (body : List ℕ) → 20 ≤ kind → kind ≤ 25 → attribute_kind kind body ≡ comparison (operator_of kind) body
unfolding attribute_kind
compared kind body low high = rw (ne_eqb kind 16 (λ e. omega arith), ne_eqb kind 17 (λ e. omega arith), ne_eqb kind 18 (λ e. omega arith), le-ltb kind 20 low, le-ltb 25 kind high)

pub past : (kind : ℕ) (body : List ℕ) → 26 ≤ kind → unencodable ≡ attribute_kind kind body
unfolding attribute_kind
past kind body high = rw (ne_eqb kind 16 (λ e. omega arith), ne_eqb kind 17 (λ e. omega arith), ne_eqb kind 18 (λ e. omega arith), le-ltb kind 20 (omega arith), lt-ltb 25 kind (omega arith))

pub nth_kept : (step offset : ℤ) (index : ℕ) → mag step < 2147483648 → mag offset < 2147483648 → nth_holds (to_z w32 (of_z w32 step)) (to_z w32 (of_z w32 offset)) (pos index) ≡ nth_holds step offset (pos index)
nth_kept step offset index fs fo = rw (to_z-of_z w32 step (record { sfits = fs }), to_z-of_z w32 offset (record { sfits = fo }))

pub differs : (holds negated : Bool) → not (beq holds negated) ≡ cond negated (not holds) holds
differs true true = refl
differs true false = refl
differs false true = refl
differs false false = refl
