-- One turn of the loop over records.
use Prim.Native.Nat.{ℕ, zero, suc, ◌+◌, ◌-◌, ◌≤◌, ◌<◌}
use mathlib.Core.Path.{◌≡◌, refl}
use mathlib.Core.Bool.{Bool, true, false}
use mathlib.Core.List.{List, map}
use native.Mathlib.Numerals.{add-one}
use native.Mathlib.Omega.{arith}
use lib.ListN.{get_or}
use Rattle.cells.specs.Numbers.{be16}
use Rattle.node_tests.specs.Tests.{read_tag_test}
use Rattle.node_records.specs.Records.{record_at, end_of, tests_from}
use Rattle.sheet.specs.Spelling.{TestsInside, Inside}
use Rattle.program.specs.Program.{any_of_type}
use Rattle.compiler.specs.Placing.{RecordsInside, records_use}

module _ (s : List ℕ) where
  pub records-first : (n : ℕ) {m : ℕ} (at : ℕ) → m ≡ n + 1 → RecordsInside s m at → Inside s at × RecordsInside s n (end_of s at)
  unfolding RecordsInside
  records-first n at h t = rw (h, add-one) at t

  pub records-none : (n at : ℕ) → n ≡ 0 → records_use s n at ≡ false
  unfolding records_use
  records-none n at h = rw h refl

  module _ (at : ℕ) {k tags : ℕ} (ek : k ≡ get_or s (at + 2) 0) (et : tags ≡ get_or s (at + 3 + k) 0) {found : Bool} (e : found ≡ any_of_type (map read_tag_test (tests_from s tags (at + 3 + k + 6)))) (n : ℕ) {m : ℕ} (h : m ≡ n + 1) where
    found-is : found ≡ any_of_type (record_at s at).tag_tests
    unfolding record_at
    found-is = rw (e, et, ek) refl

    pub records-found : found ≡ true → records_use s m at ≡ true
    unfolding records_use
    records-found z = rw (h, add-one, ← found-is, z) refl

    pub records-more : found ≡ false → records_use s m at ≡ records_use s n (end_of s at)
    unfolding records_use
    records-more z = rw (h, add-one, ← found-is, z) refl

  pub tags-inside : (at : ℕ) → Inside s at → {n k tags : ℕ} → n ≡ be16 s at → k ≡ get_or s (at + 2) 0 → tags ≡ get_or s (at + 3 + k) 0 → TestsInside s (at + 2 + n) tags (at + 3 + k + 6)
  tags-inside at i en ek et = rw (et, ek, en) i.tags
