-- What a refusal's number says, and what no refusal leaves known.
use Rattle.std.specs.Prelude.{◌≡◌, Bool, true, false, cond, not, List, ℕ, ◌<◌, ◌≤◌, T, eqb, ltb, leb, length, get_or}
use Rattle.std.proofs.Common.{sym, ◌∙◌, subst, arith, eq-eqb, ne_eqb, ltb-false, leb-false}
use Rattle.refusals.specs.declared.Refusal.{Refusal}
use Rattle.refusals.specs.Numbers.{number}
use Rattle.shapes.specs.Passing.{all-passed}
use Rattle.stack.specs.Stores.{opens}
use Rattle.weighing.specs.Weighing.{is_bad_name, tag_refusal, push_refusal, end_refusal}

-- a refusal's number, 0 or not
module _ (r x : ℕ) (e : r ≡ x) where
  pub passed : r ≡ 0 → eqb x 0 ≡ true
  passed h = eq-eqb x 0 (sym e ∙ h)

  pub stopped_by : (r ≡ 0 → ⊥) → eqb x 0 ≡ false
  stopped_by h = ne_eqb x 0 (λ z. h (e ∙ z))

-- every refusal has a number
pub numbered : (refusal : Refusal) → number refusal ≡ 0 → ⊥
numbered Refusal.BadName e = omega (arith, e)
numbered Refusal.BadNamespace e = omega (arith, e)
numbered Refusal.TagWaits e = omega (arith, e)
numbered Refusal.NoTagWaits e = omega (arith, e)
numbered Refusal.BadOutlines e = omega (arith, e)
numbered Refusal.ChildCountFull e = omega (arith, e)
numbered Refusal.TooManyTypes e = omega (arith, e)
numbered Refusal.TooManyOpen e = omega (arith, e)
numbered Refusal.TooManyMatched e = omega (arith, e)
numbered Refusal.BufferTooShort e = omega (arith, e)
numbered Refusal.BadShape e = omega (arith, e)
numbered Refusal.StoreTooShort e = omega (arith, e)

-- ---- what no refusal means

name_of : (name : List ℕ) → is_bad_name name ≡ false → length name ≤ 63
unfolding is_bad_name
name_of name e = go (eqb (length name) 0) e
  where
    go : (b : Bool) → cond b true (ltb 63 (length name)) ≡ false → length name ≤ 63
    go true q = absurd (subst T q tt)
    go false q = ltb-false _ _ q

pub tag-passed : (rows : List ℕ) (namespace : ℕ) (name : List ℕ) (r : ℕ) → r ≡ tag_refusal rows namespace name → r ≡ 0 → (length name ≤ 63) × (namespace ≤ 2)
unfolding tag_refusal
tag-passed rows namespace name r e z =
    let (a, e₁) = all-passed (not (eqb (get_or rows 4 0) 0)) 22 _ (omega arith) (sym e ∙ z) in
    let (b, e₂) = all-passed (is_bad_name name) 20 _ (omega arith) e₁ in
    let (c, e₃) = all-passed (ltb 2 namespace) 21 _ (omega arith) e₂ in
    (name_of name b, ltb-false _ _ c)

pub end-passed : (rows name : List ℕ) (r : ℕ) → r ≡ end_refusal rows name → r ≡ 0 → length name ≤ 63
unfolding end_refusal
end-passed rows name r e z =
    let (a, e₁) = all-passed (not (eqb (get_or rows 4 0) 0)) 22 _ (omega arith) (sym e ∙ z) in
    let (b, e₂) = all-passed (is_bad_name name) 20 0 (omega arith) e₁ in
    name_of name b

pub push-passed : (sheet program rows : List ℕ) (content : Bool) (found : List ℕ) → push_refusal sheet program rows content found ≡ 0 → content ≡ true → opens rows < 256
unfolding push_refusal
push-passed sheet program rows content found e c =
    let (a, e₁) = all-passed (leb 256 (opens rows)) 27 _ (omega arith) (rw c at e) in
    leb-false _ _ a
