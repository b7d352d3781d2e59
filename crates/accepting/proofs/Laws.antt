-- A whole tag accepted: its ids, its count, its push.
use mathlib.Core.Path.{◌≡◌, refl, ◌∙◌}
use mathlib.Core.Bool.{Bool, true, false, cond}
use mathlib.Core.List.{List}
use Prim.Native.Nat.{ℕ, ◌<◌, ◌≤◌, ◌^◌}
use native.Mathlib.Omega.{arith}
use lib.ListN.{get_or}
use Rattle.sheet.specs.Parser.{node_count}
use Rattle.stack.specs.Stores.{Stores, stores, opens, parents_top, ancestors_top, known, name_counted_rows, counted_rows, counted_names, counted, pushed}
use Rattle.stack.specs.Reads.{count-off, again-off, new-off}
use Rattle.instructions.specs.FoundIds.{with_ids_of}
use Rattle.shapes.specs.Shapes.{types_counted}
use Rattle.weighing.specs.Weighing.{push_refusal}
use Rattle.weighing.specs.Passing.{push-passed}
use Rattle.weighing.specs.Words.{no_ids}
use Rattle.accepting.specs.Accepting.{Answer, outcome, reply, accepted}

-- ---- header words that writes leave as they are

counted-header : (types : Bool) (rows names x : List ℕ) (j : ℕ) → j < 3 → get_or (counted_rows types rows names x) j 0 ≡ get_or rows j 0
counted-header types rows names x j h = count-off types rows names x j (λ e. omega arith) ∙ go types
  where
    named : (b : Bool) → known rows names x ≡ b → get_or (name_counted_rows rows names x) j 0 ≡ get_or rows j 0
    named true e = again-off rows names x e j (λ z. omega arith)
    named false e = new-off rows names x e j (λ z. omega arith) (omega arith)

    go : (b : Bool) → get_or (cond b (name_counted_rows rows names x) rows) j 0 ≡ get_or rows j 0
    go true = named (known rows names x) refl
    go false = refl

-- ---- the tag is accepted

module _ (sheet program rows names ids nodes name : List ℕ) (content : Bool) (found words rows₁ names₁ : List ℕ) (types : Bool)
    (w : words ≡ with_ids_of sheet program no_ids found) (t : types ≡ types_counted rows)
    (a : (rows₁ ≡ counted_rows types rows names name) × (names₁ ≡ counted_names types rows names name)) where
  abbrev s : Stores
  s = stores rows names ids nodes

  counted_is : stores rows₁ names₁ ids nodes ≡ counted (types_counted rows) s name
  counted_is = (λ i. stores (a.0 i) (a.1 i) ids nodes) ∙ (λ i. counted (t i) s name)

  pub accept-counted : content ≡ false → outcome (reply (Answer.Match content) words) (stores rows₁ names₁ ids nodes) ≡ accepted sheet program s name content found
  unfolding accepted
  accept-counted c = (λ i. outcome (reply (Answer.Match content) (w i)) (counted_is i)) ∙ rw c

  pub accept-pushed : (after : Stores) (limit : ℕ) → content ≡ true → (limit ≡ node_count sheet) × (limit < 2 ^ 16) → after ≡ pushed program limit (stores rows₁ names₁ ids nodes) name words found
      → outcome (reply (Answer.Match content) words) after ≡ accepted sheet program s name content found
  unfolding accepted
  accept-pushed after limit c l p =
      (λ i. outcome (reply (Answer.Match content) (w i)) ((p ∙ (λ j. pushed program (l.0 j) (counted_is j) name (w j) found)) i)) ∙ rw c

-- what a push asks of the header, after the tag was counted
module _ (rows names name rows₁ : List ℕ) (types : Bool) (a : rows₁ ≡ counted_rows types rows names name) where
  pub push-room : (sheet program : List ℕ) (content : Bool) (found : List ℕ) → push_refusal sheet program rows content found ≡ 0 → content ≡ true → opens rows₁ < 256
  push-room sheet program content found r c = rw (a, counted-header types rows names name 0 (omega arith)) (push-passed sheet program rows content found r c)

  pub push-parents : parents_top rows ≤ 4096 → parents_top rows₁ ≤ 4096
  push-parents h = rw (a, counted-header types rows names name 1 (omega arith)) h

  pub push-ancestors : ancestors_top rows ≤ 1024 → ancestors_top rows₁ ≤ 1024
  push-ancestors h = rw (a, counted-header types rows names name 2 (omega arith)) h
