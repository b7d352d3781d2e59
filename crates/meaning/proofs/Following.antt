-- Where one graph of nodes follows another, what matches in the one matches in the other.
use Rattle.std.proofs.Common.{inl, inr}
use Rattle.std.specs.Prelude.{List, Bool, T}
use Rattle.meaning.specs.Lists.{◌∈◌}
use Rattle.meaning.specs.Document.{Link, Place, Spot}
use Rattle.meaning.specs.Match.{Matches, root, hangs, Live}

module _ {N₁ N₂ E : Type 0} (R : N₁ → N₂ → Type 0)
    (roots₁ : List N₁) (hung₁ : Link → N₁ → List N₁) (holds₁ : N₁ → Spot E → Bool)
    (roots₂ : List N₂) (hung₂ : Link → N₂ → List N₂) (holds₂ : N₂ → Spot E → Bool)
    (on-roots : (a : N₁) → a ∈ roots₁ → (n : N₂) × (n ∈ roots₂) × R a n)
    (on-hung : (a : N₁) (n : N₂) → R a n → (l : Link) (b : N₁) → b ∈ hung₁ l a → (m : N₂) × (m ∈ hung₂ l n) × R b m)
    (on-tests : (a : N₁) (n : N₂) → R a n → (s : Spot E) → T (holds₁ a s) → T (holds₂ n s)) where
  pub follows : (a : N₁) (s : Spot E) → Matches roots₁ hung₁ holds₁ a s → (n : N₂) × R a n × Matches roots₂ hung₂ holds₂ n s
  follows a s (root m t) = let (n, h, r) = on-roots a m in (n, r, root h (on-tests a n r s t))
  follows a s (hangs {m = b} {r = q} l h k m t) =
      let (x, rx, mx) = follows b q k in
      let (n, hn, rn) = on-hung b x rx l a m in
      (n, rn, hangs l h mx hn (on-tests a n rn s t))

  pub follows-live : (a : N₁) (c : Place E) → Live roots₁ hung₁ holds₁ a c → (n : N₂) × R a n × Live roots₂ hung₂ holds₂ n c
  follows-live a c (inl m) = let (n, h, r) = on-roots a m in (n, r, inl h)
  follows-live a c (inr (l, b, q, h, k, m)) =
      let (x, rx, mx) = follows b q k in
      let (n, hn, rn) = on-hung b x rx l a m in
      (n, rn, inr (l, x, q, h, mx, hn))
