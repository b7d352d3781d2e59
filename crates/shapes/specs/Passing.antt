-- What no refusal of the state leaves known.
use Rattle.std.specs.Prelude.{◌≡◌, refl, Bool, true, false, cond, not, List, ℕ, ◌*◌, ◌<◌, ◌≤◌, T, eqb, ltb, length, get_or}
use Rattle.std.proofs.Common.{sym, ◌∙◌, subst, arith, ltb-false, eqb-true}
use Rattle.std.proofs.lemmas.Bool.{not-false}
use Rattle.sheet.specs.Parser.{node_count}
use Rattle.stack.specs.Stores.{Stores, opens, parents_top, ancestors_top, pairs_top}
use Rattle.shapes.specs.Shapes.{sized, header_shaped, shaped, state_refusal}

-- a chain of tests that came to its end has passed each
pub all-passed : (b : Bool) (n : ℕ) (rest : ℕ) → 0 < n → cond b n rest ≡ 0 → (b ≡ false) × (rest ≡ 0)
all-passed true n rest h e = absurd (let q : ⊥ = omega (arith, h, e) in q)
all-passed false n rest h e = (refl, e)

-- so for tests that fail
pub all_held : (b rest : Bool) → cond b false rest ≡ true → (b ≡ false) × (rest ≡ true)
all_held true rest e = absurd (subst T (sym e) tt)
all_held false rest e = (refl, e)

-- What the state's refusals leave known of the header, and of N.
pub record Shape (sheet rows : List ℕ) : Type 0 where
  pub open_few : opens rows ≤ 256
  pub parents_few : parents_top rows ≤ 4096
  pub ancestors_few : ancestors_top rows ≤ 1024
  pub name_short : get_or rows 5 0 ≤ 63
  pub found_few : get_or rows 7 0 ≤ node_count sheet
  pub nodes_few : node_count sheet ≤ 1024
  pub sheet_short : get_or rows 13 0 ≡ length sheet

header-shape : (sheet rows : List ℕ) → header_shaped rows (node_count sheet) ≡ true → node_count sheet ≤ 1024 → get_or rows 13 0 ≡ length sheet → Shape sheet rows
unfolding header_shaped
header-shape sheet rows e n l =
    let (a, e₁) = all_held (ltb 256 (opens rows)) _ e in
    let (b, e₂) = all_held (ltb 4096 (parents_top rows)) _ e₁ in
    let (c, e₃) = all_held (ltb 1024 (ancestors_top rows)) _ e₂ in
    let (d, e₄) = all_held (ltb 512 (pairs_top rows)) _ e₃ in
    let (f, e₅) = all_held (ltb 1 (get_or rows 4 0)) _ e₄ in
    let (g, e₆) = all_held (ltb 63 (get_or rows 5 0)) _ e₅ in
    let (h, e₇) = all_held (ltb (node_count sheet) (get_or rows 7 0)) _ e₆ in
    record { open_few = ltb-false _ _ a; parents_few = ltb-false _ _ b; ancestors_few = ltb-false _ _ c; name_short = ltb-false _ _ g; found_few = ltb-false _ _ h; nodes_few = n; sheet_short = l }

shaped-shape : (sheet program rows : List ℕ) → shaped sheet program rows ≡ true → Shape sheet rows
unfolding shaped
shaped-shape sheet program rows e =
    let (a, e₁) = all_held (not (eqb (get_or rows 12 0) 1383429737)) _ e in
    let (b, e₂) = all_held (not (eqb (get_or rows 13 0) (length sheet))) _ e₁ in
    let (c, e₃) = all_held (ltb 1024 (node_count sheet)) _ e₂ in
    let (d, e₄) = all_held (ltb (length program) (node_count sheet * 8)) _ e₃ in
    header-shape sheet rows e₄ (ltb-false _ _ c) (eqb-true _ _ (not-false _ b))

pub state-shape : (sheet program : List ℕ) (s : Stores) (r : ℕ) → r ≡ state_refusal sheet program s → r ≡ 0 → Shape sheet s.rows
unfolding state_refusal
state-shape sheet program s r e z =
    let (a, e₁) = all-passed (not (sized s)) 31 _ (omega arith) (sym e ∙ z) in
    let (b, e₂) = all-passed (not (shaped sheet program s.rows)) 30 0 (omega arith) e₁ in
    shaped-shape sheet program s.rows (not-false _ b)
