-- One turn of the loops over outlines, which take four numbers at a time, and what a lookup finds there.
use Rattle.std.proofs.Common.{◌≡◌, refl, sym, ap, ◌∙◌, Bool, true, false, cond, ◌&&◌, List, [], ◌∷◌, ℕ, ◌-◌, ◌<◌, ◌≤◌, eqb, length, get_or, take, drop, arith, take_all, length-drop}
use Rattle.std.proofs.Math.Option as maybe
use Rattle.std.specs.Prelude.{Option, Some, None, is_some}
use Rattle.cells.specs.Numbers.{part}
use Rattle.letters.specs.Bytes.{fold, same_bytes}
use Rattle.letters.specs.BytesLaws.{fold-false}
use Rattle.rules.specs.Attributes.{attributes_of, lies_within, well_formed, lookup, is_there}
use Rattle.rules.specs.Places.{find_in}

-- fewer than four numbers are no outline, and well formed only if there are none
pub short-formed : (size : ℕ) (m : List ℕ) → length m < 4 → eqb (length m) 0 ≡ well_formed size m
unfolding well_formed
short-formed size [] h = refl
short-formed size (a ∷ []) h = refl
short-formed size (a ∷ (b ∷ [])) h = refl
short-formed size (a ∷ (b ∷ (c ∷ []))) h = refl
short-formed size (a ∷ (b ∷ (c ∷ (d ∷ m)))) h = absurd (omega arith)

pub short-found : (input wanted m : List ℕ) → length m < 4 → None ≡ find_in input wanted m
unfolding find_in
short-found input wanted [] h = refl
short-found input wanted (a ∷ []) h = refl
short-found input wanted (a ∷ (b ∷ [])) h = refl
short-found input wanted (a ∷ (b ∷ (c ∷ []))) h = refl
short-found input wanted (a ∷ (b ∷ (c ∷ (d ∷ m)))) h = absurd (omega arith)

pub formed-turn : (size : ℕ) (m : List ℕ) → 4 ≤ length m
    → well_formed size m ≡ (lies_within size (get_or m 0 0) (get_or m 1 0) && (lies_within size (get_or m 2 0) (get_or m 3 0) && well_formed size (drop 4 m)))
unfolding well_formed
formed-turn size [] h = absurd (omega arith)
formed-turn size (a ∷ []) h = absurd (omega arith)
formed-turn size (a ∷ (b ∷ [])) h = absurd (omega arith)
formed-turn size (a ∷ (b ∷ (c ∷ []))) h = absurd (omega arith)
formed-turn size (a ∷ (b ∷ (c ∷ (d ∷ m)))) h = refl

pub found-turn : (input wanted m : List ℕ) → 4 ≤ length m
    → find_in input wanted m ≡ cond (same_bytes true false (part input (get_or m 0 0) (get_or m 1 0)) wanted) (Some (get_or m 2 0, get_or m 3 0)) (find_in input wanted (drop 4 m))
unfolding find_in
found-turn input wanted [] h = absurd (omega arith)
found-turn input wanted (a ∷ []) h = absurd (omega arith)
found-turn input wanted (a ∷ (b ∷ [])) h = absurd (omega arith)
found-turn input wanted (a ∷ (b ∷ (c ∷ []))) h = absurd (omega arith)
found-turn input wanted (a ∷ (b ∷ (c ∷ (d ∷ m)))) h = refl

-- what a pattern takes after four numbers is all that is left
left-over : (m : List ℕ) → take (length m - 4) (drop 4 m) ≡ drop 4 m
left-over m = take_all (length m - 4) (drop 4 m) (omega (arith, length-drop 4 m))

pub formed-next : (size : ℕ) (m : List ℕ) (r s : Bool) → 4 ≤ length m → r ≡ lies_within size (get_or m 0 0) (get_or m 1 0) → r ≡ true → s ≡ lies_within size (get_or m 2 0) (get_or m 3 0) → s ≡ true
    → well_formed size (take (length m - 4) (drop 4 m)) ≡ well_formed size m
formed-next size m r s room e p f q = rw (left-over m, formed-turn size m room, ← e, p, ← f, q)

module _ (input name candidate m : List ℕ) (ignore r : Bool) (room : 4 ≤ length m) (cut : candidate ≡ part input (get_or m 0 0) (get_or m 1 0)) (tested : r ≡ same_bytes true ignore candidate name) where
  -- a name that was cut out, compared; its case rule may be applied first
  named : same_bytes true false (part input (get_or m 0 0) (get_or m 1 0)) (fold ignore name) ≡ r
  unfolding same_bytes
  named = rw (tested, cut, fold-false (fold ignore name))

  pub found-here : r ≡ true → Some (get_or m 2 0, get_or m 3 0) ≡ find_in input (fold ignore name) m
  found-here e = rw (found-turn input (fold ignore name) m room, named, e)

  pub found-next : r ≡ false → find_in input (fold ignore name) (take (length m - 4) (drop 4 m)) ≡ find_in input (fold ignore name) m
  found-next e = rw (left-over m, found-turn input (fold ignore name) m room, named, e)

-- the value that was found is the one that a lookup among the attributes gives
abbrev pub value_at : List ℕ → Option (ℕ × ℕ) → maybe.Option (List ℕ)
value_at input (Some (a, e)) = maybe.some (part input a e)
value_at input None = maybe.none

found-by : (input : List ℕ) (b : Bool) (c d : ℕ) (f : Option (ℕ × ℕ)) (o : maybe.Option (List ℕ)) → value_at input f ≡ o → value_at input (cond b (Some (c, d)) f) ≡ cond b (maybe.some (part input c d)) o
found-by input true c d f o e = refl
found-by input false c d f o e = e

pub lookup-is : (input wanted l : List ℕ) → value_at input (find_in input wanted l) ≡ lookup wanted (attributes_of input l)
unfolding find_in lookup attributes_of
lookup-is input wanted [] = refl
lookup-is input wanted (a ∷ []) = refl
lookup-is input wanted (a ∷ (b ∷ [])) = refl
lookup-is input wanted (a ∷ (b ∷ (c ∷ []))) = refl
lookup-is input wanted (a ∷ (b ∷ (c ∷ (d ∷ m)))) = found-by input (same_bytes true false (part input a b) wanted) c d (find_in input wanted m) _ (lookup-is input wanted m)

there : (input : List ℕ) (f : Option (ℕ × ℕ)) → is_some f ≡ is_there (value_at input f)
unfolding is_there
there input (Some (a, e)) = refl
there input None = refl

pub there-is : (input name l : List ℕ) (found : Option (ℕ × ℕ)) (r : Bool) → found ≡ find_in input (fold false name) l → r ≡ is_some found → r ≡ is_there (lookup name (attributes_of input l))
there-is input name l found r f e = e ∙ there input found ∙ ap is_there (ap (value_at input) f ∙ lookup-is input (fold false name) l) ∙ rw (fold-false name)

pub found-is : (input wanted l : List ℕ) (found known : Option (ℕ × ℕ)) → found ≡ find_in input wanted l → found ≡ known → value_at input known ≡ lookup wanted (attributes_of input l)
found-is input wanted l found known p q = ap (value_at input) (sym q ∙ p) ∙ lookup-is input wanted l
