-- The parts of the split are the parts between white space (`Standard.Part`).
use Rattle.std.specs.Prelude.{◌≡◌, refl, ◌↔◌, Bool, true, false, cond, ℕ}
use Rattle.std.proofs.Common.{⊎_elim}
use mathlib.Core.List.Memᴰ
use mathlib.Core.List.{List, [], ◌∷◌, ◌++◌, append-nil, append_assoc, Memᴰ}
use Rattle.letters.specs.Bytes.{space_byte}
use Rattle.operators.specs.Operators.{parts, split}
use Rattle.operators.specs.Standard.{Clear, Before, After, Part}

-- ---- what is listed is a part

before_more : (front : List ℕ) (x : ℕ) → space_byte x ≡ true → Before (front ++ (x ∷ []))
unfolding Before
before_more [] x e = e
before_more (y ∷ []) x e = e
before_more (y ∷ (z ∷ zs)) x e = before_more (z ∷ zs) x e

clear-more : (so : List ℕ) (x : ℕ) → Clear so → space_byte x ≡ false → Clear (so ++ (x ∷ []))
unfolding Clear
clear-more [] x c e = (e, tt)
clear-more (y ∷ so) x c e = (c.0, clear-more so x c.1 e)

-- behind the bytes that are done stand the part so far and what is still to be split
found : (done so v p : List ℕ) → Before done → Clear so → Memᴰ p (parts so v) → Part (done ++ (so ++ v)) p
unfolding parts Clear After
found done so [] p b c m = let e = Memᴰ.eq_of_singleton m in record { front = done; back = []; whole = rw e; clear = rw e c; before = b; after = tt }
found done so (x ∷ xs) p b c m = go (space_byte x) refl (λ d s. found d s xs p) m
  where
    go : (y : Bool) → space_byte x ≡ y → ((d s : List ℕ) → Before d → Clear s → Memᴰ p (parts s xs) → Part (d ++ (s ++ xs)) p) → Memᴰ p (cond y (so ∷ parts [] xs) (parts (so ++ (x ∷ [])) xs)) → Part (done ++ (so ++ (x ∷ xs))) p
    go true e ih m =
        ⊎_elim
        (λ s. record { front = done; back = x ∷ xs; whole = rw s; clear = rw s c; before = b; after = e })
        (λ n. simp append_assoc at (ih (done ++ (so ++ (x ∷ []))) [] (simp append_assoc at (before_more (done ++ so) x e)) tt n))
        (Memᴰ.cases_cons m)
    go false e ih m = simp append_assoc at (ih done (so ++ (x ∷ [])) b (clear-more so x c e) m)

-- ---- a part is listed

-- the part so far grows up to white space or the end
grows : (so p back : List ℕ) → Clear p → After back → Memᴰ (so ++ p) (parts so (p ++ back))
unfolding parts Clear After
grows so [] [] c a = Memᴰ.head (append-nil so)
grows so [] (x ∷ xs) c a = rw a (Memᴰ.head (append-nil so))
grows so (y ∷ p) back c a = rw c.0 (rw (append_assoc so (y ∷ []) p) at (grows (so ++ (y ∷ [])) p back c.1 a))

either_way : (y : Bool) (so p : List ℕ) (ps qs : List (List ℕ)) → Memᴰ p ps → Memᴰ p qs → Memᴰ p (cond y (so ∷ ps) qs)
either_way true so p ps qs m n = Memᴰ.tail m
either_way false so p ps qs m n = n

-- what is listed after white space is listed with all that goes before
passes : (so front rest p : List ℕ) (x : ℕ) → Before (x ∷ front) → Memᴰ p (parts [] rest) → Memᴰ p (parts so (x ∷ (front ++ rest)))
unfolding parts Before
passes so [] rest p x b m = rw b (Memᴰ.tail m)
passes so (y ∷ front) rest p x b m = either_way (space_byte x) so p _ _ (passes [] front rest p y b m) (passes (so ++ (x ∷ [])) front rest p y b m)

listed : (v p front back : List ℕ) → v ≡ front ++ (p ++ back) → Clear p → Before front → After back → Memᴰ p (parts [] v)
listed v p [] back w c b a = rw w (grows [] p back c a)
listed v p (x ∷ front) back w c b a = rw w (passes [] front (p ++ back) p x b (grows [] p back c a))

-- the law that a reader wants
pub part-law : (v p : List ℕ) → Memᴰ p (split v) ↔ Part v p
unfolding split Before Clear
part-law v p = (found [] [] v p tt tt, λ r. listed v p r.front r.back r.whole r.clear r.before r.after)
