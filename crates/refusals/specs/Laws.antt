-- No two refusals have one number: so a number says which.
use Rattle.std.specs.Prelude.{◌≡◌, refl, List, [], ◌∷◌, ℕ, ◌-◌, get_or}
use Rattle.std.proofs.Common.{sym, ap, ◌∙◌}
use Rattle.refusals.specs.Numbers.{sheet_number, number}
use Rattle.refusals.specs.declared.SheetRefusal.{SheetRefusal}
use Rattle.refusals.specs.declared.Refusal.{Refusal}

-- From 1 on; the place of 14 is never looked at.
abbrev sheet_refusal : ℕ → SheetRefusal
sheet_refusal n = get_or (SheetRefusal.SheetTooShort ∷ SheetRefusal.SheetTooLong ∷ SheetRefusal.WrongVersion ∷ SheetRefusal.WrongLength ∷ SheetRefusal.TooManyNodes ∷ SheetRefusal.TooDeep ∷ SheetRefusal.MoreNodesThanSaid ∷ SheetRefusal.RecordOverrun ∷ SheetRefusal.BadIds ∷ SheetRefusal.NoTest ∷ SheetRefusal.UnknownKind ∷ SheetRefusal.BadTest ∷ SheetRefusal.LeftOver ∷ []) (n - 1) SheetRefusal.ProgramTooShort

sheet_refusal-back : (a : SheetRefusal) → sheet_refusal (sheet_number a) ≡ a
sheet_refusal-back SheetRefusal.SheetTooShort = refl
sheet_refusal-back SheetRefusal.SheetTooLong = refl
sheet_refusal-back SheetRefusal.WrongVersion = refl
sheet_refusal-back SheetRefusal.WrongLength = refl
sheet_refusal-back SheetRefusal.TooManyNodes = refl
sheet_refusal-back SheetRefusal.TooDeep = refl
sheet_refusal-back SheetRefusal.MoreNodesThanSaid = refl
sheet_refusal-back SheetRefusal.RecordOverrun = refl
sheet_refusal-back SheetRefusal.BadIds = refl
sheet_refusal-back SheetRefusal.NoTest = refl
sheet_refusal-back SheetRefusal.UnknownKind = refl
sheet_refusal-back SheetRefusal.BadTest = refl
sheet_refusal-back SheetRefusal.LeftOver = refl
sheet_refusal-back SheetRefusal.ProgramTooShort = refl

pub same_sheet_refusal : (a b : SheetRefusal) → sheet_number a ≡ sheet_number b → a ≡ b
same_sheet_refusal a b e = sym (sheet_refusal-back a) ∙ (ap sheet_refusal e ∙ sheet_refusal-back b)

-- From 20 on.
abbrev refusal : ℕ → Refusal
refusal n = get_or (Refusal.BadName ∷ Refusal.BadNamespace ∷ Refusal.TagWaits ∷ Refusal.NoTagWaits ∷ Refusal.BadOutlines ∷ Refusal.ChildCountFull ∷ Refusal.TooManyTypes ∷ Refusal.TooManyOpen ∷ Refusal.TooManyMatched ∷ Refusal.BufferTooShort ∷ Refusal.BadShape ∷ Refusal.StoreTooShort ∷ []) (n - 20) Refusal.StoreTooShort

refusal-back : (a : Refusal) → refusal (number a) ≡ a
refusal-back Refusal.BadName = refl
refusal-back Refusal.BadNamespace = refl
refusal-back Refusal.TagWaits = refl
refusal-back Refusal.NoTagWaits = refl
refusal-back Refusal.BadOutlines = refl
refusal-back Refusal.ChildCountFull = refl
refusal-back Refusal.TooManyTypes = refl
refusal-back Refusal.TooManyOpen = refl
refusal-back Refusal.TooManyMatched = refl
refusal-back Refusal.BufferTooShort = refl
refusal-back Refusal.BadShape = refl
refusal-back Refusal.StoreTooShort = refl

pub same_refusal : (a b : Refusal) → number a ≡ number b → a ≡ b
same_refusal a b e = sym (refusal-back a) ∙ (ap refusal e ∙ refusal-back b)
