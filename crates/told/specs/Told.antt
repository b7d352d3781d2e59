-- What a C caller is told of an answer (01, sections 2 and 8): the kind of answer, a refusal's number, a value beside it, and the two id words.
use Rattle.std.specs.Prelude.{cond, ℕ, get_or}
use Rattle.accepting.specs.Accepting.{Answer, Reply}
use Rattle.making.specs.Making.{Made}
use Rattle.ends.specs.Ends.{Popped, Top, TopReply}
use Rattle.told.specs.declared.Told.{Told}

abbrev pub told : (kind refusal value low high : ℕ) → Told
told kind refusal value low high = record { kind = kind; refusal = refusal; value = value; low = low; high = high }

-- Refused: kind 0, 01's number, and the place of a sheet's fault.
abbrev pub refused_told : (number place : ℕ) → Told
refused_told number place = told 0 number place 0 0

-- Made: kind 1.
unfoldable pub made_told : Made → Told
made_told Made.Ready = told 1 0 0 0 0
made_told (Made.Sheet number place) = refused_told number place
made_told (Made.Refused number) = refused_told number 0

-- Match: kind 2, the content flag is the value. Waits for attributes: kind 3.
unfoldable pub answer_told : Answer → (low high : ℕ) → Told
answer_told (Answer.Match content) low high = told 2 0 (cond content 1 0) low high
answer_told Answer.Attributes low high = told 3 0 0 low high
answer_told (Answer.Refused number) low high = told 0 number 0 low high

-- With the reply's own id words, which are 0 unless it is a match.
unfoldable pub reply_told : Reply → Told
reply_told reply = answer_told reply.answer (get_or reply.ids 0 0) (get_or reply.ids 1 0)

-- Popped: kind 4, and how many.
unfoldable pub popped_told : Popped → Told
popped_told (Popped.Elements count) = told 4 0 count 0 0
popped_told (Popped.Refused number) = refused_told number 0

-- The ids of the top open element: kind 5. Nothing is open: kind 6.
unfoldable pub top_told : Top → (low high : ℕ) → Told
top_told Top.Ids low high = told 5 0 0 low high
top_told Top.NothingOpen low high = told 6 0 0 low high
top_told (Top.Refused number) low high = told 0 number 0 low high

unfoldable pub top_reply_told : TopReply → Told
top_reply_told reply = top_told reply.top (get_or reply.ids 0 0) (get_or reply.ids 1 0)
