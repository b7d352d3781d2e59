-- A call and its line.
use mathlib.Core.List.{List}
use mathlib.Core.Path.{◌≡◌}
use Prim.Native.Nat.{ℕ}
use Rattle.text.specs.Text.{Wrote}
use Rattle.accepting.specs.Accepting.{Outcome, outcome, Reply}
use Rattle.ends.specs.Ends.{ended, end_call, Popped}
use Rattle.stack.specs.Stores.{Stores, stores}
use Rattle.reply_lines.specs.ReplyLines.{reply_line, popped_line}
use Rattle.replies.specs.Replies.{spoken, end_turn, popped_room, answered, saying}
use Rattle.std.specs.Prelude.{Some}

pub said-line : (o : Outcome) (rep : Reply) (s' : Stores) (out out' : List ℕ) (at r : ℕ) → outcome rep s' ≡ o → Wrote out at (reply_line rep) r out' → answered (Some r) out' s' ≡ saying (spoken o) out at
unfolding saying spoken
said-line o rep s' out out' at r e w = rw (← e, w.0, w.1)

pub said-pop : (sheet program : List ℕ) (s : Stores) (name popped : List ℕ) (a : Popped) (rows' popped' out out' : List ℕ) (at r : ℕ)
    → popped ≡ popped_room → ended a rows' popped' ≡ end_call sheet program s name popped → Wrote out at (popped_line a) r out'
    → answered (Some r) out' (stores rows' s.names s.ids s.nodes) ≡ saying (end_turn sheet program s name) out at
unfolding saying end_turn
said-pop sheet program s name popped a rows' popped' out out' at r p e w = rw (← p, ← e, w.0, w.1)
