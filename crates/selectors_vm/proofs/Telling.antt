-- What is told of a call's answer is told of its definition's, and the stores are those of the definition.
use mathlib.Core.Path.{◌≡◌, ◌∙◌, ap}
use mathlib.Core.List.{List}
use Prim.Native.Nat.{ℕ}
use Rattle.accepting.specs.Accepting.{Outcome, outcome, Reply}
use Rattle.making.specs.Making.{Made, Fresh, fresh}
use Rattle.ends.specs.Ends.{Ended, ended, Popped}
use Rattle.stack.specs.Lent.{contents}
use Rattle.stack.specs.declared.machine.Machine.{Machine}
use Rattle.stack.specs.Stores.{stores}
use Rattle.told.specs.declared.Told.{Told}
use Rattle.told.specs.Told.{made_told, reply_told, popped_told}

pub made : (o : Fresh) (m : Made) (program rows : List ℕ) (t : Told) → fresh m program rows ≡ o → t ≡ made_told m → (t ≡ made_told o.made) × (program ≡ o.program) × (rows ≡ o.rows)
made o m program rows t e f = (f ∙ ap (λ x. made_told x.made) e, ap (λ x. x.program) e, ap (λ x. x.rows) e)

-- the stores after the call are those that the machine lent
pub replied : (o : Outcome) (r : Reply) (m : Machine) (rows names ids nodes : List ℕ) (t : Told) → outcome r (contents m) ≡ o → rows ≡ m.rows.now → names ≡ m.names.now → ids ≡ m.ids.now → nodes ≡ m.nodes.now → t ≡ reply_told r
    → (t ≡ reply_told o.reply) × (stores rows names ids nodes ≡ o.after)
replied o r m rows names ids nodes t e a b c d f = (f ∙ ap (λ x. reply_told x.reply) e, (λ i. stores (a i) (b i) (c i) (d i)) ∙ ap (λ x. x.after) e)

pub popped : (o : Ended) (p : Popped) (rows out : List ℕ) (t : Told) → ended p rows out ≡ o → t ≡ popped_told p → (t ≡ popped_told o.answer) × (rows ≡ o.rows) × (out ≡ o.out)
popped o p rows out t e f = (f ∙ ap (λ x. popped_told x.answer) e, ap (λ x. x.rows) e, ap (λ x. x.out) e)
