use Rattle.std.proofs.Common.{ap, ◌∙◌, Err, rules}
use Rattle.making.specs.declared.Unmade.{Unmade}
use Rattle.making.specs.Making.{made_of}
use Rattle.inputs.proofs.Laws.{whole-machine, whole-sheet, whole-refused}
use Rattle.inputs.proofs.whole.Goals as goal

pub returns-in-Ok : goal.returns-in-Ok
returns-in-Ok c = record { nodes_after = whole-machine _ _ c.sheet_end-n.ensures.value _ _ _ _ _ _ c.fresh_machine-made.ensures (ap made_of c.in-Ok.is) _ _ c.feed-fed.new.machine _ _ _ _ (search rules) (search rules) (search rules) (search rules) c.feed-fed.ensures.nodes_after; upper_bound = c.feed-fed.ensures.used_in_bounds.1 }

pub returns-in-Sheet : goal.returns-in-Sheet
returns-in-Sheet c =
    let f = ap made_of c.in-Err.is ∙ ap (λ (u : Unmade). made_of (Err u)) c.in-Sheet.is in
    record { nodes_after = whole-sheet _ _ c.sheet_end-n.ensures.value _ _ _ _ _ _ c.fresh_machine-made.ensures c.number.result _ (rw c.number.ensures f) _ _ c.put_sheet_refused.ensures.wrote; upper_bound = search rules }

pub returns-in-Refused : goal.returns-in-Refused
returns-in-Refused c =
    let f = ap made_of c.in-Err.is ∙ ap (λ (u : Unmade). made_of (Err u)) c.in-Refused.is in
    record { nodes_after = whole-refused _ _ c.sheet_end-n.ensures.value _ _ _ _ _ _ c.fresh_machine-made.ensures c.number-in-Refused.result (rw c.number-in-Refused.ensures f) _ _ c.put_refused.ensures.wrote; upper_bound = search rules }
