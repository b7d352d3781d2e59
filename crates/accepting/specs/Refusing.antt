-- The reply of a refusal, with the stores as they were, is the outcome of a refused call.
use Rattle.std.specs.Prelude.{◌≡◌, ℕ}
use Rattle.std.proofs.Common.{◌∙◌}
use Rattle.stack.specs.Stores.{Stores}
use Rattle.weighing.specs.Words.{no_ids}
use Rattle.accepting.specs.Accepting.{Answer, Reply, outcome, reply, refusing}

pub refusing-is : (s : Stores) (answer : Reply) (n number : ℕ) → n ≡ number → answer ≡ reply (Answer.Refused n) no_ids → outcome answer s ≡ refusing number s
refusing-is s answer n number e q = (λ i. outcome (q i) s) ∙ (λ i. refusing (e i) s)
