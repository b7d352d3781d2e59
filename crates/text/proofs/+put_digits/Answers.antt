use Rattle.std.proofs.Common.{arith}
use Rattle.text.proofs.Laws.{put-none, put_last, put-more}
use Rattle.text.proofs.+put_digits.Goals as goal

pub returns-then-k-eq0 : goal.returns-then-k-eq0
returns-then-k-eq0 t c = put-none _ _ _ _ (omega arith)

pub returns-then-n-lt10 : goal.returns-then-n-lt10
returns-then-n-lt10 t c = put_last _ _ _ _ _ (λ h. omega arith) (omega arith) c.put.ensures

pub returns : goal.returns
returns t c = put-more _ _ _ _ _ _ _ (λ h. omega arith) (omega arith) c.put_digits-next.ensures.0.0 c.put_digits-next.ensures.0.1 c.put_digits-next.ensures.1 c.put-2.ensures
