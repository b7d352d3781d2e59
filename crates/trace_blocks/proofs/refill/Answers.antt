use Rattle.trace_blocks.proofs.Kept.{read_on, refilled, in_front}
use Rattle.streams.proofs.Taken.{OnErr-always}
use Rattle.trace_blocks.proofs.refill.Goals as goal

pub returns-clause-value : goal.returns-clause-value
returns-clause-value g c =
    let k = c.keep-kept.ensures in
    let r = c.in_ok-more.ensures in
    refilled c.args.p.last _ _ c.args.p c.args.input.now _ c.read_behind.new.room c.if-p.false
    (read_on _ _ c.args.p c.args.input.now c.keep-kept.new.s c.read_behind.new.room c.keep-kept.result c.in_ok-more.more c.requires.0 c.requires.1 k.0 k.1 r.front r.ok r.end)

pub returns-in_err-more-clause-kept : goal.returns-in_err-more-clause-kept
returns-in_err-more-clause-kept g c =
    let k = c.keep-kept.ensures in
    OnErr-always c.from_residual.result (in_front c.args.p c.args.input.now c.keep-kept.new.s c.read_behind.new.room c.keep-kept.result c.requires.0 c.requires.1 k.0 k.1 c.in_err-more.ensures.front)
