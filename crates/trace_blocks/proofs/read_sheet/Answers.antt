use Rattle.std.proofs.Common.{◌+◌, ◌-◌, arith, sym, ◌∙◌, drop}
use Rattle.streams.proofs.Taken.{Consumes-more, ConsumesFront-take, ConsumesFront-behind, OnErr-always}
use Rattle.trace_blocks.proofs.SheetsTaken.{taken_short, taken_stub, taken_whole, first_five, length_in_front}
use Rattle.trace_blocks.proofs.read_sheet.Goals as goal

pub returns-then-got-lt5-clause-value : goal.returns-then-got-lt5-clause-value
returns-then-got-lt5-clause-value g c =
    let r = c.in_ok-got.ensures in
    taken_short (g.R.Read.remaining c.args.reader.now) (g.R.Read.remaining c.read_between.new.reader) c.read_between.new.room c.in_ok-got.got r.ok (r.end (omega arith)) c.if-got-lt5.true (omega arith)

pub returns-then-length-le5-clause-value : goal.returns-then-length-le5-clause-value
returns-then-length-le5-clause-value g c =
    let r = c.in_ok-got.ensures in
    let old = g.R.Read.remaining c.args.reader.now in
    let mid = g.R.Read.remaining c.read_between.new.reader in
    let first = first_five old mid c.read_between.new.room c.in_ok-got.got r.ok (omega arith) (omega arith) in
    taken_stub old mid c.read_between.new.room c.sheet_length-length.result first c.sheet_length-length.ensures.value c.if-length-le5.true (omega arith)

pub returns-clause-said : goal.returns-clause-said
returns-clause-said g c h =
    let r = c.in_ok-more.ensures in
    let same = c.sheet_length-length.ensures.value ∙ sym (length_in_front c.read_between-2.new.room c.read_between.new.room r.front) in
    omega arith

pub returns-clause-value : goal.returns-clause-value
returns-clause-value g c =
    let r = c.in_ok-got.ensures in
    let q = c.in_ok-more.ensures in
    let old = g.R.Read.remaining c.args.reader.now in
    let mid = g.R.Read.remaining c.read_between.new.reader in
    let new = g.R.Read.remaining c.read_between-2.new.reader in
    let same = c.sheet_length-length.ensures.value ∙ sym (length_in_front c.read_between-2.new.room c.read_between.new.room q.front) in
    let first = first_five old mid c.read_between.new.room c.in_ok-got.got r.ok (omega arith) (omega arith) in
    let all = Consumes-more old mid new c.read_between.new.room c.read_between-2.new.room 5 c.in_ok-more.more q.front first q.ok in
    taken_whole old new c.read_between-2.new.room (5 + c.in_ok-more.more) all (omega arith) (omega arith) (omega arith) (λ k. q.end (omega arith))

pub returns-in_err-got-clause-failed : goal.returns-in_err-got-clause-failed
returns-in_err-got-clause-failed g c =
    OnErr-always c.from_residual.result
    (ConsumesFront-take (g.R.Read.remaining c.args.reader.now) (g.R.Read.remaining c.read_between.new.reader) 5 c.read_between.new.room c.in_err-got.ensures.failed)

pub returns-in_err-more-clause-failed : goal.returns-in_err-more-clause-failed
returns-in_err-more-clause-failed g c =
    let r = c.in_ok-got.ensures in
    let q = c.in_err-more.ensures in
    let old = g.R.Read.remaining c.args.reader.now in
    let mid = g.R.Read.remaining c.read_between.new.reader in
    let new = g.R.Read.remaining c.read_between-2.new.reader in
    let first = first_five old mid c.read_between.new.room c.in_ok-got.got r.ok (omega arith) (omega arith) in
    let behind = ConsumesFront-take mid new (c.sheet_length-length.result - 5) (drop 5 c.read_between-2.new.room) q.failed in
    OnErr-always c.from_residual-in_err-more.result (ConsumesFront-behind old mid new c.read_between.new.room c.read_between-2.new.room 5 q.front first behind)
