use Rattle.std.proofs.Common.{◌≡◌, ◌<◌, ℕ, length, get_or, arith}
use Rattle.std.proofs.lemmas.List.FromFn.{get_or-range_with_len, length-range_with_len}
use Rattle.host_model.specs.{below}
use Rattle.host_report.specs.{shown_line}
use Rattle.host_text.proofs.Putting.{adds_all, adds_at, puts_exit, stops_at}
use Rattle.host_report.proofs.text.event.write_blocks.Goals as goal

within : (k count : ℕ) → k < count → k < length (below count)
within k count lt = omega (arith, length-range_with_len 0 count)

nth : (k count : ℕ) → k < count → k ≡ get_or (below count) k 0
nth k count lt = omega (arith, get_or-range_with_len 0 count k 0 lt)

pub returns-in_err-put_line : goal.returns-in_err-put_line
returns-in_err-put_line g c =
    let k = c.loop-k.k in
    let lt : k < c.args.count = omega arith in
    puts_exit _ _ c.from_residual.ensures.0
    (stops_at (shown_line c.args.size c.args.block c.args.bytes.now) (below c.args.count) k k 0 (within k c.args.count lt) (nth k c.args.count lt) c.loop-k.invariant
    (rw c.nth_block.ensures at c.in_err-put_line.ensures))

pub loop-k-preserved : goal.loop-k-preserved
loop-k-preserved g c =
    let k = c.loop-k.k in
    let lt : k < c.args.count = omega arith in
    adds_at (shown_line c.args.size c.args.block c.args.bytes.now) (below c.args.count) k k 0 (within k c.args.count lt) (nth k c.args.count lt) c.loop-k.invariant
    (rw c.nth_block.ensures at c.in_ok-put_line.ensures)

pub returns : goal.returns
returns g c =
    adds_all (shown_line c.args.size c.args.block c.args.bytes.now) (below c.args.count) c.loop-k.k (omega (arith, length-range_with_len 0 c.args.count)) c.loop-k.invariant
