use Rattle.std.proofs.Common.{◌+◌, drop, sym, ◌∙◌}
use Rattle.host_block.specs.{picked}
use Rattle.host_io.specs.{pairs_of}
use Rattle.host_io.proofs.FlatLemmas.{picked_yes, picked_no, picked_done}
use Rattle.host_io.proofs.flat.pick_of.Goals as goal
use Rattle.host_io.proofs.flat.pick_of.Goals.{then-left-gt0+then-write-b, else-left-gt0, else-left-gt0-via-then-left-gt0+else-write-b, else-left-gt0-via-else-left-gt0}

pub loop-write-preserved : goal.loop-write-preserved
loop-write-preserved c =
    let ws = c.args.waiting.now in
    let i = c.loop-write.write-index in
    let item = c.write-item.result in
    elim c.if-left-gt0.branch [
      | then-left-gt0+then-write-b w ↦
          (λ j. picked (pairs_of (drop (i + 1) ws)) c.args.b (w.left-is j) (w.bytes-is j).now)
          ∙ sym (picked_yes ws i c.args.b c.loop-write.left item c.loop-write.bytes.now w.as_slice-bytes.result.now c.loop-write-test.true c.write-item.is w.if-left-gt0.true w.if-write-b.true w.as_slice-bytes.ensures)
          ∙ c.loop-write.invariant
      | else-left-gt0 w ↦ elim w.else-left-gt0.branch [
        | else-left-gt0-via-then-left-gt0+else-write-b w' ↦
            (λ j. picked (pairs_of (drop (i + 1) ws)) c.args.b (w.left-is j) (w.bytes-is j).now)
            ∙ sym (picked_no ws i c.args.b c.loop-write.left item c.loop-write.bytes.now c.loop-write-test.true c.write-item.is w'.if-write-b.false)
            ∙ c.loop-write.invariant
        | else-left-gt0-via-else-left-gt0 w' ↦
            (λ j. picked (pairs_of (drop (i + 1) ws)) c.args.b (w.left-is j) (w.bytes-is j).now)
            ∙ sym (picked_done ws i c.args.b c.loop-write.left c.loop-write.bytes.now w'.if-left-gt0.false)
            ∙ c.loop-write.invariant
      ]
    ]
