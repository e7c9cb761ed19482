use Rattle.std.proofs.Common.{◌∙◌, ◌++◌, List, ℕ, [], ap, sym, subst, arith, take, drop}
use Rattle.std.proofs.Math.Seq.{take-add}
use Rattle.std.proofs.lemmas.Grind.{common_steps}
use Rattle.std.proofs.lemmas.List.{take-append-drop, take_rest}
use Rattle.std.proofs.lemmas.Result.{err_from_is_err_and}
use Rattle.host_text.specs.{AppendsText, Stops}
use Rattle.host_text.proofs.Putting.{adds_front, adds_more, stops_here, stops_later}
use Rattle.host_text.proofs.held.put_all.Goals as goal

pub returns-in_err-count : goal.returns-in_err-count
returns-in_err-count g c =
    let p = err_from_is_err_and c.from_residual.result c.from_residual.ensures.1 in
    let count = c.loop-count.count in
    let piece = c.args.piece.now in
    let failed = stops_here c.loop-count.out c.put.new.self (drop count piece) c.in_err-count.ensures.tells c.in_err-count.ensures.cause.failed (λ t. c.in_err-count.ensures.bytes.err t) in
    rw (p.1) (subst (λ (l : List ℕ). Stops g.K.Sink.tells g.K.Sink.faults g.K.Sink.appended c.args.out.now [] c.put.new.self l)
    (take-append-drop count piece)
    (stops_later c.loop-count.invariant.put failed))

pub loop-count-preserved : goal.loop-count-preserved
loop-count-preserved g c =
    let count = c.loop-count.count in
    let n = c.in_ok-count.field-0 in
    let piece = c.args.piece.now in
    let took = adds_front c.loop-count.out c.put.new.self _ c.in_ok-count.ensures.tells c.in_ok-count.ensures.cause.later (λ t. c.in_ok-count.ensures.bytes.ok t) in
    record {
      within = grind (arith, common_steps);
      put = subst (λ (l : List ℕ). AppendsText g.K.Sink.tells g.K.Sink.faults g.K.Sink.appended c.args.out.now [] c.put.new.self [] l)
          (ap (λ (l : List ℕ). take count piece ++ take n l) (take_rest piece count) ∙ sym (take-add count n piece))
          (adds_more c.loop-count.invariant.put took);
    }
