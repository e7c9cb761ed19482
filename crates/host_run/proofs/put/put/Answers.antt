use Rattle.std.proofs.Common.{◌≡◌, ◌∙◌, arith, take, drop}
use Rattle.std.proofs.lemmas.Grind.{common_steps}
use Rattle.std.proofs.lemmas.List.{take-append-drop}
use Rattle.std.proofs.lemmas.Result.{IfErr-at_err, err_from_is_err_and}
use Rattle.host_run.proofs.Pieces.{put_more}
use Rattle.host_run.proofs.put.put.Goals as goal

pub returns-in_err-count-clause-text : goal.returns-in_err-count-clause-text
returns-in_err-count-clause-text g c =
    let p = err_from_is_err_and c.from_residual.result c.from_residual.ensures.1 in
    let count = c.loop-count.count in
    let piece = c.args.piece.now in
    rw (p.1) (record {
      ok = λ _. tt;
      err = λ told.
          let same = IfErr-at_err (λ _. g.K.Sink.appended c.put.new.self ≡ g.K.Sink.appended c.loop-count.out) c.in_err-count.was (c.put.ensures.bytes.err (c.loop-count.invariant.tells ∙ told)) in
          (take count piece, (drop count piece, take-append-drop count piece), same ∙ c.loop-count.invariant.put told);
    })

pub loop-count-preserved : goal.loop-count-preserved
loop-count-preserved g c = record {
  within = grind (arith, common_steps);
  tells = cc;
  put = λ told. put_more c.loop-count.count c.in_ok-count.field-0 c.args.piece.now _ _ _ (c.loop-count.invariant.put told) (c.in_ok-count.ensures.bytes.ok (c.loop-count.invariant.tells ∙ told));
  later = omega (arith, c.put.ensures.cause.later);
}
