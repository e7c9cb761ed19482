use Rattle.std.proofs.Common.{◌==◌, ◌&&◌, Bool, get_or, ap, sym, ◌∙◌, arith}
use Rattle.std.proofs.lemmas.List.Folds.{list_all_more}
use Rattle.host_text.proofs.line.are_all.Goals as goal

pub loop-b-preserved : goal.loop-b-preserved
loop-b-preserved c =
    let bytes = c.args.bytes.now in
    let i = c.loop-b.b-index in
    ap (λ (s : Bool). s && (get_or bytes i 0 == c.args.byte)) c.loop-b.invariant ∙ sym (list_all_more (λ x. x == c.args.byte) bytes i 0 (omega arith))
