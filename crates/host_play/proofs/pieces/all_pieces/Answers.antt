use Rattle.std.proofs.Common.{◌∷◌, [], ◌++◌, List, sym, subst, ◌∙◌}
use Rattle.script_model.specs.{ScriptLine}
use Rattle.host_play.specs.{ArePieces}
use Rattle.host_play.proofs.Preparing.{next_pieces, pushed}
use Rattle.host_play.proofs.pieces.all_pieces.Goals as goal

pub loop-session-preserved : goal.loop-session-preserved
loop-session-preserved c =
    next_pieces c.args.size c.as_slice-session-items.result.now c.loop-session.session-index c.session-item.result c.loop-session.all.items c.push.new.self.items c.in_ok-pieces.pieces c.loop-session-test.true c.session-item.is c.loop-session.invariant
    (subst (λ (lines : List ScriptLine). ArePieces c.args.size lines c.in_ok-pieces.pieces.items) c.as_slice.ensures c.in_ok-pieces.ensures)
    (pushed c.push.result c.loop-session.all.items (c.loop-session.all.items ++ c.in_ok-pieces.pieces ∷ []) c.push.new.self.items (sym c.is_err.ensures.value ∙ c.if-is_err.false) c.push.ensures.items)
