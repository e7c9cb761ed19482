use Rattle.std.proofs.Common.{◌∷◌, [], ◌++◌, List, ℕ, Vec, length, sym, ap, ◌∙◌, arith}
use Rattle.std.specs.declared.alloc.Global.{Global}
use Rattle.std.proofs.lemmas.List.{length-replicate}
use Rattle.host_play.proofs.Preparing.{none_put, piece_put, pushed, turned}
use Rattle.host_play.proofs.pieces.pieces_for.Goals as goal
use Rattle.host_play.proofs.pieces.pieces_for.Goals.{in-Some+in_ok-piece+else-is_err, in_default}

pub loop-line-preserved : goal.loop-line-preserved
loop-line-preserved c =
    let old : List (List ℕ) = c.loop-line.pieces.items in
    elim c.match-piece_length.branch [
      | in-Some+in_ok-piece+else-is_err w ↦
          let piece : List ℕ = w.in_ok-piece.piece in
          let put = pushed w.push.result old (old ++ piece ∷ []) w.push.new.self.items (sym w.is_err.ensures.value ∙ w.if-is_err.false) w.push.ensures.items in
          piece_put c.args.size c.args.lines.now c.loop-line.line-index _ c.loop-line-test.true old c.match-piece_length.pieces.items c.loop-line.invariant w.in-Some.length piece
          (sym c.piece_length.ensures ∙ w.in-Some.is) (ap (λ (l : List ℕ). length l) w.in_ok-piece.ensures ∙ length-replicate w.in-Some.length 0)
          (ap (λ (v : Vec (List ℕ) Global). v.items) w.pieces-is ∙ put)
      | in_default w ↦
          none_put c.args.size c.args.lines.now c.loop-line.line-index _ c.loop-line-test.true old c.match-piece_length.pieces.items c.loop-line.invariant
          (sym c.piece_length.ensures ∙ w.in_default.is) (ap (λ (v : Vec (List ℕ) Global). v.items) w.pieces-is)
    ]

pub returns : goal.returns
returns c = turned c.args.size c.args.lines.now c.loop-line.line-index c.loop-line.pieces.items c.reverse.new.self.items (omega (arith, c.loop-line-test.false)) c.loop-line.invariant c.reverse.ensures.items
