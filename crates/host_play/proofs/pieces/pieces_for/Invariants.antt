use Rattle.std.proofs.Common.{◌≡◌, List, ℕ, map, length, take}
use Rattle.host_play.specs.{piece_lengths}
use Rattle.host_play.proofs.pieces.pieces_for.Given as goal

abbrev pub invariant-loop-line : goal.invariant-loop-line
invariant-loop-line l = map (λ (piece : List ℕ). length piece) l.pieces.items ≡ piece_lengths l.size (take l.line-index l.lines)
