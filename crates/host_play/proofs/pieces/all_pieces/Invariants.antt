use Rattle.std.proofs.Common.{take}
use Rattle.std.specs.Prelude.{map}
use Rattle.script_model.specs.{plan_of}
use Rattle.host_play.specs.{AreAllPieces}
use Rattle.host_play.proofs.pieces.all_pieces.Given as goal

abbrev pub invariant-loop-session : goal.invariant-loop-session
invariant-loop-session l = AreAllPieces l.size (map plan_of (take l.session-index l.session-items)) l.all.items
