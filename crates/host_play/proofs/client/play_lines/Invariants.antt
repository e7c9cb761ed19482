use Rattle.std.proofs.Common.{◌≡◌, None, take, drop}
use Rattle.host_play.specs.{HasHelped, HasPlayed, ArePieces}
use Rattle.host_play.proofs.client.play_lines.Given as goal

abbrev pub invariant-loop-line : goal.invariant-loop-line
invariant-loop-line g l = record {
  helped : HasHelped l.server l.fn.hand l.hand l.fn.client.end l.client.end;
  plan : l.client.end.plan ≡ l.fn.client.end.plan;
  open_still : l.client.end.finish ≡ None;
  played : HasPlayed (take l.line-index l.lines) l.client.end.log;
  pieces : ArePieces l.client.end.plan.spec.size (drop l.line-index l.lines) l.client.pieces.items;
}
