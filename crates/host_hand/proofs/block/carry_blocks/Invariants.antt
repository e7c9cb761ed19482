use Rattle.std.proofs.Common.{Ok}
use Rattle.host_turn.specs.{IsOutside, IsSameSeat, seen_by}
use Rattle.host_hand.specs.{HoldsFor, asks_upto, HasRun}
use Rattle.host_hand.proofs.block.carry_blocks.Given as goal

abbrev pub invariant-loop-k : goal.invariant-loop-k
invariant-loop-k g l = record {
  memory_seat : IsSameSeat l.fn.memory_seat l.memory_seat × IsOutside l.memory_seat;
  device_seat : IsSameSeat l.fn.device_seat l.device_seat × IsOutside l.device_seat;
  held : HoldsFor l.op l.errand (seen_by l.memory_seat);
  run : HasRun l.errand l.op 0 (asks_upto l.errand l.op l.k) (record { answer = Ok tt; front = l.front }) (seen_by l.fn.memory_seat) (seen_by l.memory_seat) (seen_by l.fn.device_seat) (seen_by l.device_seat);
}
