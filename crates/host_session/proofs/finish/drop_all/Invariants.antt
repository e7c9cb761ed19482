use Rattle.std.proofs.Common.{◌≡◌, length, filter}
use Rattle.std.specs.List.{range_with_len}
use Rattle.host_frames.specs.{seat_pool}
use Rattle.host_memory.specs.{given_count, holds_pages, pins_left, history}
use Rattle.host_session.specs.{HasDropped}
use Rattle.host_session.proofs.finish.drop_all.Given as goal

abbrev pub invariant-loop-pages : goal.invariant-loop-pages
invariant-loop-pages l = record {
  pins : length (pins_left (history l.memory)) ≡ 0;
  pool : seat_pool l.seat ≡ seat_pool l.fn.seat;
  plan : l.memory.plan ≡ l.fn.memory.plan;
  dropped : HasDropped l.client l.fn.memory l.memory l.fn.seat l.seat;
}

abbrev pub decreases-loop-pages : goal.decreases-loop-pages
decreases-loop-pages l = length (filter (λ v. holds_pages v (history l.memory)) (range_with_len 1 (given_count (history l.memory))))
