use Rattle.std.proofs.Common.{◌≡◌, ◌++◌, map}
use Rattle.crossbeam_queue.specs.Passes.{view, IsPassOf}
use Rattle.std.specs.Arc.{arc_value}
use Rattle.host_rings.specs.{reader_view}
use Rattle.host_rings.proofs.answers.close_answers.Given as goal

abbrev pub invariant-loop-sender : goal.invariant-loop-sender
invariant-loop-sender l = record {
  next : (goal.iterator-loop-sender).can_next l.sender-iterator;
  ends : (goal.iterator-loop-sender).is_finite l.sender-iterator;
  queue : IsPassOf (arc_value l.queue) l.reader;
  rest : l.fn.senders.items ≡ l.yielded ++ l.sender-iterator.rest.items;
  ring : l.reader.table_id ≡ l.fn.taker.ring;
  view : view l.reader ≡ reader_view l.fn.taker.senders (map (λ s. s.pushed) l.yielded) l.fn.taker.taken l.fn.taker.heard;
}
