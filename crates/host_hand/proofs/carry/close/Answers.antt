use Rattle.host_frames.specs.{pool_id}
use Rattle.host_turn.specs.{seen_by}
use Rattle.host_hand.proofs.CarryEnds.{closed_carried}
use Rattle.host_hand.proofs.carry.close.Goals as goal

pub returns-clause-carried : goal.returns-clause-carried
returns-clause-carried g c = λ steps.
    closed_carried c.args.errand.now (pool_id c.args.pool.now) c.args.pages c.look-memory_front.result (seen_by c.args.memory_seat.now) (seen_by c.look-memory_front.new.seat) steps c.requires.close c.look-memory_front.ensures.length c.look-memory_front.ensures.seen
