use Rattle.host_block.specs.{Write}
use Rattle.host_turn.specs.{seen_by}
use Rattle.host_hand.specs.{ask_at}
use Rattle.host_hand.proofs.BlockTurns.{on_block, refused_before, written_before}
use Rattle.host_hand.proofs.block.write_block.Goals as goal

pub returns-in_default-clause-run : goal.returns-in_default-clause-run
returns-in_default-clause-run g c =
    let e = c.args.errand.now in
    refused_before e Write c.args.k (ask_at e Write c.args.k) c.refused.result c.args.front (seen_by c.args.memory_seat.now) (seen_by c.lift_page.new.seat) (seen_by c.args.device_seat.now) c.refused.ensures c.requires.front c.in_default.ensures.refused

pub returns-clause-run : goal.returns-clause-run
returns-clause-run g c =
    let e = c.args.errand.now in
    let r = c.step_at in
    written_before e c.args.k r.result (seen_by c.args.device_seat.now) (seen_by r.new.seat) r.ensures.front c.in-Ok.piece (seen_by c.args.memory_seat.now) (seen_by c.lift_page.new.seat) c.requires.block.1 c.in-Ok.ensures.lifted.1
    (on_block e c.args.k c.block.result Write c.in-Ok.piece r.result.answer r.result.front (seen_by c.args.device_seat.now) (seen_by r.new.seat) c.block.ensures r.ensures.step)
