use Rattle.std.proofs.Common.{sym, ◌∙◌, arith}
use Rattle.host_turn.specs.{seen_by}
use Rattle.host_hand.proofs.BlockAfter.{run_none}
use Rattle.host_hand.proofs.BlockSeats.{blocks_more, blocks_stopped, same_refl, same_trans}
use Rattle.host_hand.proofs.block.carry_blocks.Goals as goal

pub loop-k-init : goal.loop-k-init
loop-k-init g c =
    let m = c.args.memory_seat.now in
    let d = c.args.device_seat.now in
    record {
      memory_seat = (same_refl m, c.requires.buffers.outside);
      device_seat = (same_refl d, c.requires.device.outside);
      held = c.requires.held;
      run = run_none c.args.errand.now c.args.op 0 (seen_by m) (seen_by d) (omega arith);
    }

pub returns-then-is_err-clause-run : goal.returns-then-is_err-clause-run
returns-then-is_err-clause-run g c =
    let l = c.loop-k in
    let i = l.invariant in
    let r = c.carry_block-run in
    let e = c.args.errand.now in
    blocks_stopped e c.args.op l.k l.front r.result (seen_by c.args.memory_seat.now) (seen_by l.memory_seat) (seen_by r.new.memory_seat) (seen_by c.args.device_seat.now) (seen_by l.device_seat) (seen_by r.new.device_seat)
    r.ensures.front i.run r.ensures.run e.request.length c.loop-k-test.true (sym c.is_err.ensures.value ∙ c.if-is_err.true)

pub loop-k-preserved : goal.loop-k-preserved
loop-k-preserved g c =
    let l = c.loop-k in
    let i = l.invariant in
    let r = c.carry_block-run in
    let e = c.args.errand.now in
    record {
      memory_seat = (same_trans c.args.memory_seat.now l.memory_seat r.new.memory_seat i.memory_seat.0 r.ensures.seats.0, r.ensures.seats.1);
      device_seat = (same_trans c.args.device_seat.now l.device_seat r.new.device_seat i.device_seat.0 r.ensures.seats.2, r.ensures.seats.3);
      held = r.ensures.held;
      run = blocks_more e c.args.op l.k l.front r.result (seen_by c.args.memory_seat.now) (seen_by l.memory_seat) (seen_by r.new.memory_seat) (seen_by c.args.device_seat.now) (seen_by l.device_seat) (seen_by r.new.device_seat)
          r.ensures.front i.run r.ensures.run (sym c.is_err.ensures.value ∙ c.if-is_err.false);
    }
