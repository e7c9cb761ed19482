use Rattle.std.proofs.Common.{sym, subst}
use Rattle.host_frames.specs.{pool_id}
use Rattle.host_record.specs.declared.status.Status.{Status}
use Rattle.host_record.specs.{opcode}
use Rattle.host_turn.specs.{book_id, seen_by}
use Rattle.host_hand.specs.{HasCarried, work_by}
use Rattle.host_hand.proofs.BlockSeats.{at_buffers, held_for, holds_for, of_pool_still, same_trans}
use Rattle.host_hand.proofs.CarryEnds.{transfer_carried}
use Rattle.host_hand.proofs.carry.transfer.Goals as goal

pub carry_steps-run-requires-clause-held : goal.carry_steps-run-requires-clause-held
carry_steps-run-requires-clause-held g c = holds_for c.args.errand.now (opcode c.args.errand.now.request) c.args.op (seen_by c.args.memory_seat.now) c.requires.kind c.requires.held

pub let_go-freed-requires-clause-seat : goal.let_go-freed-requires-clause-seat
let_go-freed-requires-clause-seat g c =
    let b = c.carry_steps-run in
    at_buffers (book_id c.args.memory.now) c.args.errand.now.hand c.args.errand.now.size c.args.memory_seat.now b.new.memory_seat c.requires.buffers.0 b.ensures.seats.0 b.ensures.seats.1

pub let_go-freed-requires-clause-pool : goal.let_go-freed-requires-clause-pool
let_go-freed-requires-clause-pool g c =
    let b = c.carry_steps-run in
    of_pool_still (pool_id c.args.pool.now) c.args.memory_seat.now b.new.memory_seat c.requires.buffers.1 b.ensures.seats.0

pub let_go-freed-requires-clause-held : goal.let_go-freed-requires-clause-held
let_go-freed-requires-clause-held g c =
    let b = c.carry_steps-run in
    held_for c.args.errand.now (opcode c.args.errand.now.request) c.args.op (seen_by b.new.memory_seat) c.requires.kind b.ensures.held

pub returns-clause-seats : goal.returns-clause-seats
returns-clause-seats g c =
    let b = c.carry_steps-run in
    (same_trans c.args.memory_seat.now b.new.memory_seat c.let_go-freed.new.seat b.ensures.seats.0 c.let_go-freed.ensures.seat.0, c.let_go-freed.ensures.seat.1, b.ensures.seats.2, b.ensures.seats.3)

pub returns-clause-carried : goal.returns-clause-carried
returns-clause-carried g c =
    let b = c.carry_steps-run in
    let l = c.let_go-freed in
    let e = c.args.errand.now in
    let pool = pool_id c.args.pool.now in
    let h = seen_by c.args.memory_seat.now in
    let new = seen_by l.new.seat in
    let s = seen_by c.args.device_seat.now in
    let u = seen_by b.new.device_seat in
    subst (λ (status : Status). HasCarried e (work_by c.args.op) pool (record { end = record { outcome = status; device_front = b.result.front; memory_front = l.result.front }; freed = l.result.freed }) h new s u) (sym c.status.ensures)
    (transfer_carried e pool b.result l.result.freed l.result.front h (seen_by b.new.memory_seat) new s u c.args.op c.requires.kind b.ensures.run l.ensures.gone)
