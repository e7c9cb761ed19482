use Rattle.std.proofs.Common.{sym, ◌∙◌}
use Rattle.host_turn.specs.{seen_by}
use Rattle.host_hand.proofs.BlockAfter.{has_failed, has_forced, has_unforced}
use Rattle.host_hand.proofs.BlockSeats.{ok_is}
use Rattle.host_hand.proofs.carry.carry_steps.Goals as goal

pub returns-clause-run : goal.returns-clause-run
returns-clause-run g c =
    let b = c.carry_blocks-run in
    let r = c.step_at in
    has_forced c.args.errand.now c.args.op b.result r.result c.empty.result (seen_by c.args.memory_seat.now) (seen_by b.new.memory_seat) (seen_by c.args.device_seat.now) (seen_by b.new.device_seat) (seen_by r.new.seat)
    (sym c.flushes_after.ensures ∙ c.if-not-flushes_after.false) (ok_is b.result.answer (sym c.is_err.ensures.value ∙ c.if-is_err.false)) b.ensures.run r.ensures.step r.ensures.front

pub returns-then-not-flushes_after-clause-run : goal.returns-then-not-flushes_after-clause-run
returns-then-not-flushes_after-clause-run g c =
    let b = c.carry_blocks-run in
    has_unforced c.args.errand.now c.args.op b.result (seen_by c.args.memory_seat.now) (seen_by b.new.memory_seat) (seen_by c.args.device_seat.now) (seen_by b.new.device_seat) (sym c.flushes_after.ensures ∙ c.if-not-flushes_after.true) b.ensures.run

pub returns-then-is_err-clause-run : goal.returns-then-is_err-clause-run
returns-then-is_err-clause-run g c =
    let b = c.carry_blocks-run in
    has_failed c.args.errand.now c.args.op b.result (seen_by c.args.memory_seat.now) (seen_by b.new.memory_seat) (seen_by c.args.device_seat.now) (seen_by b.new.device_seat) (sym c.is_err.ensures.value ∙ c.if-is_err.true) b.ensures.run
