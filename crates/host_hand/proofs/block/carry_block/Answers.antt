use Rattle.std.proofs.Common.{◌∷◌, [], sym, subst}
use Rattle.host_block.specs.{Op, Trim}
use Rattle.host_turn.specs.{seen_by}
use Rattle.host_hand.specs.{ask_at, HasRun}
use Rattle.host_hand.proofs.BlockTurns.{on_block, trimmed}
use Rattle.host_hand.proofs.block.carry_block.Goals as goal

pub returns-in-Trim-clause-run : goal.returns-in-Trim-clause-run
returns-in-Trim-clause-run g c =
    let e = c.args.errand.now in
    let r = c.step_at in
    let h = seen_by c.args.memory_seat.now in
    subst (λ (o : Op). HasRun e o c.args.k (ask_at e o c.args.k ∷ []) r.result h h (seen_by c.args.device_seat.now) (seen_by r.new.seat)) (sym c.in-Trim.is)
    (trimmed e c.args.k r.result (seen_by c.args.device_seat.now) (seen_by r.new.seat) r.ensures.front c.empty.result h
    (on_block e c.args.k c.block.result Trim c.empty.result r.result.answer r.result.front (seen_by c.args.device_seat.now) (seen_by r.new.seat) c.block.ensures r.ensures.step))
