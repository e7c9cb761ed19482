use Rattle.std.proofs.Common.{sym, subst}
use Rattle.host_frames.specs.{pool_id}
use Rattle.host_turn.specs.{seen_by}
use Rattle.host_hand.specs.{Carried, HasCarried}
use Rattle.host_hand.specs.declared.work.Work.TheVariants as work
use Rattle.host_hand.proofs.CarryEnds.{trim_carried}
use Rattle.host_hand.proofs.carry.trim.Goals as goal

pub returns-clause-carried : goal.returns-clause-carried
returns-clause-carried g c =
    let b = c.carry_blocks-run in
    let e = c.args.errand.now in
    let pool = pool_id c.args.pool.now in
    let h = seen_by c.args.memory_seat.now in
    let m = seen_by b.new.memory_seat in
    let s = seen_by c.args.device_seat.now in
    let u = seen_by b.new.device_seat in
    subst (λ (x : Carried). HasCarried e work.Trim pool x h m s u) (sym c.end_of.ensures) (trim_carried e pool b.result h m s u c.requires.kind b.ensures.run)
