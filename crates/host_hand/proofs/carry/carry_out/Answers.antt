use Rattle.std.proofs.Common.{sym, subst}
use Rattle.host_frames.specs.{pool_id}
use Rattle.host_turn.specs.{seen_by}
use Rattle.host_hand.specs.{Carried, Work, HasCarried}
use Rattle.host_hand.specs.declared.work.Work.TheVariants as work
use Rattle.host_hand.proofs.CarryEnds.{refused_carried}
use Rattle.host_hand.proofs.carry.carry_out.Goals as goal

pub returns-in-Refuse-clause-carried : goal.returns-in-Refuse-clause-carried
returns-in-Refuse-clause-carried g c =
    let e = c.args.errand.now in
    let pool = pool_id c.args.pool.now in
    let h = seen_by c.args.memory_seat.now in
    let s = seen_by c.args.device_seat.now in
    subst (λ (w : Work). HasCarried e w pool c.at_once.result h h s s) (sym c.in-Refuse.is)
    (subst (λ (r : Carried). HasCarried e (work.Refuse c.in-Refuse.status) pool r h h s s) (sym c.at_once.ensures) (refused_carried e pool c.in-Refuse.status h s))
