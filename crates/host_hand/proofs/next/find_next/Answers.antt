-- What the hand found, as its seats have seen it.
use Rattle.std.proofs.Common.{length, arith, sym, ap, subst, ◌∙◌, List}
use Rattle.host_frames.specs.{pool_id}
use Rattle.host_group.specs.{cells_id}
use Rattle.host_intake.specs.{IntakeEntry, maker_of, takings}
use Rattle.host_log.specs.{Continues}
use Rattle.host_turn.specs.{number, seen_by}
use Rattle.host_hand.specs.{IsNext, count_told}
use Rattle.host_hand.proofs.Entered.{takings_more}
use Rattle.host_hand.proofs.Jobbed.{next_fewer}
use Rattle.host_hand.proofs.next.find_next.Goals as goal

pub returns-clause-found : goal.returns-clause-found
returns-clause-found g c =
    let a = c.args in let e = c.enter-intake.ensures in let n = c.next_in_turn-next in let heard = c.hear.ensures in (
      c.enter-intake.result.entries,
      subst (λ m. Continues maker_of m (seen_by a.hand.now.intake) c.enter-intake.result.entries) c.requires.hand.hand_is.intake.number_is (subst (λ l. Continues maker_of (number a.hand.now.intake) (seen_by a.hand.now.intake) l) (sym e.story) e.later),
      next_fewer (cells_id a.session.now.cells) a.spec.now (pool_id a.pool.now) (count_told a.note) (length c.hear.new.intake.taker.heard) a.me c.enter-intake.result.entries (seen_by c.leave.new.seat) (seen_by n.new.memory_seat) a.hand.now.sender n.new.sender n.result heard.heard
          (subst (λ (es : List IntakeEntry). IsNext (cells_id a.session.now.cells) a.spec.now (pool_id a.pool.now) (length c.hear.new.intake.taker.heard) a.me es (seen_by c.leave.new.seat) (seen_by n.new.memory_seat) a.hand.now.sender n.new.sender n.result) heard.entries
          (subst (λ l. IsNext (cells_id a.session.now.cells) a.spec.now (pool_id a.pool.now) (length c.hear.new.intake.taker.heard) a.me c.hear.new.intake.entries l (seen_by n.new.memory_seat) a.hand.now.sender n.new.sender n.result) (sym c.leave.ensures.story) n.ensures.found)),
    )

pub next_in_turn-next-requires-clause-clean : goal.next_in_turn-next-requires-clause-clean
next_in_turn-next-requires-clause-clean g c i le =
    let e = c.enter-intake.ensures in
    let more = takings_more (seen_by c.args.hand.now.intake) (seen_by c.enter-intake.new.seat) e.later.0 in
    let same = ap (λ es. length (takings es)) (c.hear.ensures.entries ∙ e.story) in
    c.requires.clean i (omega arith)
