use Rattle.std.proofs.Common.{◌++◌, Option, sym, ap, ◌∙◌}
use Rattle.std.specs.Prelude.{option_to_list}
use Rattle.host_frames.specs.{PoolSeat, pool_id}
use Rattle.host_session.specs.{SessionHand}
use Rattle.session_client.proofs.TakenOut.{only_hand, two_seats}
use Rattle.session_client.proofs.opening.open_desk.Goals as goal

pub invariant_of-result-clause-hand_is : goal.invariant_of-result-clause-hand_is
invariant_of-result-clause-hand_is c =
    let o = c.in_ok-shared.ensures in
    only_hand c.in_ok-shared.client.plan c.in_ok-shared.hands.items c.pop-3.new.self.items c.unwrap-hand.result o.dealt o.plan.1
    (c.pop-3.ensures.items ∙ ap (λ (x : Option SessionHand). c.pop-3.new.self.items ++ option_to_list x) c.unwrap-hand.ensures)

pub invariant_of-caller-clause-seat_is : goal.invariant_of-caller-clause-seat_is
invariant_of-caller-clause-seat_is c =
    let o = c.in_ok-shared.ensures in
    let both = two_seats (pool_id c.in_ok-pool.pool) c.in_ok-pool.seats.items c.pop.new.self.items c.pop-2.new.self.items c.unwrap-hand_seat.result c.unwrap-seat.result c.in_ok-pool.ensures.seats.1
    (c.pop.ensures.items ∙ ap (λ (x : Option PoolSeat). c.pop.new.self.items ++ option_to_list x) c.unwrap-hand_seat.ensures)
    (c.pop-2.ensures.items ∙ ap (λ (x : Option PoolSeat). c.pop-2.new.self.items ++ option_to_list x) c.unwrap-seat.ensures) in
    both.1 ∙ sym o.plan.2

pub invariant_of-result-clause-hand_pool : goal.invariant_of-result-clause-hand_pool
invariant_of-result-clause-hand_pool c =
    (two_seats (pool_id c.in_ok-pool.pool) c.in_ok-pool.seats.items c.pop.new.self.items c.pop-2.new.self.items c.unwrap-hand_seat.result c.unwrap-seat.result c.in_ok-pool.ensures.seats.1
    (c.pop.ensures.items ∙ ap (λ (x : Option PoolSeat). c.pop.new.self.items ++ option_to_list x) c.unwrap-hand_seat.ensures)
    (c.pop-2.ensures.items ∙ ap (λ (x : Option PoolSeat). c.pop-2.new.self.items ++ option_to_list x) c.unwrap-seat.ensures)).0
