use Rattle.std.proofs.Common.{◌≡◌, ℕ, refl, sym, ap, subst, ◌∙◌}
use Rattle.host_frames.specs.{frame_count}
use Rattle.host_session.specs.{IsAttachAnswer}
use Rattle.host_worker.specs.{released_of, pool_seat_of}
use Rattle.host_play.proofs.Accounts.{released_none, square_attached}
use Rattle.host_worker.proofs.Visited.{with_seat_still}
use Rattle.host_play.proofs.Belonging.{its_shared, pools, within}
use Rattle.host_play.proofs.LineSteps.{attach_done, attach_seat}
use Rattle.host_play.proofs.lines.attach.Goals as goal

pub session-shared-requires : goal.session-shared-requires
session-shared-requires g c = within c.args.server.now c.args.client.now c.requires.server c.requires.client c.number.result c.number.ensures

pub attach-requires-clause-shared : goal.attach-requires-clause-shared
attach-requires-clause-shared g c = its_shared c.args.server.now c.args.client.now c.requires.server c.requires.client c.number.result c.session-shared.result.now c.number.ensures c.session-shared.ensures

pub attach-requires-clause-pool : goal.attach-requires-clause-pool
attach-requires-clause-pool g c = pools c.args.server.now c.args.client.now c.requires.server c.requires.client c.pool.result.now c.pool_seat.result.now c.args.hand.now c.requires.hand c.pool.ensures c.pool_seat.ensures.seat

pub attach-requires-clause-ids : goal.attach-requires-clause-ids
attach-requires-clause-ids g c = c.requires.may.ids refl

pub attach-requires-clause-room : goal.attach-requires-clause-room
attach-requires-clause-room g c = c.requires.may.room refl

-- what the attach answered, of a pool of 4,096 frames and the hand's seat
answered : (g : _) (c : goal.After-vouch-2 g) → IsAttachAnswer 4096 c.args.pages c.args.client.now c.attach.new.self (pool_seat_of c.args.hand.now) c.attach.new.seat c.attach.result
answered g c =
    subst (λ (n : ℕ). IsAttachAnswer n c.args.pages c.args.client.now c.attach.new.self (pool_seat_of c.args.hand.now) c.attach.new.seat c.attach.result) (ap frame_count c.pool.ensures ∙ c.requires.server.pool.0)
    (subst (λ q. IsAttachAnswer (frame_count c.pool.result.now) c.args.pages c.args.client.now c.attach.new.self q c.attach.new.seat c.attach.result) c.pool_seat.ensures.seat c.attach.ensures)

pub returns-clause-done : goal.returns-clause-done
returns-clause-done g c = attach_done c.args.pages c.args.client.now c.attach.new.self (pool_seat_of c.args.hand.now) c.attach.new.seat c.attach.result (answered g c) c.requires.may.waits.open_still

pub returns-clause-helped : goal.returns-clause-helped
returns-clause-helped g c =
    let still = c.requires.may.waits.open_still in
    let done = attach_done c.args.pages c.args.client.now c.attach.new.self (pool_seat_of c.args.hand.now) c.attach.new.seat c.attach.result (answered g c) still in
    let released : released_of c.attach.new.self ≡ released_of c.args.client.now = released_none c.attach.new.self c.vouch-2.ensures done.open_still ∙ sym (released_none c.args.client.now c.vouch.ensures still) in
    record {
      hand = with_seat_still c.args.server.now c.args.hand.now c.attach.new.seat (attach_seat c.args.pages c.args.client.now c.attach.new.self (pool_seat_of c.args.hand.now) c.attach.new.seat c.attach.result (answered g c)) c.requires.hand;
      number_is = refl;
      account = λ sq. square_attached c.args.pages c.args.hand.now c.args.client.now c.attach.new.self c.attach.new.seat c.attach.result released (answered g c) still sq;
    }
