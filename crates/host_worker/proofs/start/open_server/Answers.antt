use Rattle.std.proofs.Common.{◌≡◌, ℕ, ◌+◌, ◌<◌, List, length, Some, vec_len, refl, sym, ap, subst, ◌∙◌, arith}
use Rattle.std.proofs.lemmas.Bool.{eqb-true}
use Rattle.std.proofs.lemmas.List.{length-map, length-reverse, length-set}
use Rattle.std.proofs.lemmas.Option.{slice_get_read}
use Rattle.std.specs.Prelude.{slice_get, slice_set}
use Rattle.host_device.specs.{fixed_of, steps_of}
use Rattle.host_frames.specs.{IsNewSeat, pool_id}
use Rattle.host_model.specs.{Step}
use Rattle.host_log.specs.{entries_of}
use Rattle.host_turn.specs.{AreNewSeats, book_id, opening_of}
use Rattle.host_worker.specs.{ClosingRoom, Session, IsClosingRoom}
use Rattle.host_worker.proofs.Starting.{AreMade, fewer, fewer_len, fewer_shares, first_has_room, is_started, made_more, made_none, one_made}
use Rattle.host_log.proofs.Places.{nil_of}
use Rattle.host_worker.proofs.start.open_server.Goals as goal

pub new-requires-clause-fresh : goal.new-requires-clause-fresh
new-requires-clause-fresh g c = λ n less. ap (λ (l : List Step). entries_of (λ step. step.hand) n l) c.requires.device

pub loop-device_seats-init : goal.loop-device_seats-init
loop-device_seats-init g c =
    let p = c.requires.prepared in
    let a = c.args.prepared in
    let count : vec_len c.in-Ok.made.1 ≡ c.args.hands = c.in-Ok.ensures.seats.0 in
    let opening = c.in-Ok.ensures.book.1 in
    record {
      seats = subst (λ d. AreNewSeats (λ x. (steps_of x).items) fixed_of (book_id c.in-Ok.made.0) d c.in-Ok.made.1.items) (sym opening) c.in-Ok.ensures.seats.1;
      pool_seats = (omega (arith, p.seats.0, a.pool_seats.ok.0, count), p.seats.1);
      shares = (omega (arith, p.shares.0, a.shares.ok.0, count), p.shares.1);
      made = made_none (book_id c.in-Ok.made.0) (opening_of c.in-Ok.made.0) (pool_id a.pool) a.opened.clients.items (vec_len c.in-Ok.made.1) a.hands.items p.room.0;
      count = omega (arith, ap length p.room.0, a.hands.ok.0, count);
      room = (p.room.1, omega (arith, count, c.in-Ok.made.1.ok.0, c.in-Ok.made.1.ok.1), omega (arith, p.seats.0, a.pool_seats.ok.0, a.pool_seats.ok.1));
    }

pub loop-device_seats-preserved : goal.loop-device_seats-preserved
loop-device_seats-preserved g c =
    let i = c.loop-device_seats.invariant in
    let out = c.hand_out-seat.ensures in
    let made = c.make_hand-hand.ensures in
    let hand = c.make_hand-hand.result in
    let left : ℕ = vec_len c.hand_out-seat.new.seats in
    let book = book_id c.in-Ok.made.0 in
    let device = opening_of c.in-Ok.made.0 in
    let pool = pool_id c.args.prepared.pool in
    let clients = c.args.prepared.opened.clients.items in
    let seats = c.loop-device_seats.pool_seats in
    let seats' = c.make_hand-hand.new.pool_seats in
    let shares = c.loop-device_seats.shares in
    let shares' = c.make_hand-hand.new.shares in
    let count : vec_len c.loop-device_seats.device_seats ≡ left + 1 = out.count.0 in
    let shares_left : vec_len shares' ≡ left = fewer_len shares shares' hand.sessions left made.share (i.shares.0 ∙ count) in
    let number : hand.number ≡ left = omega (arith, made.hand.0, c.len.ensures, count) in
    record {
      seats = out.left;
      pool_seats = (fewer_len seats seats' hand.pool_seat left made.pool (i.pool_seats.0 ∙ count), fewer (IsNewSeat pool) seats.items seats'.items hand.pool_seat made.pool i.pool_seats.1);
      shares = (shares_left, fewer_shares clients shares.items shares'.items hand.sessions made.share i.shares.1);
      made = subst (λ l. AreMade book device pool clients left l) (sym c.push_reserved.ensures.items)
          (made_more book device pool clients left c.loop-device_seats.all.items hand
          (subst (λ (n : ℕ). AreMade book device pool clients n c.loop-device_seats.all.items) count i.made)
          (one_made book device pool clients left c.hand_out-seat.result hand seats.items seats'.items shares.items shares'.items number made.hand.1 made.hand.2 made.pool made.share
          (sym shares'.ok.0 ∙ shares_left) out.seat i.pool_seats.1 i.shares.1));
      count = omega (arith, i.count, count, c.push_reserved.ensures.len);
      room = (omega (arith, i.room.0, c.push_reserved.ensures.capacity), omega (arith, i.room.1, out.count.1), omega (arith, i.room.2, made.room));
    }

pub returns : goal.returns
returns g c =
    let i = c.loop-device_seats.invariant in
    let p = c.requires.prepared in
    let a = c.args.prepared in
    let last = c.loop-device_seats in
    let made = c.in-Ok.made in
    let opening = c.in-Ok.ensures.book.1 in
    let none : vec_len last.device_seats ≡ 0 = eqb-true (vec_len last.device_seats) 0 (sym c.is_empty.ensures ∙ c.loop-device_seats-test.false) in
    let all : length last.all.items ≡ c.args.hands = omega (arith, i.count, none, last.all.ok.0) in
    let room : ClosingRoom g.row.D.Denot g.D.Disk = record { device_seats = last.device_seats; pool_seats = last.pool_seats; ends = a.ends } in
    let is_room : IsClosingRoom (steps_of c.args.device).kept c.args.hands (length a.opened.sessions.items) room = record {
      device_seats_fit = (nil_of last.device_seats.items (sym last.device_seats.ok.0 ∙ none), i.room.1);
      pool_seats_fit = (nil_of last.pool_seats.items (sym last.pool_seats.ok.0 ∙ (i.pool_seats.0 ∙ none)), i.room.2);
      ends_fit = (p.room.2, p.room.3 ∙ length-map a.opened.sessions.items (λ (s : Session). s.spec));
      ends_kept = p.room.4;
    } in
    let book = book_id made.0 in
    let pool = pool_id a.pool in
    let clients = a.opened.clients.items in
    let first = c.index_mut.result.now in
    let some : 0 < vec_len c.reverse.new.self = omega (arith, c.reverse.ensures.len, last.all.ok.0, all, c.requires.some) in
    let there = ap (λ l. slice_get l 0) (sym c.reverse.ensures.items) ∙ slice_get_read c.reverse.new.self.items (vec_len c.reverse.new.self) 0 first c.reverse.new.self.ok.0 some c.index_mut.ensures.value in
    let every = subst (λ d. AreMade book d pool clients 0 last.all.items) opening (subst (λ (n : ℕ). AreMade book (opening_of made.0) pool clients n last.all.items) none i.made) in
    is_started c.args.device _ c.args.hands _ c.requires.device opening c.in-Ok.ensures.book.0 c.requires.some p.pool c.requires.specs p.opened refl
    (length-set c.reverse.new.self.items 0 _ ∙ (ap length c.reverse.ensures.items ∙ (length-reverse last.all.items ∙ all)))
    (λ n hand at. first_has_room book c.args.device pool clients last.all.items first room (IsClosingRoom (steps_of c.args.device).kept c.args.hands (length a.opened.sessions.items)) there is_room every n hand
    (ap (λ l. slice_get (slice_set l 0 (record first { room = Some room })) n) (sym c.reverse.ensures.items) ∙ at))
