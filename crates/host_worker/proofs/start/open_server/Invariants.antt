use Rattle.std.proofs.Common.{◌≡◌, ◌+◌, ◌≤◌, All, vec_capacity, vec_len}
use Rattle.host_device.specs.{fixed_of, steps_of}
use Rattle.host_frames.specs.{IsNewSeat, pool_id}
use Rattle.host_turn.specs.{AreNewSeats, book_id, opening_of}
use Rattle.host_worker.specs.{AreShares}
use Rattle.host_worker.proofs.Starting.{AreMade}
use Rattle.host_worker.proofs.start.open_server.Given as goal

abbrev pub invariant-loop-device_seats : goal.invariant-loop-device_seats
invariant-loop-device_seats g l = record {
  seats : AreNewSeats (λ device. (steps_of device).items) fixed_of (book_id l.book) (opening_of l.book) l.device_seats.items;
  pool_seats : (vec_len l.pool_seats ≡ vec_len l.device_seats) × All (IsNewSeat (pool_id l.pool)) l.pool_seats.items;
  shares : (vec_len l.shares ≡ vec_len l.device_seats) × AreShares l.opened.clients.items l.shares.items;
  made : AreMade (book_id l.book) (opening_of l.book) (pool_id l.pool) l.opened.clients.items (vec_len l.device_seats) l.all.items;
  count : vec_len l.all + vec_len l.device_seats ≡ l.hands;
  room : (l.hands ≤ vec_capacity l.all) × (l.hands ≤ vec_capacity l.device_seats) × (l.hands ≤ vec_capacity l.pool_seats);
}

abbrev pub decreases-loop-device_seats : goal.decreases-loop-device_seats
decreases-loop-device_seats g l = vec_len l.device_seats
