-- What the fields of a `ClientEnd` are, as contracts see them.
use Rattle.std.specs.Prelude.{◌≡◌, ℕ, ◌+◌, ◌≤◌, [], length, vec_capacity}
use Rattle.host_frames.specs.Seats.{pool_id}
use Rattle.host_group.specs.Seats.{cells_id}
use Rattle.host_model.specs.Log.{given, received, sent}
use Rattle.host_turn.specs.Seats.{seat_book}
use Rattle.host_session.specs.declared.client.ClientEnd.TheInside.{Inside}
use Rattle.host_session.specs.declared.room.ClosingRoom.{ClosingRoom}
use Rattle.host_session.specs.Client.{ClientState}
use Rattle.host_session.specs.Endings.{owed_count}
use Rattle.host_session.specs.Kept.{IsClient}

abbrev pub client_state : Inside → ClientState
client_state a = record {
  plan = record {
    spec = a.spec;
    hands = a.hands;
    pool = pool_id a.pool.value;
    intake = seat_book a.intake_seat;
    memory = seat_book a.memory_seat;
    cells = cells_id a.cells.value;
    requests = a.sender.ring;
    answers = a.taker.ring;
  };
  log = a.log.items;
  finish = a.finish;
  closed = a.closed;
  fronts = a.fronts;
  intake_seat = a.intake_seat;
  memory_seat = a.memory_seat;
  sender = a.sender;
  taker = a.taker;
}

-- the numbers kept are those of the log
pub record IsCounted (a : Inside) : Type 0 where
  pub sent : a.sent ≡ length (sent a.log.items)
  pub received : a.received ≡ length (received a.log.items)
  pub given : a.given ≡ length (given a.log.items)
  pub owed : a.owed ≡ owed_count a.log.items
  pub room : a.log.room ≡ a.spec.events + 1
  pub keeps : a.log.kept ≡ a.spec.keeps

-- Room for all seats and senders of a session with so many hands.
pub record HasRoomForHands (hands : ℕ) (r : ClosingRoom) : Type 0 where
  pub empty : (r.intake_seats.items ≡ []) × (r.memory_seats.items ≡ []) × (r.senders.items ≡ [])
  pub intake_seats : hands + 1 ≤ vec_capacity r.intake_seats
  pub memory_seats : hands + 2 ≤ vec_capacity r.memory_seats
  pub senders : hands ≤ vec_capacity r.senders

pub record IsClientKept (a : Inside) : Type 0 where
  pub client : IsClient (client_state a)
  pub counted : IsCounted a
  pub closing : HasRoomForHands a.hands a.closing
