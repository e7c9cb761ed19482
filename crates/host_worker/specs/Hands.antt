-- The hands of a server.
use Rattle.std.specs.Prelude.{◌≡◌, ℕ, ◌≤◌, ◌<◌, Bool, List, [], length, slice_get, Some, All}
use Rattle.std.specs.Prelude.{IsTrue, MatchOption, vec_capacity}
use Rattle.std.specs.List.{list_all}
use Rattle.host_device.specs.Seen.{fixed_of}
use Rattle.host_frames.specs.declared.seat.PoolSeat.{PoolSeat}
use Rattle.host_frames.specs.Seats.{claims, given_back, granted, pool_id, seat_pool}
use Rattle.host_hand.specs.Kept.{KeepsSession}
use Rattle.host_io.specs.declared.disk.Disk as disk
use Rattle.host_model.specs.declared.step.Step.{Step}
use Rattle.host_report.specs.Lawful.{is_of_sessions}
use Rattle.host_session.specs.declared.hand.SessionHand.{SessionHand}
use Rattle.host_session.specs.Plan.{IsFreshHand, IsHand, IsSeatIn}
use Rattle.host_log.specs.History.{entries_of}
use Rattle.host_turn.specs.Seats.{book_id, opening_of, seen_by}
use Rattle.host_worker.specs.declared.hand.Hand.{Hand}
use Rattle.host_worker.specs.declared.room.ClosingRoom.{ClosingRoom}
use Rattle.host_worker.specs.declared.server.Server.{Server}
use Rattle.host_worker.specs.declared.session.Session.{Session}
use Rattle.host_worker.specs.Servers.{keeps_of, plan_of_session}

-- all steps of hand n name one of so many sessions
abbrev pub AreNamed : ℕ → ℕ → List Step → Type 0
AreNamed sessions n steps =
    IsTrue (list_all (is_of_sessions sessions) (entries_of (λ step. step.hand) n steps))

-- what hand n has of a session: its seats, with all that a hand keeps there
pub record IsPartOf (s : Session) (n : ℕ) (h : SessionHand) (steps : List Step) : Type 0 where
  pub hand : IsHand (plan_of_session s) n h
  pub keeps : KeepsSession s.spec n h steps

module _ {D : Type 0} {g : disk.Ghosts D} where
  -- room for the seats of so many hands, and for the ends of so many sessions, which are kept or
  -- not
  pub record IsClosingRoom (keeps : Bool) (hands sessions : ℕ) (r : ClosingRoom D g) : Type 0 where
    pub device_seats_fit : (r.device_seats.items ≡ []) × (hands ≤ vec_capacity r.device_seats)
    pub pool_seats_fit : (r.pool_seats.items ≡ []) × (hands ≤ vec_capacity r.pool_seats)
    pub ends_fit : (r.ends.items ≡ []) × (r.ends.room ≡ sessions)
    pub ends_kept : r.ends.kept ≡ keeps

  abbrev pub pool_seat_of : Hand D g → PoolSeat
  pool_seat_of hand = hand.pool_seat

  abbrev pub with_pool_seat : Hand D g → PoolSeat → Hand D g
  with_pool_seat hand seat = record hand { pool_seat = seat }

  -- A hand of this server: its seats have its number, at the device, the pool and each session,
  -- where it keeps what a hand keeps; and its steps name only sessions of the server.
  pub record IsHandOf (server : Server D g) (hand : Hand D g) : Type 0 where
    pub number : hand.number < server.hands
    pub device : IsSeatIn (book_id server.device) (fixed_of (opening_of server.device)) hand.number
        hand.device_seat
    pub pool : seat_pool hand.pool_seat ≡ pool_id server.pool
    pub count : length hand.sessions.items ≡ length server.sessions.items
    pub next : hand.next ≤ length server.sessions.items
    pub each : (k : ℕ) (s : Session) (h : SessionHand) → slice_get server.sessions.items k ≡ Some s
        → slice_get hand.sessions.items k ≡ Some h
        → IsPartOf s hand.number h (seen_by hand.device_seat)
    pub named : AreNamed (length server.sessions.items) hand.number (seen_by hand.device_seat)
    -- the first hand keeps the room for closing
    pub closing : hand.number ≡ 0
        → MatchOption hand.room ⊥
        (IsClosingRoom (keeps_of server) server.hands (length server.sessions.items))

  -- it has seen and done nothing
  pub record IsNewHand (hand : Hand D g) : Type 0 where
    pub device : seen_by hand.device_seat ≡ []
    pub pool : (claims hand.pool_seat ≡ []) × (granted hand.pool_seat ≡ 0)
        × (given_back hand.pool_seat ≡ 0)
    pub sessions : All IsFreshHand hand.sessions.items
