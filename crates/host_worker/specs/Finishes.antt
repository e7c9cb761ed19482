-- What has to hold where a server is finished, and how its parts come together.
use Rattle.std.specs.Prelude.{◌≡◌, ℕ, ◌+◌, ◌≤◌, Bool, true, List, ◌++◌, length, map}
use Rattle.std.specs.Prelude.{filter_map, slice_get, Some, None, All, vec_capacity}
use Rattle.host_io.specs.declared.disk.Disk as disk
use Rattle.host_report.specs.declared.session.SessionReport.{SessionReport}
use Rattle.host_session.specs.declared.hand.SessionHand.{SessionHand}
use Rattle.host_session.specs.Client.{ClientState}
use Rattle.host_session.specs.Plan.{AreAllHands, IsShared}
use Rattle.host_session.specs.Whole.{IsSessionWhole}
use Rattle.host_worker.specs.declared.hand.Hand.{Hand}
use Rattle.host_worker.specs.declared.room.ClosingRoom.{ClosingRoom}
use Rattle.host_worker.specs.declared.server.Server.{Server}
use Rattle.host_worker.specs.declared.session.Session.{Session}
use Rattle.host_worker.specs.Hands.{IsHandOf}
use Rattle.host_worker.specs.Servers.{plan_of_session, shared_of}

-- ---- one session

-- A session with its client and all its hands, to be ended, whose histories are kept or not.
pub record IsToEnd (keeps : Bool) (s : Session) (client : ClientState) : Type 0 where
  pub spec : client.plan.spec ≡ s.spec
  pub shared : IsShared client.plan (shared_of s)
  pub hands : AreAllHands client.plan s.hands.items
  pub closed : client.closed ≡ true
  pub keeps_is : client.plan.spec.keeps ≡ keeps

-- It ended so.
pub record IsSessionEndOf (s : Session) (client : ClientState) (e : SessionReport) : Type 0 where
  pub spec : (e.number ≡ s.spec.number) × (e.part ≡ s.spec.part_number) × (e.range ≡ s.spec.part)
  pub finish : client.finish ≡ Some e.finish
  pub whole : IsSessionWhole client s.hands.items e.log.items e.taken.items e.memory.items

-- each with its client
pub record AreToEnd (keeps : Bool) (sessions : List Session) (clients : List ClientState)
    : Type 0 where
  pub count : length clients ≡ length sessions
  pub each : (k : ℕ) (s : Session) (client : ClientState) → slice_get sessions k ≡ Some s
      → slice_get clients k ≡ Some client → IsToEnd keeps s client

pub record AreSessionsEnded (sessions : List Session) (clients : List ClientState)
    (ends : List SessionReport) : Type 0 where
  pub count : length ends ≡ length sessions
  pub each : (k : ℕ) (s : Session) (client : ClientState) (e : SessionReport)
      → slice_get sessions k ≡ Some s → slice_get clients k ≡ Some client
      → slice_get ends k ≡ Some e → IsSessionEndOf s client e

-- ---- all hands

module _ {D : Type 0} {g : disk.Ghosts D} where
  -- All clients of a server, by their sessions, each closed.
  pub record AreClosed (server : Server D g) (clients : List ClientState) : Type 0 where
    pub plans : map (λ client. client.plan) clients ≡ map plan_of_session server.sessions.items
    pub closed : All (λ client. client.closed ≡ true) clients

  -- all hands of a server, by their numbers
  pub record AreHands (server : Server D g) (hands : List (Hand D g)) : Type 0 where
    pub count : length hands ≡ server.hands
    pub each : (n : ℕ) (hand : Hand D g) → slice_get hands n ≡ Some hand
        → (hand.number ≡ n) × IsHandOf server hand

  -- there is room for the parts of so many hands
  pub record HasRoomFor (hands : ℕ) (room : ClosingRoom D g) (sessions : List Session)
      : Type 0 where
    pub device_seats : length room.device_seats.items + hands ≤ vec_capacity room.device_seats
    pub pool_seats : length room.pool_seats.items + hands ≤ vec_capacity room.pool_seats
    pub sessions_have : All (λ s. length s.hands.items + hands ≤ vec_capacity s.hands) sessions

  -- what hands have of session k
  abbrev pub parts_in : ℕ → List (Hand D g) → List SessionHand
  parts_in k hands = filter_map (λ hand. slice_get hand.sessions.items k) hands

  -- a hand without the room for closing
  abbrev pub without_room : Hand D g → Hand D g
  without_room hand = record hand { room = None }

  -- each session has what the hands had of it
  pub record AreBack (hands : List (Hand D g)) (old new : List Session) : Type 0 where
    pub count : length new ≡ length old
    pub each : (k : ℕ) (s s' : Session) → slice_get old k ≡ Some s → slice_get new k ≡ Some s'
        → (s'.spec ≡ s.spec) × (s'.shared ≡ s.shared) × (s'.opened ≡ s.opened)
        × (s'.hands.items ≡ s.hands.items ++ parts_in k hands)

  -- The hands were taken apart, and each part came to its place.
  pub record HasTakenBack (hands : List (Hand D g)) (room room' : ClosingRoom D g)
      (old new : List Session) : Type 0 where
    pub device_seats : room'.device_seats.items
        ≡ room.device_seats.items ++ map (λ hand. hand.device_seat) hands
    pub pool_seats : room'.pool_seats.items
        ≡ room.pool_seats.items ++ map (λ hand. hand.pool_seat) hands
    pub ends : room'.ends ≡ room.ends
    pub sessions : AreBack hands old new
