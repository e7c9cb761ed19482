-- How a server is started.
use Rattle.std.specs.Prelude.{◌≡◌, ℕ, ◌+◌, ◌^◌, ◌<◌, ◌≤◌, Bool, List, [], ◌∷◌, ◌++◌, length, map}
use Rattle.std.specs.Prelude.{slice_get, slice_set, Some, All, Vec, vec_capacity}
use Rattle.std.specs.declared.alloc.Global.{Global}
use Rattle.atomic_table.specs.Seated.{TableId}
use Rattle.host_device.specs.declared.device.Device.{Device}
use Rattle.host_io.specs.declared.disk.Disk as disk
use Rattle.host_frames.specs.Seats.{IsNewSeat, frame_count, page_size, pool_id}
use Rattle.host_frames.specs.Seats as frames
use Rattle.host_session.specs.declared.hand.SessionHand.{SessionHand}
use Rattle.host_session.specs.declared.spec.SessionSpec.{SessionSpec}
use Rattle.host_session.specs.Client.{ClientState}
use Rattle.host_session.specs.Opened.{IsNewClient}
use Rattle.host_turn.specs.Seats.{opening_of}
use Rattle.host_worker.specs.declared.hand.Hand.{Hand}
use Rattle.host_worker.specs.declared.prepare.Opened.{Opened}
use Rattle.host_worker.specs.declared.prepare.Prepared.{Prepared}
use Rattle.host_worker.specs.declared.session.Session.{Session}
use Rattle.host_worker.specs.declared.started.Started.{Started}
use Rattle.host_worker.specs.Hands.{IsHandOf, IsNewHand}
use Rattle.host_worker.specs.Servers.{IsClientOf, IsServer}
use Rattle.host_worker.specs.Shares.{AreOpenedFor, HasHands, HasOneMore, IsNewShare}
use Rattle.host_worker.specs.Shares.{IsSessionOpenedFor, openings_of, specs_of}

-- a session that can be opened over blocks of this size
pub record IsPlanned (size : ℕ) (spec : SessionSpec) : Type 0 where
  pub depth : (1 ≤ spec.depth) × (spec.depth ≤ 128)
  pub size_is : spec.size ≡ size

-- At most sixteen, numbered from 1, each on a range of a device with so many blocks of this size,
-- whose histories are kept or not as the device's is.
pub record AreSpecs (keeps : Bool) (blocks size : ℕ) (specs : List SessionSpec) : Type 0 where
  pub few : length specs ≤ 16
  pub numbers : (k : ℕ) (spec : SessionSpec) → slice_get specs k ≡ Some spec → spec.number ≡ k + 1
  pub planned : All (IsPlanned size) specs
  pub kept : All (λ spec. spec.keeps ≡ keeps) specs
  pub parts : All (λ spec.
      (spec.part.first + spec.part.count ≤ blocks) × (spec.part.first + spec.part.count < 2 ^ 64))
      specs

-- ---- as it is being started

-- Sessions of these specs, with new clients; the first n hands of each are still there.
pub record AreOpened (specs : List SessionSpec) (hands n : ℕ) (pool : TableId × ℕ) (opened : Opened)
    : Type 0 where
  pub specs_are : specs_of opened.sessions.items ≡ specs
  pub clients_are : openings_of opened.sessions.items ≡ opened.clients.items
  pub new : All IsNewClient opened.clients.items
  pub sessions : AreOpenedFor hands n pool opened.sessions.items

-- one session more was opened
pub record HasOpened (spec : SessionSpec) (hands : ℕ) (pool : TableId × ℕ) (old new : Opened)
    : Type 0 where
  pub session : Session
  pub client : ClientState
  pub sessions_are : new.sessions.items ≡ old.sessions.items ++ session ∷ []
  pub clients_are : new.clients.items ≡ old.clients.items ++ client ∷ []
  pub room : (vec_capacity new.sessions ≡ vec_capacity old.sessions)
      × (vec_capacity new.clients ≡ vec_capacity old.clients)
  pub names : (session.spec ≡ spec) × (session.opened.value ≡ client)
  pub opened : IsSessionOpenedFor hands hands pool session
  pub new_client : IsNewClient client

-- the last hand of session k was taken out
pub record HasGiven (k : ℕ) (old new : List Session) (h : SessionHand) : Type 0 where
  pub before : Session
  pub after : Session
  pub stood : slice_get old k ≡ Some before
  pub left : new ≡ slice_set old k after
  pub more : HasOneMore after before h

-- the share of each hand, by their numbers
abbrev pub AreShares : List ClientState → List (Vec SessionHand Global) → Type 0
AreShares openings shares =
    (n : ℕ) (share : Vec SessionHand Global) → slice_get shares n ≡ Some share
    → IsNewShare openings n share.items

-- All hands of the sessions were dealt out, to so many shares.
pub record AreSharesDealt (hands : ℕ) (old new : List Session)
    (shares : List (Vec SessionHand Global)) : Type 0 where
  pub same : (specs_of new ≡ specs_of old) × (openings_of new ≡ openings_of old)
      × (map (λ s. s.shared) new ≡ map (λ s. s.shared) old)
  pub room : map (λ s. vec_capacity s.hands) new ≡ map (λ s. vec_capacity s.hands) old
  pub empty : All (HasHands 0) new
  pub count : length shares ≡ hands
  pub shares_are : AreShares (openings_of old) shares

module _ {D : Type 0} {g : disk.Ghosts D} where
  -- sessions of these specs, all dealt out, a pool with its seats, and room for what comes
  pub record IsPrepared (specs : List SessionSpec) (hands size : ℕ) (keeps : Bool)
      (p : Prepared D g) : Type 0 where
    pub pool : (frame_count p.pool ≡ 4096) × (page_size p.pool ≡ size)
        × (frames.seat_count p.pool ≡ hands)
    pub opened : AreOpened specs hands 0 (pool_id p.pool) p.opened
    pub shares : (length p.shares.items ≡ hands) × AreShares p.opened.clients.items p.shares.items
    pub seats : (length p.pool_seats.items ≡ hands)
        × All (IsNewSeat (pool_id p.pool)) p.pool_seats.items
    pub room : (p.hands.items ≡ []) × (hands ≤ vec_capacity p.hands) × (p.ends.items ≡ [])
        × (p.ends.room ≡ length specs) × (p.ends.kept ≡ keeps)

  -- ---- as it is

  -- A server over this device, with a session for each spec. Clients and hands are its own, and
  -- have done nothing yet.
  pub record IsStarted (device : Device D g) (specs : List SessionSpec) (hands : ℕ)
      (started : Started D g) : Type 0 where
    pub server : IsServer started.server
    pub opening : opening_of started.server.device ≡ device
    pub hand_count : started.server.hands ≡ hands
    pub specs_are : specs_of started.server.sessions.items ≡ specs
    pub clients_are : openings_of started.server.sessions.items ≡ started.clients.items
    pub clients : All (IsClientOf started.server) started.clients.items
        × All IsNewClient started.clients.items
    pub all_hands : length started.hands.items ≡ hands
    pub hands_are : (k : ℕ) (hand : Hand D g) → slice_get started.hands.items k ≡ Some hand
        → (hand.number ≡ k) × IsHandOf started.server hand × IsNewHand hand
