-- A server: its device, its pool and its sessions; and which clients are its own.
use Rattle.std.specs.Prelude.{◌≡◌, ℕ, ◌+◌, ◌-◌, ◌^◌, ◌<◌, ◌≤◌, Bool, [], length, slice_get, Some}
use Rattle.std.specs.Prelude.{vec_capacity}
use Rattle.std.specs.Option.{ForSome}
use Rattle.atomic_table.specs.Seated.{TableId}
use Rattle.crossbeam_utils.specs.Padded.{padded_value}
use Rattle.host_device.specs.Seen.{shape_of, steps_of}
use Rattle.host_frames.specs.declared.pool.Pool.{Pool}
use Rattle.host_frames.specs.Seats.{frame_count, page_size, pool_id}
use Rattle.host_frames.specs.Seats as frames
use Rattle.host_io.specs.declared.disk.Disk as disk
use Rattle.host_session.specs.declared.shared.SessionShared.{SessionShared}
use Rattle.host_session.specs.Client.{ClientState}
use Rattle.host_session.specs.Plan.{IsShared, SessionPlan}
use Rattle.host_turn.specs.Seats.{opening_of, seat_count}
use Rattle.host_worker.specs.declared.server.Server.{Server}
use Rattle.host_worker.specs.declared.session.Session.{Session}

-- the fixed part of a session
abbrev pub plan_of_session : Session → SessionPlan
plan_of_session s = s.opened.value.plan

-- what its client and its hands share
abbrev pub shared_of : Session → SessionShared
shared_of s = padded_value s.shared

-- Session k of a server with so many hands, over a device with so many blocks, whose pages are of
-- this pool, and whose histories are kept or not. There is room for what its hands have of it.
pub record IsSession (keeps : Bool) (blocks size hands : ℕ) (pool : TableId × ℕ) (k : ℕ)
    (s : Session) : Type 0 where
  pub number : s.spec.number ≡ k + 1
  pub spec : (plan_of_session s).spec ≡ s.spec
  pub plan : ((plan_of_session s).hands ≡ hands) × ((plan_of_session s).pool ≡ pool)
  pub shared : IsShared (plan_of_session s) (shared_of s)
  pub size_is : s.spec.size ≡ size
  pub keeps_is : s.spec.keeps ≡ keeps
  pub part : (s.spec.part.first + s.spec.part.count ≤ blocks)
      × (s.spec.part.first + s.spec.part.count < 2 ^ 64)
  pub room : (s.hands.items ≡ []) × (hands ≤ vec_capacity s.hands)

module _ {D : Type 0} {g : disk.Ghosts D} where
  abbrev pub pool_of : Server D g → Pool
  pool_of server = server.pool

  abbrev pub session_count : Server D g → ℕ
  session_count server = length server.sessions.items

  -- how many blocks the device has
  abbrev pub block_count : Server D g → ℕ
  block_count server = (shape_of (opening_of server.device)).blocks

  -- how long a block is
  abbrev pub block_size : Server D g → ℕ
  block_size server = (shape_of (opening_of server.device)).size

  -- whether its histories are kept
  abbrev pub keeps_of : Server D g → Bool
  keeps_of server = (steps_of (opening_of server.device)).kept

  -- what is shared of the session of this number
  abbrev pub IsSessionShared : Server D g → ℕ → SessionShared → Type 0
  IsSessionShared server number shared =
      ForSome (slice_get server.sessions.items (number - 1)) (λ s. shared ≡ shared_of s)

  -- A server that runs: the device had no steps at first, the pool has all its frames, and there is
  -- a seat at both for each hand.
  pub record IsServer (server : Server D g) : Type 0 where
    pub device : ((steps_of (opening_of server.device)).items ≡ [])
        × (seat_count server.device ≡ server.hands)
    pub pool : (frame_count server.pool ≡ 4096) × (frames.seat_count server.pool ≡ server.hands)
        × (page_size server.pool ≡ block_size server)
    pub sessions : (k : ℕ) (s : Session) → slice_get server.sessions.items k ≡ Some s
        → IsSession (keeps_of server) (block_count server) (block_size server) server.hands
        (pool_id server.pool) k s
    pub some : 1 ≤ server.hands

  -- the client of a session of this server
  pub record IsClientOf (server : Server D g) (client : ClientState) : Type 0 where
    pub session : Session
    pub stands : slice_get server.sessions.items (client.plan.spec.number - 1) ≡ Some session
    pub plan : client.plan ≡ plan_of_session session
