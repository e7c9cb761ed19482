-- What a run stands on, and what stands before its sessions begin.
use Rattle.std.specs.Prelude.{◌≡◌, ℕ, ◌+◌, ◌≤◌, List, [], length, map, All, true, IsTrue}
use Rattle.std.specs.Prelude.{vec_capacity}
use Rattle.host_block.specs.Disk.{DiskState}
use Rattle.host_block.specs.declared.range.Range.{Range}
use Rattle.host_device.specs.declared.device.Device.{Device}
use Rattle.host_device.specs.Seen as device
use Rattle.host_io.specs.Disks.{Shape}
use Rattle.host_io.specs.declared.disk.Disk as disk
use Rattle.host_session.specs.declared.spec.SessionSpec.{SessionSpec}
use Rattle.host_turn.specs.Seats.{opening_of}
use Rattle.host_worker.specs.Servers.{IsServer, keeps_of, plan_of_session}
use Rattle.host_worker.specs.Shares.{specs_of}
use Rattle.script_model.specs.Plans.{PlannedSession}
use Rattle.script_model.specs.declared.script.SessionScript.{SessionScript}
use Rattle.script_played.specs.Room.{steps_ahead}
use Rattle.host_play.specs.declared.played.Setting.{Setting}
use Rattle.host_play.specs.declared.stage.Props.{Props}
use Rattle.host_play.specs.declared.stage.Stage.{Stage}
use Rattle.host_play.specs.Actors.{IsCast}
use Rattle.host_play.specs.Calls.{CanPlay}
use Rattle.host_play.specs.Casts.{AreAllPieces, numbers_of, of_clients}
use Rattle.host_play.specs.Counts.{record_count}
use Rattle.host_play.specs.Opened.{specs_from}
use Rattle.host_play.specs.Pieces.{FitsShow}
use Rattle.host_model.specs.Lists.{below}

-- ---- what a run stands on

-- Sessions that can be played: at most sixteen, with few enough records each, buffers that have
-- pages and pieces that fit.
pub record AreSessionsPlayable (sessions : List SessionScript) : Type 0 where
  pub few : length sessions ≤ 16
  pub records : All (λ session. record_count session.lines.items ≤ 65535) sessions
  pub lines : All (λ session. All CanPlay session.lines.items) sessions
  pub shows : All (λ session. All FitsShow session.lines.items) sessions

-- a disk that is attached, with so many blocks of this size, and with nothing pending where it
-- tells
pub record IsGround (shape : Shape) (state : DiskState) (blocks size : ℕ) : Type 0 where
  pub attached : IsTrue shape.attached
  pub blocks_are : blocks ≡ shape.blocks
  pub size_is : size ≡ shape.size
  pub settled : IsTrue shape.tells → state.pending ≡ []

pub record IsSetting (setting : Setting) : Type 0 where
  pub workers : (1 ≤ setting.workers) × (setting.workers ≤ 16)
  pub depth : (1 ≤ setting.depth) × (setting.depth ≤ 128)

module _ {D : Type 0} {g : disk.Ghosts D} where
  -- ---- what is taken

  -- room for so many hands, and for the clients of these specs
  pub record HasRoomForAll (hands : ℕ) (props : Props D g) : Type 0 where
    pub count : length props.pieces.items ≡ length props.specs.items
    pub actors : (props.actors.items ≡ []) × (hands ≤ vec_capacity props.actors)
    pub clients : (props.clients.items ≡ [])
        × (length props.specs.items ≤ vec_capacity props.clients)
    pub hands_fit : (props.hands.items ≡ []) × (hands ≤ vec_capacity props.hands)

  pub record AreProps (plans : List PlannedSession) (specs : List SessionSpec) (size hands : ℕ)
      (props : Props D g) : Type 0 where
    pub specs_are : props.specs.items ≡ specs
    pub pieces_are : AreAllPieces size plans props.pieces.items
    pub room : HasRoomForAll hands props

  -- ---- what stands

  -- A server over this device with these specs, and all that take part: its clients, with the
  -- pieces at their places, and its hands. They have done nothing yet.
  pub record IsStaged (made : Device D g) (props : Props D g) (hands : ℕ) (stage : Stage D g)
      : Type 0 where
    pub server : IsServer stage.server
    pub opening : opening_of stage.server.device ≡ made
    pub hand_count : stage.server.hands ≡ hands
    pub specs_are : specs_of stage.server.sessions.items ≡ props.specs.items
    pub numbers : numbers_of stage.actors.items ≡ below hands
    pub clients : of_clients (λ client. client.plan) stage.actors.items
        ≡ map plan_of_session stage.server.sessions.items
    pub cast : (plans : List PlannedSession) (ranges : List Range) (size depth : ℕ)
        → length ranges ≡ length plans → props.specs.items ≡ specs_from 1 plans ranges size depth
        → AreAllPieces size plans props.pieces.items
        → All (IsCast stage.server plans) stage.actors.items
    pub room : (stage.clients ≡ props.clients) × (stage.hands ≡ props.hands)

  -- A server over this disk with a session for each plan, whose histories are kept, and all that
  -- take part. The device has room for the steps that the plans make at most.
  pub record IsSet (opened : D) (plans : List PlannedSession) (ranges : List Range) (size : ℕ)
      (setting : Setting) (stage : Stage D g) : Type 0 where
    pub server : IsServer stage.server
    pub opening : device.opening_of (opening_of stage.server.device) ≡ opened
    pub block_size : (device.shape_of (opening_of stage.server.device)).size ≡ size
    pub keeps : keeps_of stage.server ≡ true
    pub steps_room : (device.steps_of (opening_of stage.server.device)).room ≡ steps_ahead plans
    pub hand_count : stage.server.hands ≡ setting.workers + length plans
    pub specs_are : specs_of stage.server.sessions.items
        ≡ specs_from 1 plans ranges size setting.depth
    pub numbers : numbers_of stage.actors.items ≡ below (setting.workers + length plans)
    pub clients : of_clients (λ client. client.plan) stage.actors.items
        ≡ map plan_of_session stage.server.sessions.items
    pub cast : All (IsCast stage.server plans) stage.actors.items
    pub clients_room : (stage.clients.items ≡ []) × (length plans ≤ vec_capacity stage.clients)
    pub hands_room : (stage.hands.items ≡ [])
        × (setting.workers + length plans ≤ vec_capacity stage.hands)
