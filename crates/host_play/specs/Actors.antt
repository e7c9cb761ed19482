-- Those that take part in a run: clients, each with a hand that helps it, and workers.
use Rattle.std.specs.Prelude.{◌≡◌, ◌-◌, ℕ, true, List, slice_get, Option, Some, None, IfSome}
use Rattle.host_io.specs.declared.disk.Disk as disk
use Rattle.host_session.specs.Client.{ClientState}
use Rattle.host_session.specs.Opened.{IsNewClient}
use Rattle.host_worker.specs.Hands.{IsHandOf, IsNewHand}
use Rattle.host_worker.specs.Servers.{IsClientOf, session_count}
use Rattle.host_worker.specs.Turns.{EachOf, IsClosed}
use Rattle.host_worker.specs.declared.hand.Hand.{Hand}
use Rattle.host_worker.specs.declared.server.Server.{Server}
use Rattle.script_model.specs.Plans.{PlannedSession}
use Rattle.host_play.specs.declared.actor.Actor.{Actor}
use Rattle.host_play.specs.declared.actor.Client.{Client}
use Rattle.host_play.specs.Calls.{IsSquare, IsSquareAlone}
use Rattle.host_play.specs.Logs.{HasPlayedOut}
use Rattle.host_play.specs.Opened.{HasRoomForLines}
use Rattle.host_play.specs.Pieces.{ArePieces}

-- the number of a client's session
abbrev pub session_number : ClientState → ℕ
session_number client = client.plan.spec.number

-- A client that has done nothing yet, with what it needs to play its session of these plans: room,
-- and the pieces for its shows.
pub record IsClientReady (plans : List PlannedSession) (client : Client) : Type 0 where
  pub new : IsNewClient client.end
  pub plan : PlannedSession
  pub stands : slice_get plans (session_number client.end - 1) ≡ Some plan
  pub room : HasRoomForLines plan.lines client.end.plan.spec
  pub pieces : ArePieces client.end.plan.spec.size plan.lines client.pieces.items

-- It played its session of these plans, and closed it.
pub record HasPlayedSession (plans : List PlannedSession) (old new : ClientState) : Type 0 where
  pub same_plan : new.plan ≡ old.plan
  pub plan : PlannedSession
  pub stands : slice_get plans (session_number old - 1) ≡ Some plan
  pub finish_is : new.finish ≡ Some plan.finish
  pub closed_is : new.closed ≡ true
  pub played : HasPlayedOut plan.finish plan.lines new.log

abbrev pub HasActed : List PlannedSession → Option Client → Option Client → Type 0
HasActed plans None None = Unit {0}
HasActed plans (Some old) (Some new) = HasPlayedSession plans old.end new.end
HasActed plans _ _ = ⊥

module _ {D : Type 0} {g : disk.Ghosts D} where
  -- One that may begin: its hand is the server's, and new; so is its client, if it has one.
  pub record IsCast (server : Server D g) (plans : List PlannedSession) (actor : Actor D g)
      : Type 0 where
    pub hand : IsHandOf server actor.hand
    pub new_hand : IsNewHand actor.hand
    pub of_server : IfSome actor.client (λ client. IsClientOf server client.end)
    pub ready : IfSome actor.client (IsClientReady plans)

  abbrev pub IsSquareWith : Hand D g → Option Client → Type 0
  IsSquareWith hand None = IsSquareAlone hand
  IsSquareWith hand (Some client) = IsSquare hand client.end

  -- A worker stays until each session is closed, as its hand has seen them.
  abbrev pub HasStayed : Server D g → Hand D g → Option Client → Type 0
  HasStayed server hand None = EachOf 0 (session_count server) IsClosed hand
  HasStayed server hand (Some client) = Unit {0}

  -- It has done its part.
  pub record HasPlayedPart (server : Server D g) (plans : List PlannedSession) (old new : Actor D g)
      : Type 0 where
    pub hand : IsHandOf server new.hand
    pub number_is : new.hand.number ≡ old.hand.number
    pub square : IsSquareWith new.hand new.client
    pub acted : HasActed plans old.client new.client
    pub stayed : HasStayed server new.hand new.client
