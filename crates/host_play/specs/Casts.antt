-- The list of all that take part, and how it is put together and taken apart: the clients first,
-- the last one's first, and then the workers.
use Rattle.std.specs.Prelude.{◌≡◌, ℕ, List, [], ◌∷◌, ◌++◌, length, map, reverse, filter_map}
use Rattle.std.specs.Prelude.{slice_get, Option, Some, None, IfSome, Vec}
use Rattle.std.specs.List.{AllZip}
use Rattle.std.specs.declared.alloc.Global.{Global}
use Rattle.host_io.specs.declared.disk.Disk as disk
use Rattle.host_session.specs.Client.{ClientState}
use Rattle.host_worker.specs.declared.hand.Hand.{Hand}
use Rattle.host_worker.specs.declared.server.Server.{Server}
use Rattle.script_model.specs.Plans.{PlannedSession}
use Rattle.host_play.specs.declared.actor.Actor.{Actor}
use Rattle.host_play.specs.declared.actor.Client.{Client}
use Rattle.host_play.specs.Actors.{HasPlayedPart}
use Rattle.host_play.specs.Pieces.{ArePieces}

-- pieces for each session, by their plans
pub record AreAllPieces (size : ℕ) (plans : List PlannedSession)
    (pieces : List (Vec (List ℕ) Global)) : Type 0 where
  pub count : length pieces ≡ length plans
  pub each : (k : ℕ) (plan : PlannedSession) (some : Vec (List ℕ) Global)
      → slice_get plans k ≡ Some plan → slice_get pieces k ≡ Some some
      → ArePieces size plan.lines some.items

-- the last client was taken, with its pieces, if there is one
abbrev pub HasTakenClient : List ClientState → List ClientState → List (Vec (List ℕ) Global)
    → List (Vec (List ℕ) Global) → Option Client → Type 0
HasTakenClient clients clients' pieces pieces' None =
    (clients ≡ []) × (clients' ≡ clients) × (pieces' ≡ pieces)
HasTakenClient clients clients' pieces pieces' (Some client) =
    (clients ≡ clients' ++ client.end ∷ []) × (pieces ≡ pieces' ++ client.pieces ∷ [])

-- what is told of a client, if there is one
abbrev pub told_by_client : {A : Type 0} → (ClientState → A) → Option Client → Option A
told_by_client f None = None
told_by_client f (Some client) = Some (f client.end)

-- the end of a client, if there is one
abbrev pub ends_of_client : Option Client → List ClientState
ends_of_client None = []
ends_of_client (Some client) = client.end ∷ []

-- one of these clients, with the pieces at its place
pub record IsOneOf (clients : List ClientState) (pieces : List (Vec (List ℕ) Global))
    (client : Client) : Type 0 where
  pub place : ℕ
  pub end_is : slice_get clients place ≡ Some client.end
  pub pieces_are : slice_get pieces place ≡ Some client.pieces

module _ {D : Type 0} {g : disk.Ghosts D} where
  -- its client, if it has one, is one of these
  abbrev pub IsMadeOf : List ClientState → List (Vec (List ℕ) Global) → Actor D g → Type 0
  IsMadeOf clients pieces actor = IfSome actor.client (IsOneOf clients pieces)

  -- the numbers of their hands, and what is told of their clients, by their numbers
  abbrev pub numbers_of : List (Actor D g) → List ℕ
  numbers_of actors = reverse (map (λ actor. actor.hand.number) actors)

  abbrev pub of_clients : {A : Type 0} → (ClientState → A) → List (Actor D g) → List A
  of_clients f actors = reverse (filter_map (λ actor. told_by_client f actor.client) actors)

  -- their hands, and their clients, by their numbers
  abbrev pub hands_in : List (Actor D g) → List (Hand D g)
  hands_in actors = reverse (map (λ actor. actor.hand) actors)

  abbrev pub clients_in : List (Actor D g) → List ClientState
  clients_in actors = of_clients (λ client. client) actors

  -- each has done its part
  abbrev pub AllHavePlayed : Server D g → List PlannedSession → List (Actor D g) → List (Actor D g)
      → Type 0
  AllHavePlayed server plans old new = AllZip (HasPlayedPart server plans) old new
