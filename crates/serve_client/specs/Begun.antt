-- A server with one client and one hand, before it begins.
use Rattle.std.specs.Prelude.{◌≡◌, ℕ, ◌*◌, ◌≤◌, Bool, [], ◌∷◌, map, vec_capacity}
use Rattle.host_device.specs.declared.device.Device.{Device}
use Rattle.host_io.specs.declared.disk.Disk as disk
use Rattle.host_session.specs.Opened.{IsNewClient}
use Rattle.host_session.specs.declared.spec.SessionSpec.{SessionSpec}
use Rattle.host_turn.specs.Seats.{opening_of}
use Rattle.host_worker.specs.Hands.{IsHandOf, IsNewHand}
use Rattle.host_worker.specs.Servers.{IsClientOf, IsServer, plan_of_session}
use Rattle.serve_client.specs.declared.begun.Begun.{Begun}
use Rattle.serve_client.specs.declared.load.Load.{Load}

-- room for each record and its answer
abbrev pub spec_for : Load → Bool → SessionSpec
spec_for load keeps = record {
  number = 1;
  part_number = 1;
  part = load.range;
  size = load.size;
  depth = 16;
  records = load.records;
  attaches = 0;
  events = 2 * load.records;
  memory_room = 0;
  keeps = keeps;
}

module _ {D : Type 0} {g : disk.Ghosts D} where
  -- A server that runs, with one hand and one client, which have done nothing and may send so many
  -- records.
  pub record IsBegun (records : ℕ) (begun : Begun D g) : Type 0 where
    pub server : IsServer begun.server
    pub one_hand : begun.server.hands ≡ 1
    pub client : IsClientOf begun.server begun.client
    pub new : IsNewClient begun.client
    pub records_are : begun.client.plan.spec.records ≡ records
    pub plans : map plan_of_session begun.server.sessions.items ≡ begun.client.plan ∷ []
    pub number : begun.hand.number ≡ 0
    pub hand : IsHandOf begun.server begun.hand
    pub new_hand : IsNewHand begun.hand
    pub clients_room : (begun.clients.items ≡ []) × (1 ≤ vec_capacity begun.clients)
    pub hands_room : (begun.hands.items ≡ []) × (1 ≤ vec_capacity begun.hands)

  -- the same, over this device
  pub record IsBegunOver (device : Device D g) (load : Load) (begun : Begun D g) : Type 0 where
    pub begins : IsBegun load.records begun
    pub opening : opening_of begun.server.device ≡ device
