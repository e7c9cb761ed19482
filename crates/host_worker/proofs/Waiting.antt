-- What holds while a client waits.
use Rattle.std.proofs.Common.{◌≡◌, ℕ, ◌<◌, ◌≤◌, List, length, Ok, Err, sym, ap, subst, arith}
use Rattle.host_io.specs.declared.disk.Disk as disk
use Rattle.host_model.specs.{sent}
use Rattle.host_session.specs.{SendError, SessionShared, IsSendAnswer, ClientState, room_left, IsShared, SessionPlan}
use Rattle.host_session.specs.declared.error.SendError.TheVariants as send
use Rattle.host_worker.specs.{Hand, Server, HasWorked, IsHandOf, IsClientOf, HasReceived, HasAnswerRoom, HasSent, KeepsRoom, KeepsRoomBut, MayWait}
use Rattle.host_worker.proofs.Closed.{has_worked_none, has_worked_then}
use Rattle.host_worker.proofs.Receiving.{may_send, plan_still, received_nothing, received_then, records_still, room_sent}
use Rattle.host_worker.proofs.Shared.{client_still}

-- a record that wasn't sent changed nothing
pub unsent : (bytes : List ℕ) (old new : ClientState) (cause : SendError) → IsSendAnswer bytes old new (Err cause) → new ≡ old
unsent bytes old new send.Closed a = a.1
unsent bytes old new send.Full a = a.1

module _ {D : Type 0} {g : disk.Ghosts D} (server : Server D g) (hand : Hand D g) (client : ClientState) where
  -- A hand and a client, since the client began to wait.
  pub record IsWaiting (hand' : Hand D g) (client' : ClientState) : Type 0 where
    pub hand_is : IsHandOf server hand'
    pub worked : HasWorked hand hand'
    pub received : HasReceived client client'
    pub room : KeepsRoom client client'

  pub waits_first : IsHandOf server hand → IsWaiting hand client
  waits_first h = record { hand_is = h; worked = has_worked_none hand; received = received_nothing client; room = λ more r. r }

  pub waits_on : (hand' hand'' : Hand D g) (client' client'' : ClientState) → IsWaiting hand' client' → IsHandOf server hand'' → HasWorked hand' hand'' → HasReceived client' client'' → KeepsRoom client' client'' → IsWaiting hand'' client''
  waits_on hand' hand'' client' client'' w h worked received room = record {
    hand_is = h;
    worked = has_worked_then hand hand' hand'' w.worked worked;
    received = received_then client client' client'' w.received received;
    room = λ more r. room more (w.room more r);
  }

  pub waits_same : (hand' : Hand D g) (client' client'' : ClientState) → IsWaiting hand' client' → client'' ≡ client' → IsWaiting hand' client''
  waits_same hand' client' client'' w e = subst (λ (s : ClientState). IsWaiting hand' s) (sym e) w

  module _ (hand' : Hand D g) (client' : ClientState) (w : IsWaiting hand' client') where
    pub waiting_client : IsClientOf server client → IsClientOf server client'
    waiting_client c = client_still server client client' (plan_still client client' w.received) c

    pub waiting_shared : (shared : SessionShared) → IsShared client.plan shared → IsShared client'.plan shared
    waiting_shared shared s = subst (λ (p : SessionPlan). IsShared p shared) (sym (plan_still client client' w.received)) s

    pub waiting_room : (more : ℕ) → MayWait more client → HasAnswerRoom 0 client'
    waiting_room more m = let r = w.room more m.room in omega (arith, r)

    pub waiting_send : MayWait 1 client → 1 ≤ room_left client'
    waiting_send m = may_send client client' w.room m.room

    pub waiting_records : length (sent client.log) < client.plan.spec.records → length (sent client'.log) < client'.plan.spec.records
    waiting_records less =
        let e : client'.plan.spec.records ≡ client.plan.spec.records = ap (λ (p : SessionPlan). p.spec.records) (plan_still client client' w.received) in
        omega (arith, less, records_still client client' w.received, e)

    pub waited_sent : (bytes : List ℕ) (index : ℕ) (new : ClientState) → IsSendAnswer bytes client' new (Ok index) → HasSent bytes index client new
    waited_sent bytes index new s = record { before = client'; receives = w.received; sends = s }

    pub waited_room : (bytes : List ℕ) (index : ℕ) (new : ClientState) → IsSendAnswer bytes client' new (Ok index) → KeepsRoomBut 2 client new
    waited_room bytes index new s = room_sent client client' new bytes index w.room s
