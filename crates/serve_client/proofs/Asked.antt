-- A client that asked may wait again, and helped meanwhile.
use Rattle.std.proofs.Common.{◌≡◌, ℕ, ◌+◌, ◌-◌, ◌≤◌, List, [], length, None, sym, ap, subst, ◌∙◌, arith}
use Rattle.host_io.specs.declared.disk.Disk as disk
use Rattle.host_model.specs.{Event, received, sent}
use Rattle.host_session.specs.{ClientState, room_left, owed_count, IsNewClient}
use Rattle.host_worker.specs.{HasWorked, IsHandOf, HasReceived, HasAnswerRoom, HasSent, KeepsRoom, KeepsRoomBut, MayWait, Hand, Server}
use Rattle.host_play.specs.{HasHelped}
use Rattle.host_play.proofs.Accounts.{square_worked}
use Rattle.host_play.proofs.LineSteps.{send_done, wait_all_done}
use Rattle.host_play.proofs.Quiet.{received_before, sent_before}

-- one that has done nothing may wait
pub may_first : (client : ClientState) → IsNewClient client → MayWait 0 client
may_first client new = record {
  open_still = new.open_still.0;
  room =
      let s : length (sent client.log) ≡ 0 = ap (λ (log : List Event). length (sent log)) new.log in
      omega (arith, s);
}

-- one that may wait with room for two more may do so with room for one
pub may_less : (client : ClientState) → MayWait 2 client → MayWait 1 client
may_less client may = record { open_still = may.open_still; room = omega (arith, may.room) }

pub may_sent : (bytes : List ℕ) (index : ℕ) (old new : ClientState) → HasSent bytes index old new → KeepsRoomBut 2 old new → MayWait 2 old → MayWait 0 new
may_sent bytes index old new s room may = record { open_still = (send_done bytes index old new s may.open_still).open_still; room = room 0 may.room }

pub may_received : (old new : ClientState) → HasReceived old new → KeepsRoom old new → owed_count old.log ≤ length (received new.log) → MayWait 0 old → MayWait 0 new
may_received old new r room enough may = record { open_still = (wait_all_done old new r enough may.open_still).open_still; room = room 0 may.room }

module _ {D : Type 0} {g : disk.Ghosts D} (server : Server D g) where
  pub helped_sent : (hand hand' : Hand D g) (bytes : List ℕ) (index : ℕ) (old new : ClientState) → IsHandOf server hand' → HasWorked hand hand' → HasSent bytes index old new → HasHelped server hand hand' old new
  helped_sent hand hand' bytes index old new own worked s = record {
    hand = own;
    number_is = worked.number;
    account = λ sq. square_worked hand hand' old new worked (sent_before bytes index old new s) sq;
  }

  pub helped_received : (hand hand' : Hand D g) (old new : ClientState) → IsHandOf server hand' → HasWorked hand hand' → HasReceived old new → HasHelped server hand hand' old new
  helped_received hand hand' old new own worked r = record {
    hand = own;
    number_is = worked.number;
    account = λ sq. square_worked hand hand' old new worked (received_before old new r) sq;
  }
