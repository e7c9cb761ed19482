-- What a client that waits has done when it returns.
use Rattle.std.specs.Prelude.{◌≡◌, ◌≤◌, ◌+◌, ◌-◌, max, ℕ, true, List, [], ◌∷◌, ◌++◌, length, map}
use Rattle.std.specs.Prelude.{None, Some, Ok}
use Rattle.host_model.specs.declared.event.Event.{Event}
use Rattle.host_model.specs.declared.event.Event.TheVariants.{Aborted, Drained, Received}
use Rattle.host_model.specs.Log.{received, sent}
use Rattle.host_record.specs.declared.finish.Finish.TheVariants.{Abort, Drain}
use Rattle.host_session.specs.Calls.{IsSendAnswer}
use Rattle.host_session.specs.Client.{ClientState, room_left}
use Rattle.host_session.specs.Endings.{owed_count}

-- the events of these answers
abbrev pub received_events : List (List ℕ) → List Event
received_events answers = map Received answers

-- The log has room for an answer to each record sent that wasn't received, and for so many events
-- more.
abbrev pub HasAnswerRoom : ℕ → ClientState → Type 0
HasAnswerRoom more client =
    (length (sent client.log) - length (received client.log)) + more ≤ room_left client

-- there is as much room for it as before
abbrev pub KeepsRoom : ClientState → ClientState → Type 0
KeepsRoom old new = (more : ℕ) → HasAnswerRoom more old → HasAnswerRoom more new

-- the same, but for so many events
abbrev pub KeepsRoomBut : ℕ → ClientState → ClientState → Type 0
KeepsRoomBut less old new = (more : ℕ) → HasAnswerRoom (more + less) old → HasAnswerRoom more new

-- the client hasn't drained or aborted, and its log has such room
pub record MayWait (more : ℕ) (client : ClientState) : Type 0 where
  pub open_still : client.finish ≡ None
  pub room : HasAnswerRoom more client

-- A log that goes on by answers received has more of them only as far as answers are owed for what
-- was sent.
abbrev pub ReceivesOwed : List Event → List Event → Type 0
ReceivesOwed old new = length (received new) ≤ max (length (received old)) (owed_count old)

-- The client received these answers, and did nothing else.
pub record HasReceived (old new : ClientState) : Type 0 where
  pub answers : List (List ℕ)
  pub left : new
      ≡ record old
      { log = old.log ++ received_events answers; fronts = new.fronts; taker = new.taker }
  pub few : ReceivesOwed old.log new.log

-- It received answers, and then sent a record with these bytes and this index.
pub record HasSent (bytes : List ℕ) (index : ℕ) (old new : ClientState) : Type 0 where
  pub before : ClientState
  pub receives : HasReceived old before
  pub sends : IsSendAnswer bytes before new (Ok index)

-- It was ended by a drain, received answers, and was closed.
pub record HasDrained (old new : ClientState) : Type 0 where
  pub plan : new.plan ≡ old.plan
  pub answers : List (List ℕ)
  pub log_is : new.log ≡ old.log ++ received_events answers ++ Drained ∷ []
  pub few : ReceivesOwed old.log (old.log ++ received_events answers)
  pub finish_is : new.finish ≡ Some Drain
  pub closed_is : new.closed ≡ true

-- It was ended by an abort, received nothing more, and was closed.
pub record HasAborted (old new : ClientState) : Type 0 where
  pub plan : new.plan ≡ old.plan
  pub log_is : new.log ≡ old.log ++ Aborted ∷ []
  pub finish_is : new.finish ≡ Some Abort
  pub closed_is : new.closed ≡ true
