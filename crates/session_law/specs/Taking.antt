-- The records of a session were taken in order.
use Rattle.std.specs.Prelude.{List}
use Rattle.host_model.specs.declared.memory.MemEntry.{MemEntry}
use Rattle.host_model.specs.Session.{Session}
use Rattle.host_model.specs.Taking.{IsTakenInOrder}
use Rattle.host_session.specs.declared.hand.SessionHand.{SessionHand}
use Rattle.host_session.specs.Client.{ClientState}
use Rattle.session_law.specs.Gathered.{IsSessionGathered, ReleaseClosed}
use Rattle.session_law.specs.Handing.{PushedAsTold}

-- the rows are those of the first records sent, with the verdicts that the client's log gives them,
-- and the log ends as the session was ended
abbrev pub TakenInOrder : Type 0
TakenInOrder =
    (client : ClientState) (hands : List SessionHand) (h : List MemEntry) (s : Session)
    (g : IsSessionGathered client hands h s) → PushedAsTold hands g.whole.intake.entries
    → ReleaseClosed client.plan.hands h → IsTakenInOrder s
