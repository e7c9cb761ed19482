-- A drained log ends with its drain.
use Rattle.std.specs.Prelude.{List}
use Rattle.host_model.specs.declared.memory.MemEntry.{MemEntry}
use Rattle.host_model.specs.Session.{Session}
use Rattle.host_session.specs.declared.hand.SessionHand.{SessionHand}
use Rattle.host_session.specs.Client.{ClientState}
use Rattle.session_law.specs.Gathered.{EndsDrained, IsSessionGathered}
use Rattle.session_law.specs.Handing.{PushedAsTold}

-- No answer follows the drain, since as many were received before it as are owed.
abbrev pub DrainsComeLast : Type 0
DrainsComeLast =
    (client : ClientState) (hands : List SessionHand) (h : List MemEntry) (s : Session)
    (g : IsSessionGathered client hands h s) → PushedAsTold hands g.whole.intake.entries
    → EndsDrained client
